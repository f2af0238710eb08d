-- The worked examples of 01: the definitions compute them.
use mathlib.Core.Path.{◌≡◌, refl}
use mathlib.Core.Bool.{true, false}
use mathlib.Core.List.{[], ◌∷◌}
use Rattle.std.specs.Prelude.{Ok, Some}
use Rattle.answers.specs.declared.Refusal.TheVariants.{Full}
use Rattle.range_list.specs.Ranges.{well_formed}
use Rattle.range_edit.specs.Edits.{done, both, refuse, refuse_both, insert_into, remove_from, replace_in}
use Rattle.range_many.specs.Many.{merge_into}
use Rattle.range_set.specs.Set.{insert_range, remove_range, replace_range, add_set, subtract_set, on_sets, cap, insert_capped, on_range, valid, cappable}

-- 3..5 with 5..9 is stored as 3..9
pub touching_joined : insert_range (3 ∷ 5 ∷ 7 ∷ 7 ∷ []) 1 5 9 ≡ done (Ok (record { count = 1; changed = true })) (3 ∷ 9 ∷ 7 ∷ 7 ∷ [])
unfolding on_range valid insert_into
touching_joined = refl

-- and left apart they are no set
pub touching_apart : well_formed (3 ∷ 5 ∷ 5 ∷ 9 ∷ []) 2 ≡ false
touching_apart = refl

-- into {3..8}, replace 6..12 reports 6..8 and leaves {3..12}
pub replaced : replace_range (3 ∷ 8 ∷ []) 1 6 12 (0 ∷ 0 ∷ []) ≡ both (Ok (record { count = 1; parts = 1 })) (3 ∷ 12 ∷ []) (6 ∷ 8 ∷ [])
unfolding replace_range valid replace_in
replaced = refl

-- mere touching is not reported, and needs no place for parts
pub touching_unreported : replace_range (3 ∷ 6 ∷ []) 1 6 12 [] ≡ both (Ok (record { count = 1; parts = 0 })) (3 ∷ 12 ∷ []) []
unfolding replace_range valid replace_in
touching_unreported = refl

-- too little room for the parts is Full, and nothing has changed
pub parts_full : replace_range (3 ∷ 8 ∷ []) 1 6 12 [] ≡ refuse_both Full (3 ∷ 8 ∷ []) []
unfolding replace_range valid replace_in
parts_full = refl

-- a replace with start above end changes and reports nothing (the Rust reports 1..0)
pub replace_empty : replace_range (0 ∷ 1 ∷ []) 1 1 0 (4 ∷ 4 ∷ []) ≡ both (Ok (record { count = 1; parts = 0 })) (0 ∷ 1 ∷ []) (4 ∷ 4 ∷ [])
unfolding replace_range valid replace_in
replace_empty = refl

-- a remove from the middle splits, and needs one place more
pub split : remove_range (0 ∷ 10 ∷ 7 ∷ 7 ∷ []) 1 3 4 ≡ done (Ok (record { count = 2; changed = true })) (0 ∷ 3 ∷ 4 ∷ 10 ∷ [])
unfolding on_range valid remove_from
split = refl

pub split_full : remove_range (0 ∷ 10 ∷ []) 1 3 4 ≡ refuse Full (0 ∷ 10 ∷ [])
unfolding on_range valid remove_from
split_full = refl

-- what lies past the resulting list is as it was, also where the list becomes shorter
pub shrunk : insert_range (3 ∷ 5 ∷ 7 ∷ 9 ∷ []) 2 5 7 ≡ done (Ok (record { count = 1; changed = true })) (3 ∷ 9 ∷ 7 ∷ 9 ∷ [])
unfolding on_range valid insert_into
shrunk = refl

-- at a limit of 2: a third range drops the lowest, and the new one where it is that
pub lowest_dropped : insert_capped (3 ∷ 5 ∷ 7 ∷ 9 ∷ []) 2 11 2 ≡ cap (Ok (record { count = 2; changed = true; dropped = Some (record { start = 3; end = 5 }) })) (7 ∷ 9 ∷ 11 ∷ 12 ∷ [])
unfolding insert_capped cappable insert_into
lowest_dropped = refl

pub new_dropped : insert_capped (3 ∷ 5 ∷ 7 ∷ 9 ∷ []) 2 0 2 ≡ cap (Ok (record { count = 2; changed = true; dropped = Some (record { start = 0; end = 1 }) })) (3 ∷ 5 ∷ 7 ∷ 9 ∷ [])
unfolding insert_capped cappable insert_into
new_dropped = refl

-- capacity 2: a set on the way would need three places, the results fit
pub added : add_set (10 ∷ 11 ∷ 12 ∷ 13 ∷ []) 2 (0 ∷ 1 ∷ 11 ∷ 12 ∷ []) 2 ≡ done (Ok (record { count = 2; changed = true })) (0 ∷ 1 ∷ 10 ∷ 13 ∷ [])
unfolding on_sets merge_into
added = refl

pub subtracted : subtract_set (0 ∷ 10 ∷ 20 ∷ 21 ∷ []) 2 (3 ∷ 4 ∷ 20 ∷ 21 ∷ []) 2 ≡ done (Ok (record { count = 2; changed = true })) (0 ∷ 3 ∷ 4 ∷ 10 ∷ [])
unfolding on_sets merge_into
subtracted = refl

-- where the result itself is too large, nothing has changed
pub added_full : add_set (10 ∷ 11 ∷ []) 1 (0 ∷ 1 ∷ []) 1 ≡ refuse Full (10 ∷ 11 ∷ [])
unfolding on_sets merge_into
added_full = refl
