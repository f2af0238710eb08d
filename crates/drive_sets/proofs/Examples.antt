-- Events of docs/EVENTS.md: the definitions compute them. Assumes nothing.
use mathlib.Core.Path.{◌≡◌, refl}
use mathlib.Core.List.{[], ◌∷◌}
use Rattle.answers.specs.Answers.{RANGE, FULL}
use Rattle.codes.specs.Codes.{RS_INSERT, RS_MIN}
use Rattle.range_edit.specs.Edits.{insert_into}
use Rattle.range_many.specs.Many.{merge_into}
use Rattle.range_set.specs.Set.{valid, on_range, on_sets, bound_of}
use Rattle.drive_sets.specs.Sets.{plainly, valued, both, ask_of, edit_of, set_of, filled, renew_of}

-- rs.insert 9 12 of {3..9}, then rs.min
pub insert_event : set_of RS_INSERT (9 ∷ 12 ∷ []) 2 (3 ∷ 9 ∷ []) 1 [] ≡ both (valued 0 1 1) (3 ∷ 12 ∷ []) []
unfolding set_of edit_of on_range valid insert_into
insert_event = refl

pub min_event : set_of RS_MIN (0 ∷ 0 ∷ []) 0 (3 ∷ 12 ∷ []) 1 [] ≡ both (valued 0 3 1) (3 ∷ 12 ∷ []) []
unfolding set_of edit_of ask_of bound_of
min_event = refl

-- rs.new 9 12 3 9: the words need not ascend, and what touches is one range
pub new_event : renew_of (9 ∷ 12 ∷ 3 ∷ 9 ∷ []) 4 (5 ∷ 6 ∷ []) 1 (0 ∷ 0 ∷ []) ≡ both (plainly 0 1) (3 ∷ 12 ∷ []) (3 ∷ 12 ∷ [])
unfolding renew_of filled on_range valid insert_into on_sets merge_into
new_event = refl

-- rs.new 1 2 4 5 with one place: FULL, and the set is the one from before
pub new_full : renew_of (1 ∷ 2 ∷ 4 ∷ 5 ∷ []) 4 (5 ∷ 6 ∷ []) 1 (0 ∷ 0 ∷ 0 ∷ 0 ∷ []) ≡ both (plainly FULL 1) (5 ∷ 6 ∷ []) (1 ∷ 2 ∷ 4 ∷ 5 ∷ [])
unfolding renew_of filled on_range valid insert_into on_sets merge_into
new_full = refl

-- rs.new 1 2 with a second range that is past 2 ^ 62: RANGE, and the set is the one from before
pub new_far : renew_of (1 ∷ 2 ∷ 4 ∷ 4611686018427387905 ∷ []) 4 (5 ∷ 6 ∷ []) 1 (0 ∷ 0 ∷ []) ≡ both (plainly RANGE 1) (5 ∷ 6 ∷ []) (1 ∷ 2 ∷ [])
unfolding renew_of filled on_range valid insert_into
new_far = refl
