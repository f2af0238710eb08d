-- What each public call on a range set does: 01, Range set, with 01's refusals.
-- The set is the first n ranges of the lent list l. A call looks at its numbers first, then at the list: a start or an end above 2 ^ 62, a number above
-- 2 ^ 62 - 1, or a list that is not in good form is Range. Then an empty range (start at or above end) changes nothing. Then Full, exactly where the
-- resulting set has more ranges than the list has places. Every refusal leaves l as it was; what lies past the resulting list is as it was after Ok too.
-- Assumes nothing.
use Rattle.std.specs.Prelude.{Result, Ok, Err, Some, None, ℕ, ◌+◌, ◌-◌, ◌^◌, Bool, true, false, cond, ◌&&◌, ◌||◌, List, [], ◌∷◌, length, ltb, leb}
use Rattle.answers.specs.declared.Refusal.{Refusal}
use Rattle.answers.specs.declared.Refusal.TheVariants.{Range as OutOfRange, Order}
use Rattle.range_list.specs.Ranges.{Range, read, flat, over, well_formed}
use Rattle.range_edit.specs.Edits.{Done, stay, refuse, insert, insert_into, remove_from, Both, both, refuse_both, replace_in}
use Rattle.range_edit.specs.declared.Changed.{Changed}
use Rattle.range_many.specs.declared.Way.TheVariants.{PutIn, TakeOut}
use Rattle.range_many.specs.Many.{merge_into}
use Rattle.range_set.specs.declared.Popped.{Popped}
use Rattle.range_set.specs.declared.Capped.{Capped}

-- s and e are within bounds, and l holds n ranges in good form
unfoldable pub valid : List ℕ → ℕ → ℕ → ℕ → Bool
valid l n s e = leb s (2 ^ 62) && (leb e (2 ^ 62) && well_formed l n)

-- a call on the range s..e that does `some` where it is not empty
unfoldable pub on_range : List ℕ → ℕ → ℕ → ℕ → Done → Done
on_range l n s e some = cond (valid l n s e) (cond (ltb s e) some (stay l n)) (refuse OutOfRange l)

-- insert, and insert one: x is the range x..x+1
abbrev pub insert_range : List ℕ → ℕ → ℕ → ℕ → Done
insert_range l n s e = on_range l n s e (insert_into l n s e)

-- remove
abbrev pub remove_range : List ℕ → ℕ → ℕ → ℕ → Done
remove_range l n s e = on_range l n s e (remove_from l n s e)

-- replace, with the lent list m of the parts
unfoldable pub replace_range : List ℕ → ℕ → ℕ → ℕ → List ℕ → Both
replace_range l n s e m =
    cond (valid l n s e)
    (cond (ltb s e) (replace_in l n s e m) (both (Ok (record { count = n; parts = 0 })) l m))
    (refuse_both OutOfRange l m)

-- a call with the second set of k ranges of o, which does `some` where both lists are in good form
unfoldable pub on_sets : List ℕ → ℕ → List ℕ → ℕ → Done → Done
on_sets l n o k some = cond (well_formed l n && well_formed o k) some (refuse OutOfRange l)

-- add, and subtract
abbrev pub add_set : List ℕ → ℕ → List ℕ → ℕ → Done
add_set l n o k = on_sets l n o k (merge_into PutIn l n (read o 0 k))

abbrev pub subtract_set : List ℕ → ℕ → List ℕ → ℕ → Done
subtract_set l n o k = on_sets l n o k (merge_into TakeOut l n (read o 0 k))

-- x is one of the numbers of rs
abbrev pub member : ℕ → List Range → Bool
member x [] = false
member x (r ∷ rs) = leb r.lo x && ltb x r.hi || member x rs

-- contains
unfoldable pub held_of : List ℕ → ℕ → ℕ → Result Bool Refusal
held_of l n x =
    cond (ltb x (2 ^ 62) && well_formed l n)
    (Ok (member x (read l 0 n)))
    (Err OutOfRange)

-- the first number of rs, and the last
abbrev pub least : List Range → Result ℕ Refusal
least [] = Err Order
least (r ∷ rs) = Ok r.lo

abbrev pub greatest : List Range → Result ℕ Refusal
greatest [] = Err Order
greatest (r ∷ []) = Ok (r.hi - 1)
greatest (r ∷ q ∷ rs) = greatest (q ∷ rs)

-- min and max
unfoldable pub bound_of : List ℕ → ℕ → Result ℕ Refusal → Result ℕ Refusal
bound_of l n b = cond (well_formed l n) b (Err OutOfRange)

-- len
unfoldable pub size_of : List ℕ → ℕ → Result ℕ Refusal
size_of l n = cond (well_formed l n) (Ok n) (Err OutOfRange)

-- what a pop leaves
pub record Pop : Type 0 where
  pub out : Result Popped Refusal
  pub mem : List ℕ

abbrev pub pop : Result Popped Refusal → List ℕ → Pop
pop r m = record { out = r; mem = m }

abbrev pub refuse_pop : Refusal → List ℕ → Pop
refuse_pop why l = pop (Err why) l

-- the lowest range of rs goes
abbrev pub pop_first : List Range → List ℕ → Pop
pop_first [] l = refuse_pop Order l
pop_first (r ∷ rs) l = pop (Ok (record { count = length rs; start = r.lo; end = r.hi })) (over (flat rs) l)

-- pop min
unfoldable pub pop_min : List ℕ → ℕ → Pop
pop_min l n = cond (well_formed l n) (pop_first (read l 0 n) l) (refuse_pop OutOfRange l)

-- what an insert at a limit leaves
pub record Cap : Type 0 where
  pub out : Result Capped Refusal
  pub mem : List ℕ

abbrev pub cap : Result Capped Refusal → List ℕ → Cap
cap r m = record { out = r; mem = m }

abbrev pub refuse_cap : Refusal → List ℕ → Cap
refuse_cap why l = cap (Err why) l

-- nothing is dropped
abbrev pub undropped : Result Changed Refusal → Result Capped Refusal
undropped (Ok r) = Ok (record { count = r.count; changed = r.changed; dropped = None })
undropped (Err why) = Err why

abbrev pub plain : Done → Cap
plain d = cap (undropped d.out) d.mem

-- the lowest range of rs, which are the set with a new number, is dropped
abbrev pub lowest_out : List Range → List ℕ → Cap
lowest_out [] l = refuse_cap Order l
lowest_out (r ∷ rs) l = cap (Ok (record { count = length rs; changed = true; dropped = Some (record { start = r.lo; end = r.hi }) })) (over (flat rs) l)

-- a number, a limit and a list that an insert at a limit takes: no limit is 0, and the set has no more ranges than the limit
unfoldable pub cappable : List ℕ → ℕ → ℕ → ℕ → Bool
cappable l n x limit = ltb x (2 ^ 62) && (ltb 0 limit && (leb n limit && well_formed l n))

-- insert one at a limit: of more than limit ranges the lowest is dropped, the new one too if it is that
unfoldable pub insert_capped : List ℕ → ℕ → ℕ → ℕ → Cap
insert_capped l n x limit =
    cond (cappable l n x limit)
    (cond (leb (length (insert x (x + 1) (read l 0 n))) limit) (plain (insert_into l n x (x + 1))) (lowest_out (insert x (x + 1) (read l 0 n)) l))
    (refuse_cap OutOfRange l)
