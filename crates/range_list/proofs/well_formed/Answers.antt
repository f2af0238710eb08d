-- `well_formed` meets its contract: what `is_sorted_by` says of the numbers, and the bound of the last, are what a sound list is.
use native.Mathlib.Omega.{arith}
use lib.Dec.{ltb}
use borrow.Author.Rules.{rules}
use Rattle.std.proofs.lemmas.List.Sorted.{answers_always}
use Rattle.range_list.proofs.Ascending.{formed_where, not_formed}
use Rattle.range_list.proofs.well_formed.Goals as goal

pub returns-then-is_sorted_by : goal.returns-then-is_sorted_by
returns-then-is_sorted_by c =
    let k = rw c.if-is_sorted_by.true at (c.is_sorted_by.ensures.cases ltb (answers_always _ _ _ (λ f a r g k. search rules))) in
    formed_where c.args.list.now c.args.count (omega arith) (omega arith) k

pub returns-else-is_sorted_by : goal.returns-else-is_sorted_by
returns-else-is_sorted_by c =
    let k = rw c.if-is_sorted_by.false at (c.is_sorted_by.ensures.cases ltb (answers_always _ _ _ (λ f a r g k. search rules))) in
    rw c.if-is_sorted_by.false (not_formed c.args.list.now c.args.count (omega arith) (omega arith) k.0 k.1 k.2)
