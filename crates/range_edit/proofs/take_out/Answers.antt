-- `take_out` meets its contract: of the ranges that meet s..e only the ends of the first and the last are left, and a remove is that splice.
-- what is known after each call
use Prim.Native.Nat.{ℕ, ◌+◌, ◌/◌, ◌≤◌}
use mathlib.Core.List.{List}
use native.Mathlib.Omega.{arith}
use lib.ListN.{length}
use Rattle.range_edit.specs.declared.Cut.{Cut}
use Rattle.range_list.proofs.Sound.{Formed, formed}
use Rattle.range_edit.proofs.Insert.{Passed, passed}
use Rattle.range_edit.proofs.Remove.{Cutting, cutting, cuts_none, cuts_full, cuts_put, cuts_all, pieces_two, pieces_left, pieces_right, pieces_none}
use Rattle.range_edit.proofs.take_out.Goals as goal
use Rattle.range_edit.proofs.take_out.Goals.{After-cut_at-hi, After-passed-lo, Start}

formed-at : (c : Start) → Formed c.args.list.now c.args.count
formed-at c = formed c.args.list.now c.args.count c.requires.2

passed-at : (c : After-passed-lo) → Passed c.args.list.now c.args.count (c.args.s + 1) c.passed-lo.result
passed-at c = passed _ _ _ _ c.passed-lo.ensures

-- where the cut is known, all that the answers need
record Known (l : List ℕ) (n s e lo : ℕ) (k : Cut) : Type 0 where
  room : n ≤ length l / 2
  cutting : Cutting l n s e lo k

known : (c : After-cut_at-hi)
    → Known c.args.list.now c.args.count c.args.s c.args.e c.passed-lo.result c.cut_at-hi.result
known c =
    let w = (formed c.args.list.now c.args.count c.requires.2) in
    record { room = w.room; cutting = cutting _ _ _ _ _ _ c.requires.0 w (passed _ _ _ _ c.passed-lo.ensures) c.cut_at-hi.ensures }

pub passed-lo-requires : goal.passed-lo-requires
passed-lo-requires c = c.requires.2

pub cut_at-hi-requires : goal.cut_at-hi-requires
cut_at-hi-requires c = ((passed-at (goal.at.cut_at-hi-requires c).After-passed-lo).low, (formed-at (goal.at.cut_at-hi-requires c).Start).room)

pub returns-then-hi-lo : goal.returns-then-hi-lo
returns-then-hi-lo c = cuts_none _ _ _ _ _ _ (known (goal.at.returns-then-hi-lo c).After-cut_at-hi).cutting c.if-hi-lo.true

pub overflow_mul-first : goal.overflow_mul-first
overflow_mul-first c = let k = known (goal.at.overflow_mul-first c).After-cut_at-hi in omega arith

pub offset_bounds-list-lo : goal.offset_bounds-list-lo
offset_bounds-list-lo c = let k = known (goal.at.offset_bounds-list-lo c).After-cut_at-hi in omega arith

pub bounds-list-lo : goal.bounds-list-lo
bounds-list-lo c = let k = known (goal.at.bounds-list-lo c).After-cut_at-hi in omega arith

pub overflow_sub-kept : goal.overflow_sub-kept
overflow_sub-kept c = let k = known (goal.at.overflow_sub-kept c).After-cut_at-hi in omega arith

pub overflow_add-kept : goal.overflow_add-kept
overflow_add-kept c = let k = known (goal.at.overflow_add-kept c).After-cut_at-hi in omega arith

pub overflow_add-kept-then-e-last : goal.overflow_add-kept-then-e-last
overflow_add-kept-then-e-last c = let k = known (goal.at.overflow_add-kept-then-e-last c).After-cut_at-hi in omega arith

pub returns-then-list-kept : goal.returns-then-list-kept
returns-then-list-kept c =
    cuts_full _ _ _ _ _ _ (known (goal.at.returns-then-list-kept c).After-cut_at-hi).cutting c.if-hi-lo.false _ (pieces_two _ _ _ _ c.if-first-s.true c.if-e-last.true) c.if-list-kept.true

pub splice_two-requires : goal.splice_two-requires
splice_two-requires c = let k = known (goal.at.splice_two-requires c).After-cut_at-hi in omega arith

pub returns-then-e-last : goal.returns-then-e-last
returns-then-e-last c =
    cuts_put _ _ _ _ _ _ (known (goal.at.returns-then-e-last c).After-cut_at-hi).cutting c.if-hi-lo.false _ (pieces_two _ _ _ _ c.if-first-s.true c.if-e-last.true) _ c.settled.ensures _ c.if-list-kept.false c.splice_two.ensures

pub splice_one-requires : goal.splice_one-requires
splice_one-requires c = let k = known (goal.at.splice_one-requires c).After-cut_at-hi in omega arith

pub returns-then-first-s : goal.returns-then-first-s
returns-then-first-s c =
    let k = known (goal.at.returns-then-first-s c).After-cut_at-hi in
    cuts_put _ _ _ _ _ _ k.cutting c.if-hi-lo.false _ (pieces_left _ _ _ _ c.if-first-s.true c.if-e-last.false) _ c.settled-then-first-s.ensures _ (omega arith) c.splice_one.ensures

pub splice_one-requires-then-e-last-2 : goal.splice_one-requires-then-e-last-2
splice_one-requires-then-e-last-2 c = let k = known (goal.at.splice_one-requires-then-e-last-2 c).After-cut_at-hi in omega arith

pub returns-then-e-last-2 : goal.returns-then-e-last-2
returns-then-e-last-2 c =
    let k = known (goal.at.returns-then-e-last-2 c).After-cut_at-hi in
    cuts_put _ _ _ _ _ _ k.cutting c.if-hi-lo.false _ (pieces_right _ _ _ _ c.if-first-s.false c.if-e-last-2.true) _ c.settled-then-e-last-2.ensures _ (omega arith) c.splice_one-then-e-last-2.ensures

pub splice_none-requires : goal.splice_none-requires
splice_none-requires c = let k = known (goal.at.splice_none-requires c).After-cut_at-hi in omega arith

pub returns : goal.returns
returns c =
    let k = known (goal.at.returns c).After-cut_at-hi in
    cuts_all _ _ _ _ _ _ k.cutting c.if-hi-lo.false k.room (pieces_none _ _ _ _ c.if-first-s.false c.if-e-last-2.false) _ c.settled-2.ensures _ c.splice_none.ensures
