-- `fewer_without` meets its contract: of the ranges that meet s..e only the two ends are left.
use Rattle.range_many.proofs.Laws.{one_most, fewer_without_none, fewer_without_some}
use Prim.Native.Nat.{◌+◌}
use native.Mathlib.Omega.{arith}
use Rattle.range_list.proofs.Sound.{Formed, formed}
use Rattle.range_edit.proofs.Insert.{Passed, passed}
use Rattle.range_edit.proofs.Remove.{Cutting, cutting}
use Rattle.range_many.proofs.fewer_without.Goals as goal
use Rattle.range_many.proofs.fewer_without.Goals.{After-cut_at-upto, After-passed-at, Start}

formed-at : (c : Start) → Formed c.args.list.now c.args.count
formed-at c = formed c.args.list.now c.args.count c.requires.2

passed-at : (c : After-passed-at) → Passed c.args.list.now c.args.count (c.args.s + 1) c.passed-at.result
passed-at c = passed _ _ _ _ c.passed-at.ensures

cutting-at : (c : After-cut_at-upto)
    → Cutting c.args.list.now c.args.count c.args.s c.args.e c.passed-at.result c.cut_at-upto.result
cutting-at c = cutting _ _ _ _ _ _ c.requires.0 (formed c.args.list.now c.args.count c.requires.2) (passed _ _ _ _ c.passed-at.ensures) c.cut_at-upto.ensures

pub passed-at-requires : goal.passed-at-requires
passed-at-requires c = c.requires.2

pub cut_at-upto-requires : goal.cut_at-upto-requires
cut_at-upto-requires c = ((passed-at (goal.at.cut_at-upto-requires c).After-passed-at).low, (formed-at (goal.at.cut_at-upto-requires c).Start).room)

pub returns-then-upto-at : goal.returns-then-upto-at
returns-then-upto-at c =
    fewer_without_none _ _ (formed-at (goal.at.returns-then-upto-at c).Start) _ _ _ _ c.requires.0 (cutting-at (goal.at.returns-then-upto-at c).After-cut_at-upto) c.if-upto-at.true

pub overflow_mul-at : goal.overflow_mul-at
overflow_mul-at c = let x = cutting-at (goal.at.overflow_mul-at c).After-cut_at-upto in let w = formed-at (goal.at.overflow_mul-at c).Start in omega arith

pub offset_bounds-list-at : goal.offset_bounds-list-at
offset_bounds-list-at c = let x = cutting-at (goal.at.offset_bounds-list-at c).After-cut_at-upto in let w = formed-at (goal.at.offset_bounds-list-at c).Start in omega arith

pub bounds-list-at : goal.bounds-list-at
bounds-list-at c = let x = cutting-at (goal.at.bounds-list-at c).After-cut_at-upto in let w = formed-at (goal.at.bounds-list-at c).Start in omega arith

pub overflow_add-result : goal.overflow_add-result
overflow_add-result c = let x = cutting-at (goal.at.overflow_add-result c).After-cut_at-upto in let w = formed-at (goal.at.overflow_add-result c).Start in omega arith

pub overflow_add-result-2 : goal.overflow_add-result-2
overflow_add-result-2 c = let x = cutting-at (goal.at.overflow_add-result-2 c).After-cut_at-upto in omega (arith, c.from-left.ensures, c.from-right.ensures, one_most)

pub overflow_sub-result-2 : goal.overflow_sub-result-2
overflow_sub-result-2 c = let x = cutting-at (goal.at.overflow_sub-result-2 c).After-cut_at-upto in omega (arith, c.from-left.ensures, c.from-right.ensures, one_most)

pub returns : goal.returns
returns c =
    fewer_without_some _ _ (formed-at (goal.at.returns c).Start) _ _ _ _ c.requires.0 (cutting-at (goal.at.returns c).After-cut_at-upto) c.if-upto-at.false _ _ c.from-left.ensures c.from-right.ensures
