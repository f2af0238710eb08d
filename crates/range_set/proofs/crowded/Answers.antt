-- `crowded` meets its contract: an insert adds at most one range, and where that matters its size is counted.
use Prim.Native.Nat.{◌+◌}
use Rattle.range_set.proofs.AtLimit.{crowded_not, crowded_is}
use native.Mathlib.Omega.{arith}
use Rattle.range_list.proofs.Sound.{Formed, formed}
use Rattle.range_edit.proofs.Insert.{Passed, passed, Reached, reached}
use Rattle.range_set.proofs.crowded.Goals as goal
use Rattle.range_set.proofs.crowded.Goals.{After-grow, After-passed-at, Start}

formed-at : (c : Start) → Formed c.args.list.now c.args.count
formed-at c = formed c.args.list.now c.args.count c.requires.2

passed-at : (c : After-passed-at) → Passed c.args.list.now c.args.count c.args.x c.passed-at.result
passed-at c = passed _ _ _ _ c.passed-at.ensures

reached-at : (c : After-grow)
    → Reached c.args.list.now c.args.count c.args.x (c.args.x + 1) c.passed-at.result c.grow.result
reached-at c = reached _ _ _ _ _ _ (formed c.args.list.now c.args.count c.requires.2) (passed _ _ _ _ c.passed-at.ensures) c.grow.ensures

pub returns-then-count-limit : goal.returns-then-count-limit
returns-then-count-limit c = crowded_not _ _ _ _ c.if-count-limit.true

pub passed-at-requires : goal.passed-at-requires
passed-at-requires c = c.requires.2

pub grow-requires : goal.grow-requires
grow-requires c = ((passed-at (goal.at.grow-requires c).After-passed-at).low, (formed-at (goal.at.grow-requires c).Start).room)

pub overflow_add-result : goal.overflow_add-result
overflow_add-result c = let p = passed-at (goal.at.overflow_add-result c).After-passed-at in let w = formed-at (goal.at.overflow_add-result c).Start in omega arith

pub overflow_sub-result : goal.overflow_sub-result
overflow_sub-result c = (reached-at (goal.at.overflow_sub-result c).After-grow).within

pub overflow_add-result-2 : goal.overflow_add-result-2
overflow_add-result-2 c =
    let p = passed-at (goal.at.overflow_add-result-2 c).After-passed-at in let w = formed-at (goal.at.overflow_add-result-2 c).Start in let r = reached-at (goal.at.overflow_add-result-2 c).After-grow in omega arith

pub returns : goal.returns
returns c = crowded_is _ _ _ _ _ _ (reached-at (goal.at.returns c).After-grow)
