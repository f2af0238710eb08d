-- `fewer_with` meets its contract: so many ranges fewer as touch s..e.
use Rattle.range_many.proofs.Laws.{fewer_with_is}
use Rattle.range_list.proofs.Sound.{Formed, formed}
use Rattle.range_edit.proofs.Insert.{Passed, passed, Reached, reached}
use Rattle.range_many.proofs.fewer_with.Goals as goal
use Rattle.range_many.proofs.fewer_with.Goals.{After-grow, After-passed-at, Start}

formed-at : (c : Start) → Formed c.args.list.now c.args.count
formed-at c = formed c.args.list.now c.args.count c.requires.2

passed-at : (c : After-passed-at) → Passed c.args.list.now c.args.count c.args.s c.passed-at.result
passed-at c = passed _ _ _ _ c.passed-at.ensures

reached-at : (c : After-grow)
    → Reached c.args.list.now c.args.count c.args.s c.args.e c.passed-at.result c.grow.result
reached-at c = reached _ _ _ _ _ _ (formed c.args.list.now c.args.count c.requires.2) (passed _ _ _ _ c.passed-at.ensures) c.grow.ensures

pub passed-at-requires : goal.passed-at-requires
passed-at-requires c = c.requires.2

pub grow-requires : goal.grow-requires
grow-requires c = ((passed-at (goal.at.grow-requires c).After-passed-at).low, (formed-at (goal.at.grow-requires c).Start).room)

pub overflow_sub-result : goal.overflow_sub-result
overflow_sub-result c = (reached-at (goal.at.overflow_sub-result c).After-grow).above

pub returns : goal.returns
returns c = fewer_with_is _ _ (formed-at (goal.at.returns c).Start) _ _ _ _ (reached-at (goal.at.returns c).After-grow)
