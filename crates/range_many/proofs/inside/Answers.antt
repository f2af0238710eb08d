-- `inside` meets its contract: only the first range that does not end before s can have all of s..e.
use Rattle.range_many.proofs.Laws.{inside_is}
use Rattle.range_list.proofs.Sound.{Formed, formed}
use Rattle.range_edit.proofs.Insert.{Passed, passed}
use Rattle.range_many.proofs.inside.Goals as goal
use Rattle.range_many.proofs.inside.Goals.{After-passed-at, Start}

formed-at : (c : Start) → Formed c.args.list.now c.args.count
formed-at c = formed c.args.list.now c.args.count c.requires.1

passed-at : (c : After-passed-at) → Passed c.args.list.now c.args.count c.args.s c.passed-at.result
passed-at c = passed _ _ _ _ c.passed-at.ensures

pub passed-at-requires : goal.passed-at-requires
passed-at-requires c = c.requires.1

pub covered-requires : goal.covered-requires
covered-requires c = ((passed-at (goal.at.covered-requires c).After-passed-at).low, (formed-at (goal.at.covered-requires c).Start).room)

pub returns : goal.returns
returns c = inside_is _ _ (formed-at (goal.at.returns c).Start) _ _ _ c.requires.0 (passed-at (goal.at.returns c).After-passed-at) _ c.covered.ensures
