-- `outside` meets its contract: a range has a number of s..e exactly where the cut takes one in.
use Rattle.range_many.proofs.Laws.{outside_is}
use Prim.Native.Nat.{◌+◌}
use Rattle.range_list.proofs.Sound.{Formed, formed}
use Rattle.range_edit.proofs.Insert.{Passed, passed}
use Rattle.range_edit.proofs.Remove.{Cutting, cutting}
use Rattle.range_many.proofs.outside.Goals as goal
use Rattle.range_many.proofs.outside.Goals.{After-cut_at, After-passed-at, Start}

formed-at : (c : Start) → Formed c.args.list.now c.args.count
formed-at c = formed c.args.list.now c.args.count c.requires.2

passed-at : (c : After-passed-at) → Passed c.args.list.now c.args.count (c.args.s + 1) c.passed-at.result
passed-at c = passed _ _ _ _ c.passed-at.ensures

cutting-at : (c : After-cut_at)
    → Cutting c.args.list.now c.args.count c.args.s c.args.e c.passed-at.result c.cut_at.result
cutting-at c = cutting _ _ _ _ _ _ c.requires.0 (formed c.args.list.now c.args.count c.requires.2) (passed _ _ _ _ c.passed-at.ensures) c.cut_at.ensures

pub passed-at-requires : goal.passed-at-requires
passed-at-requires c = c.requires.2

pub cut_at-requires : goal.cut_at-requires
cut_at-requires c = ((passed-at (goal.at.cut_at-requires c).After-passed-at).low, (formed-at (goal.at.cut_at-requires c).Start).room)

pub returns : goal.returns
returns c = outside_is _ _ _ _ _ _ (cutting-at (goal.at.returns c).After-cut_at)
