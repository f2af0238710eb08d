-- `print::range` meets its contract. What stands from the first digit on of each is the number. Assumes nothing.
use Rattle.print.proofs.Laws.{range_put}
use borrow.Author.Rules.{rules}
use Rattle.print.proofs.range.Goals as goal

pub returns : goal.returns
returns c =
    range_put _ _ c.spell-i.new.d c.spell-i.result _ c.spell-j.new.d c.spell-j.result _ c.three.ensures (search rules) c.spell-i.ensures.1 (search rules) c.spell-j.ensures.1
