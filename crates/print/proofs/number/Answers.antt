-- `print::number` meets its contract. What stands from the first digit on is the number. Assumes nothing.
use Rattle.print.proofs.Laws.{number_put}
use borrow.Author.Rules.{rules}
use Rattle.print.proofs.number.Goals as goal

pub returns : goal.returns
returns c = number_put _ _ c.spell-i.new.d c.spell-i.result _ c.text.ensures (search rules) c.spell-i.ensures.1
