-- `number` meets its contract: the answer is as `said` promises it. Assumes nothing.
use borrow.Author.Rules.{rules}
use Rattle.drive_sets.proofs.Laws.{basics}
use Rattle.drive_sets.proofs.number.Goals as goal

pub returns : goal.returns
returns c = search (rules, basics)
