-- `plain` meets its contract: the answer is as `said` promises it. Assumes nothing.
use borrow.Author.Rules.{rules}
use Rattle.drive_leaf.proofs.Laws.{strings}
use Rattle.drive_leaf.proofs.plain.Goals as goal

pub returns : goal.returns
returns c = search (rules, strings)
