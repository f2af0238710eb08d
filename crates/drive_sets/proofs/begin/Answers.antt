-- `begin` meets its contract: the fresh window. Assumes nothing.
use borrow.Author.Rules.{rules}
use Rattle.drive_sets.proofs.Laws.{basics}
use Rattle.drive_sets.proofs.begin.Goals as goal

pub returns : goal.returns
returns c = search (rules, basics)
