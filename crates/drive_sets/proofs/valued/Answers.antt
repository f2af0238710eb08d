-- `valued` meets its contract: a law for each arm. Assumes nothing.
use borrow.Author.Rules.{rules}
use Rattle.drive_sets.proofs.Laws.{results}
use Rattle.drive_sets.proofs.valued.Goals as goal

pub returns-in-Ok : goal.returns-in-Ok
returns-in-Ok c = search (rules, results)

pub returns-in-Err : goal.returns-in-Err
returns-in-Err c = search (rules, results)
