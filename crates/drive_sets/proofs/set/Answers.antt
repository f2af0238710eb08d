-- `set` meets its contract: rs.replace alone writes the parts. Assumes nothing.
use borrow.Author.Rules.{rules}
use Rattle.drive_sets.proofs.Laws.{sets}
use Rattle.drive_sets.proofs.set.Goals as goal

pub returns-then-code-eq-RS_REPLACE : goal.returns-then-code-eq-RS_REPLACE
returns-then-code-eq-RS_REPLACE c = search (rules, sets)

pub returns : goal.returns
returns c = search (rules, sets)
