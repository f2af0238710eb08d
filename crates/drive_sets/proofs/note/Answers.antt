-- `note` meets its contract: the test picks the event, and the window promises the rest. Assumes nothing.
use borrow.Author.Rules.{rules}
use Rattle.drive_sets.proofs.Laws.{basics}
use Rattle.drive_sets.proofs.note.Goals as goal

pub returns-then-code-eq-DD_NEW : goal.returns-then-code-eq-DD_NEW
returns-then-code-eq-DD_NEW c = search (rules, basics)

pub returns-in-Ok : goal.returns-in-Ok
returns-in-Ok c = search (rules, basics)

pub returns-in-Err : goal.returns-in-Err
returns-in-Err c = search (rules, basics)
