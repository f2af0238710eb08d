-- `drive_rs::cap` meets its contract. Each return is a law of Laws.antt, from what the calls before it promise. Assumes nothing.
use Rattle.drive_rs.proofs.Laws.{laws}
use borrow.Author.Rules.{rules}
use Rattle.drive_rs.proofs.cap.Goals as goal

pub returns-then-a-gt256 : goal.returns-then-a-gt256
returns-then-a-gt256 c = search (rules, laws)

pub returns-then-b-gt256 : goal.returns-then-b-gt256
returns-then-b-gt256 c = search (rules, laws)

pub returns : goal.returns
returns c = search (rules, laws)
