-- `drive_rs::words` meets its contract. Each return is a law of Laws.antt, from what the calls before it promise. Assumes nothing.
use Rattle.drive_rs.proofs.Laws.{laws}
use borrow.Author.Rules.{rules}
use Rattle.drive_rs.proofs.words.Goals as goal

pub returns-then-places-le-PLACES : goal.returns-then-places-le-PLACES
returns-then-places-le-PLACES c = search (rules, laws)

pub returns-else-places-le-PLACES : goal.returns-else-places-le-PLACES
returns-else-places-le-PLACES c = search (rules, laws)
