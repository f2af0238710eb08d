-- `lines::read_on` meets its contract. What is held is moved to the start, and a read leaves what stands before its part as it was. Assumes nothing.
use Rattle.lines.proofs.Laws.{reads}
use borrow.Author.Rules.{rules}
use Rattle.lines.proofs.read_on.Goals as goal

pub returns-in-Ok-eq0-clause-read : goal.returns-in-Ok-eq0-clause-read
returns-in-Ok-eq0-clause-read g c = search (rules, reads)

pub returns-in-Ok-clause-read : goal.returns-in-Ok-clause-read
returns-in-Ok-clause-read g c = search (rules, reads)

pub returns-in-Err-clause-read : goal.returns-in-Err-clause-read
returns-in-Err-clause-read g c = search (rules, reads)
