-- The table is the definition's: a record goes, and where a stream is granted one comes in.
use Rattle.stream_places.proofs.Frees.{givesback}
use borrow.Author.Rules.{rules}
use Rattle.stream_places.proofs.give_back.Goals as goal

pub returns-in_default : goal.returns-in_default
returns-in_default c = search (rules, givesback)

pub returns : goal.returns
returns c = search (rules, givesback)
