-- `ledger::begin` meets its contract. Each return is a law of Laws.antt, from what the calls before it promise. Assumes nothing.
use Rattle.ledger.proofs.Laws.{laws}
use borrow.Author.Rules.{rules}
use Rattle.ledger.proofs.begin.Goals as goal

pub returns : goal.returns
returns c = search (rules, laws)
