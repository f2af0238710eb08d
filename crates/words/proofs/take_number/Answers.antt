-- `words::take_number` meets its contract. Each return rewrites with the tests that led there and with what the calls before it promise. Assumes nothing.
use Rattle.words.proofs.Laws.{number_in, number_not}
use borrow.Author.Rules.{rules}
use Rattle.words.proofs.take_number.Goals as goal

pub returns-in-Some : goal.returns-in-Some
returns-in-Some c = search (rules, number_in)

pub returns-in-None : goal.returns-in-None
returns-in-None c = search (rules, number_not)
