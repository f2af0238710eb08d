-- `words::one` meets its contract. Each return rewrites with the tests that led there and with what the calls before it promise. Assumes nothing.
use Rattle.words.proofs.Laws.{one_first, one_second, one_numbers}
use borrow.Author.Rules.{rules}
use Rattle.words.proofs.one.Goals as goal

pub returns-in-104 : goal.returns-in-104
returns-in-104 c = search (rules, one_first)

pub returns-in-103 : goal.returns-in-103
returns-in-103 c = search (rules, one_second)

pub returns-in_default : goal.returns-in_default
returns-in_default c = search (rules, one_numbers)
