-- `words::take_name` meets its contract. Each return rewrites with the tests that led there and with what the calls before it promise. Assumes nothing.
use Rattle.words.proofs.Laws.{name_zero, name_one, name_not}
use borrow.Author.Rules.{rules}
use Rattle.words.proofs.take_name.Goals as goal

pub returns-then-same : goal.returns-then-same
returns-then-same c = search (rules, name_zero)

pub returns-then-same-2 : goal.returns-then-same-2
returns-then-same-2 c = search (rules, name_one)

pub returns-else-same-2 : goal.returns-else-same-2
returns-else-same-2 c = search (rules, name_not)
