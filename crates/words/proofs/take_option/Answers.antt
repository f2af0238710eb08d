-- `words::take_option` meets its contract. Each return rewrites with the tests that led there and with what the calls before it promise. Assumes nothing.
use Rattle.words.proofs.Laws.{option_none, option_some, option_not}
use borrow.Author.Rules.{rules}
use Rattle.words.proofs.take_option.Goals as goal

pub returns-then-same : goal.returns-then-same
returns-then-same c = search (rules, option_none)

pub returns-in-Some : goal.returns-in-Some
returns-in-Some c = search (rules, option_some)

pub returns-in-None : goal.returns-in-None
returns-in-None c = search (rules, option_not)
