-- `words::take_bytes` meets its contract. Each return rewrites with the tests that led there and with what the calls before it promise. Assumes nothing.
use Rattle.words.proofs.Laws.{bytes_second, bytes_first, bytes_not}
use borrow.Author.Rules.{rules}
use Rattle.words.proofs.take_bytes.Goals as goal

pub returns-then-second : goal.returns-then-second
returns-then-second c = search (rules, bytes_second)

pub returns-else-second : goal.returns-else-second
returns-else-second c = search (rules, bytes_first)

pub returns-in_default : goal.returns-in_default
returns-in_default c = search (rules, bytes_not)
