-- `words::push` meets its contract. Each return rewrites with the tests that led there and with what the calls before it promise. Assumes nothing.
use Rattle.words.proofs.Laws.{push_full, push_on}
use borrow.Author.Rules.{rules}
use Rattle.words.proofs.push.Goals as goal

pub returns-then-numbers-c : goal.returns-then-numbers-c
returns-then-numbers-c c = search (rules, push_full)

pub returns : goal.returns
returns c = search (rules, push_on)
