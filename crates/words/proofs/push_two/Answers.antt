-- `words::push_two` meets its contract. Each return rewrites with the tests that led there and with what the calls before it promise. Assumes nothing.
use Rattle.words.proofs.Laws.{push_both}
use borrow.Author.Rules.{rules}
use Rattle.words.proofs.push_two.Goals as goal

pub returns : goal.returns
returns c = search (rules, push_both)
