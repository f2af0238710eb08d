-- `text::is_hex` meets its contract. An even number of digits is digits in pairs. Assumes nothing.
use Rattle.text.proofs.Laws.{even_hex, odd_hex}
use borrow.Author.Rules.{rules}
use Rattle.text.proofs.is_hex.Goals as goal

pub returns-then-s-eq0 : goal.returns-then-s-eq0
returns-then-s-eq0 c = search (rules, even_hex)

pub returns-else-s-eq0 : goal.returns-else-s-eq0
returns-else-s-eq0 c = search (rules, odd_hex)
