-- `text::hex_digits` meets its contract. The word is `-` or not. Assumes nothing.
use Rattle.text.proofs.Laws.{digits_none, digits_all}
use Rattle.text.proofs.hex_digits.Goals as goal

pub returns-then-same : goal.returns-then-same
returns-then-same c = digits_none _ c.same.ensures c.if-same.true

pub returns-else-same : goal.returns-else-same
returns-else-same c = digits_all _ c.same.ensures c.if-same.false
