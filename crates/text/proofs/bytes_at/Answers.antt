-- `text::bytes_at` meets its contract. What was read of the word is what the definition says of it. Assumes nothing.
use Rattle.text.proofs.Laws.{bytes_none, bytes_are}
use Rattle.text.proofs.bytes_at.Goals as goal

pub returns-then-w : goal.returns-then-w
returns-then-w c = bytes_none _ _ _ _ c.word_at-w.ensures.value c.if-w.true

pub returns-in-Ok : goal.returns-in-Ok
returns-in-Ok c = bytes_are _ _ _ _ c.word_at-w.ensures.value c.if-w.false c.hex_digits.ensures c.unhex.ensures c.in-Ok.is

pub returns-in-Err : goal.returns-in-Err
returns-in-Err c = bytes_are _ _ _ _ c.word_at-w.ensures.value c.if-w.false c.hex_digits.ensures c.unhex.ensures c.in-Err.is
