-- What is lent on from the middle is what is left from there.
use Rattle.varint.proofs.Laws.{at_past, at_is, at_sound}
use Rattle.varint.proofs.read_at.Goals as goal

pub returns-then-s-at : goal.returns-then-s-at
returns-then-s-at c = record { value = at_past _ _ c.if-s-at.true; sound = tt }

pub returns : goal.returns
returns c =
    let a = c.args in
    record { value = at_is a.s.now a.at c.read.ensures.value; sound = at_sound a.s.now a.at c.read.result c.if-s-at.false c.read.ensures.sound }
