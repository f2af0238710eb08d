-- `writable` meets its contract: an order that is wrong refuses, so does a number past the limit, and the last test is the definition's own.
use Rattle.packet_number.proofs.Laws.{writable_below, writable_past, writable_by}
use Rattle.packet_number.proofs.writable.Goals as goal
use Rattle.packet_number.proofs.writable.Goals.{then-number-acked-via-then-number-acked, then-number-acked-via-else-number-acked+then-number-ge-LIMIT}

pub returns-then-number-acked : goal.returns-then-number-acked
returns-then-number-acked c = elim c.then-number-acked.branch [
  | then-number-acked-via-then-number-acked w ↦ writable_below _ _ w.if-number-acked.true
  | then-number-acked-via-else-number-acked+then-number-ge-LIMIT w ↦ writable_past _ _ w.if-number-acked.false w.if-number-ge-LIMIT.true
]

pub returns : goal.returns
returns c = writable_by _ _ c.if-number-acked.false c.if-number-ge-LIMIT.false
