-- Each return is one case of the definition; the bytes are those of the marked number.
use native.Mathlib.Omega.{arith}
use Rattle.varint.proofs.Laws.{writes_range, writes_room, writes_put}
use borrow.Author.Rules.{rules}
use Rattle.varint.proofs.write.Goals as goal

pub returns-then-v-ge-LIMIT : goal.returns-then-v-ge-LIMIT
returns-then-v-ge-LIMIT c = writes_range _ _ c.if-v-ge-LIMIT.true

pub returns-then-out-n : goal.returns-then-out-n
returns-then-out-n c = writes_room _ _ (omega arith) c.size-n.ensures c.if-out-n.true

pub returns : goal.returns
returns c = search (rules, writes_put)
