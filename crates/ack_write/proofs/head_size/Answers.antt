-- The sum of the lengths is the length of the whole, and each is at most 8.
use native.Mathlib.Omega.{arith}
use Rattle.ack_write.proofs.Laws.{len_le, head_length}
use Rattle.ack_write.proofs.head_size.Goals as goal

pub overflow_add-result : goal.overflow_add-result
overflow_add-result c = let a = c.args in omega (arith, len_le a.largest, len_le a.delay, len_le a.count, len_le a.first)

pub overflow_add-result-2 : goal.overflow_add-result-2
overflow_add-result-2 c = let a = c.args in omega (arith, len_le a.largest, len_le a.delay, len_le a.count, len_le a.first)

pub overflow_add-result-3 : goal.overflow_add-result-3
overflow_add-result-3 c = let a = c.args in omega (arith, len_le a.largest, len_le a.delay, len_le a.count, len_le a.first)

pub overflow_add-result-4 : goal.overflow_add-result-4
overflow_add-result-4 c = let a = c.args in omega (arith, len_le a.largest, len_le a.delay, len_le a.count, len_le a.first)

pub returns : goal.returns
returns c = let a = c.args in omega (arith, head_length a.largest a.delay a.count a.first)
