-- Each length has its own logarithm, which the test fixes.
use native.Mathlib.Omega.{arith}
use Rattle.varint.proofs.Laws.{log_0, log_1, log_2, log_3}
use Rattle.varint.proofs.mark.Goals as goal

pub returns-then-v-ge1073741824 : goal.returns-then-v-ge1073741824
returns-then-v-ge1073741824 c = rw (log_3 _ c.if-v-ge1073741824.true)

pub returns-then-v-ge16384 : goal.returns-then-v-ge16384
returns-then-v-ge16384 c = rw (log_2 _ c.if-v-ge16384.true c.if-v-ge1073741824.false)

pub returns-then-v-ge64 : goal.returns-then-v-ge64
returns-then-v-ge64 c = rw (log_1 _ c.if-v-ge64.true c.if-v-ge16384.false)

pub returns-else-v-ge64 : goal.returns-else-v-ge64
returns-else-v-ge64 c = rw (log_0 _ c.if-v-ge64.false) (omega arith)
