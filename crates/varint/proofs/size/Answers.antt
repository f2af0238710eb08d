-- The tests fix the logarithm, or that there is none.
use mathlib.Core.Path.{sym}
use Rattle.varint.proofs.Laws.{size_1, size_2, size_4, size_8, size_none}
use Rattle.varint.proofs.size.Goals as goal

pub returns-then-v-lt64 : goal.returns-then-v-lt64
returns-then-v-lt64 c = size_1 _ c.if-v-lt64.true

pub returns-then-v-lt16384 : goal.returns-then-v-lt16384
returns-then-v-lt16384 c = size_2 _ c.if-v-lt64.false c.if-v-lt16384.true

pub returns-then-v-lt1073741824 : goal.returns-then-v-lt1073741824
returns-then-v-lt1073741824 c = size_4 _ c.if-v-lt16384.false c.if-v-lt1073741824.true

pub returns-then-v-lt-LIMIT : goal.returns-then-v-lt-LIMIT
returns-then-v-lt-LIMIT c = size_8 _ c.if-v-lt1073741824.false c.if-v-lt-LIMIT.true

pub returns-else-v-lt-LIMIT : goal.returns-else-v-lt-LIMIT
returns-else-v-lt-LIMIT c = sym (size_none _ c.if-v-lt-LIMIT.false)
