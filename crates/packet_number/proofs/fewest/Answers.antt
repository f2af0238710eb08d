-- `fewest` meets its contract: each of its tests is whether so many bytes are enough.
use Rattle.packet_number.proofs.Laws.{fewest_1, fewest_2, fewest_3, fewest_4}
use Rattle.packet_number.proofs.fewest.Goals as goal

pub returns-then-twice-lt256 : goal.returns-then-twice-lt256
returns-then-twice-lt256 c = fewest_1 _ c.if-twice-lt256.true

pub returns-then-twice-lt65536 : goal.returns-then-twice-lt65536
returns-then-twice-lt65536 c = fewest_2 _ c.if-twice-lt256.false c.if-twice-lt65536.true

pub returns-then-twice-lt16777216 : goal.returns-then-twice-lt16777216
returns-then-twice-lt16777216 c = fewest_3 _ c.if-twice-lt65536.false c.if-twice-lt16777216.true

pub returns-else-twice-lt16777216 : goal.returns-else-twice-lt16777216
returns-else-twice-lt16777216 c = fewest_4 _ c.if-twice-lt16777216.false
