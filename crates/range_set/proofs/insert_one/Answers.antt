-- `insert_one` meets its contract: it is `insert` of the range of one number.
use Rattle.range_set.proofs.Laws.{one_far}
use Rattle.range_set.proofs.insert_one.Goals as goal

pub returns-then-x-ge-LIMIT : goal.returns-then-x-ge-LIMIT
returns-then-x-ge-LIMIT c = one_far _ _ _ _ c.if-x-ge-LIMIT.true
