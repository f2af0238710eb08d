-- `covered` meets its contract: its tests are those of the first range of what is read.
use Rattle.range_edit.proofs.Laws.{head_none, head_from, head_after}
use Rattle.range_edit.proofs.covered.Goals as goal

pub returns-then-count-i : goal.returns-then-count-i
returns-then-count-i c = head_none _ _ _ _ _ c.if-count-i.true

pub returns-then-list-i : goal.returns-then-list-i
returns-then-list-i c = head_from _ _ _ _ _ c.if-count-i.false c.if-list-i.true

pub returns-else-list-i : goal.returns-else-list-i
returns-else-list-i c = head_after _ _ _ _ _ c.if-count-i.false c.if-list-i.false
