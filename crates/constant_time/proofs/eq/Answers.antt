-- No bit differs exactly when the strings agree, and strings of other lengths do not.
use Rattle.constant_time.proofs.Laws.{lengths_differ, found}
use Rattle.constant_time.proofs.eq.Goals as goal

pub returns-then-a-b : goal.returns-then-a-b
returns-then-a-b c = lengths_differ _ _ c.if-a-b.true

pub returns : goal.returns
returns c = found _ _ c.if-a-b.false c.differ-d.ensures
