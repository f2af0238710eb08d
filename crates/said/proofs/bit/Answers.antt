-- `said::bit` meets its contract. Yes and no are the definition's two cases. Assumes nothing.
use Rattle.said.proofs.bit.Goals as goal

pub returns-then-is : goal.returns-then-is
returns-then-is c = rw c.if-is.true

pub returns-else-is : goal.returns-else-is
returns-else-is c = rw c.if-is.false
