-- A fixed byte string is lent on whole.
use Rattle.constant_time.proofs.eq16.Goals as goal

pub returns : goal.returns
returns c = c.eq.ensures
