-- `renew` meets its contract: a refused range, or the set that was made added to the empty one. Assumes nothing.
use Rattle.drive_sets.proofs.Laws.{renew_refused, renew_made}
use Rattle.drive_sets.proofs.renew.Goals as goal

pub returns-in-Ok : goal.returns-in-Ok
returns-in-Ok c = renew_made _ _ _ _ _ c.in-Ok.ensures c.add.ensures c.became.ensures

pub returns-in-Err : goal.returns-in-Err
returns-in-Err c = renew_refused _ _ _ _ _ c.in-Err.ensures c.from.ensures c.plain.ensures
