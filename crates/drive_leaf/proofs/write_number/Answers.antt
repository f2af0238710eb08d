-- `write_number` meets its contract: what the library promises, told. Assumes nothing.
use Rattle.drive_leaf.proofs.Laws.{number_is, number_refused}
use Rattle.drive_leaf.proofs.write_number.Goals as goal

pub returns-in-Ok : goal.returns-in-Ok
returns-in-Ok c = number_is c.args.number c.args.acked c.args.scratch.now c.in-Ok.ensures c.number.ensures

pub returns-in-Err : goal.returns-in-Err
returns-in-Err c = number_refused c.args.number c.args.acked c.args.scratch.now c.in-Err.ensures c.from.ensures c.number-in-Err.ensures
