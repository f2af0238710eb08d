-- `write_varint` meets its contract: a law for each case. Assumes nothing.
use Rattle.drive_leaf.proofs.Laws.{write_is, write_refused}
use Rattle.drive_leaf.proofs.write_varint.Goals as goal

pub returns-in-Ok : goal.returns-in-Ok
returns-in-Ok c = write_is c.args.v c.args.scratch.now c.in-Ok.ensures c.plain.ensures

pub returns-in-Err : goal.returns-in-Err
returns-in-Err c = write_refused c.args.v c.args.scratch.now c.in-Err.ensures c.from.ensures c.plain-in-Err.ensures
