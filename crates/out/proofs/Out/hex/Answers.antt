-- `out::Out::hex` meets its contract. The digits had room at once, or the promise says nothing. Assumes nothing.
use Rattle.out.proofs.Laws.{room_in, room_out}
use Rattle.out.proofs.Out.hex.Goals as goal

pub returns-in-Ok : goal.returns-in-Ok
returns-in-Ok c = room_in _ _ _ c.in-Ok.ensures

pub returns-in-Err : goal.returns-in-Err
returns-in-Err c = room_out _ _ _ c.in-Err.ensures _ _
