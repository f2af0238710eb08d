-- The integer is the varint at its place, and ends that many bytes behind it.
use Rattle.std.proofs.lemmas.Result.{err_from_is_err_and}
use native.Mathlib.Omega.{arith}
use Rattle.ack_frame.proofs.Laws.{int_err, int_is}
use Rattle.ack_frame.proofs.int_at.Goals as goal

pub returns-in_err-read : goal.returns-in_err-read
returns-in_err-read c =
    let p = err_from_is_err_and c.from_residual.result c.from_residual.ensures.1 in
    record { value = rw (p.1, p.2) (int_err _ _ c.in_err-read.ensures.value); sound = rw p.1 tt }

pub overflow_add-result : goal.overflow_add-result
overflow_add-result c = omega (arith, c.in_ok-read.ensures.sound)

pub returns : goal.returns
returns c = record { value = int_is c.args.frame.now c.args.at c.in_ok-read.ensures.value; sound = omega (arith, c.in_ok-read.ensures.sound) }
