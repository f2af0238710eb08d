-- Each return is one case of the definition, with the integers that were read.
use Rattle.std.proofs.lemmas.Result.{err_from_is_err_and}
use native.Mathlib.Omega.{arith}
use Rattle.ack_frame.proofs.Laws.{step_1, step_2, step_gap, step_len, step_is}
use Rattle.ack_frame.proofs.next_range.Goals as goal

pub returns-in_err-gap : goal.returns-in_err-gap
returns-in_err-gap c =
    let p = err_from_is_err_and c.from_residual.result c.from_residual.ensures.1 in
    record { value = rw (p.1, p.2) (step_1 _ _ _ c.in_err-gap.ensures.value); sound = rw p.1 tt }

pub overflow_add-gap : goal.overflow_add-gap
overflow_add-gap c = omega (arith, c.in_ok-gap.ensures.sound)

pub returns-then-low-gap : goal.returns-then-low-gap
returns-then-low-gap c = record { value = step_gap _ _ _ c.in_ok-gap.ensures.value c.if-low-gap.true; sound = tt }

pub returns-in_err-len : goal.returns-in_err-len
returns-in_err-len c =
    let p = err_from_is_err_and c.from_residual-in_err-len.result c.from_residual-in_err-len.ensures.1 in
    record { value = rw (p.1, p.2) (step_2 _ _ _ c.in_ok-gap.ensures.value c.if-low-gap.false c.in_err-len.ensures.value); sound = rw p.1 tt }

pub returns-then-top-len : goal.returns-then-top-len
returns-then-top-len c =
    record { value = step_len _ _ _ c.in_ok-gap.ensures.value c.if-low-gap.false c.in_ok-len.ensures.value c.if-top-len.true; sound = tt }

pub returns : goal.returns
returns c = record {
  value = step_is _ _ _ c.in_ok-gap.ensures.value c.if-low-gap.false c.in_ok-len.ensures.value c.if-top-len.false;
  sound = omega (arith, c.in_ok-gap.ensures.sound, c.in_ok-len.ensures.sound);
}
