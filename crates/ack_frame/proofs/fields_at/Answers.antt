-- Each return is one case of the definition, with the integers that were read.
use Rattle.std.proofs.lemmas.Result.{err_from_is_err_and}
use native.Mathlib.Omega.{arith}
use Rattle.ack_frame.proofs.Laws.{fields_1, fields_2, fields_3, fields_4, fields_low, fields_all}
use Rattle.ack_frame.proofs.fields_at.Goals as goal

pub returns-in_err-largest : goal.returns-in_err-largest
returns-in_err-largest c =
    let p = err_from_is_err_and c.from_residual.result c.from_residual.ensures.1 in
    record { value = rw (p.1, p.2) (fields_1 _ _ c.in_err-largest.ensures.value); sound = rw p.1 tt }

pub returns-in_err-delay : goal.returns-in_err-delay
returns-in_err-delay c =
    let p = err_from_is_err_and c.from_residual-in_err-delay.result c.from_residual-in_err-delay.ensures.1 in
    record { value = rw (p.1, p.2) (fields_2 _ _ c.in_ok-largest.ensures.value c.in_err-delay.ensures.value); sound = rw p.1 tt }

pub returns-in_err-count : goal.returns-in_err-count
returns-in_err-count c =
    let p = err_from_is_err_and c.from_residual-in_err-count.result c.from_residual-in_err-count.ensures.1 in
    record { value = rw (p.1, p.2) (fields_3 _ _ c.in_ok-largest.ensures.value c.in_ok-delay.ensures.value c.in_err-count.ensures.value); sound = rw p.1 tt }

pub returns-in_err-first : goal.returns-in_err-first
returns-in_err-first c =
    let p = err_from_is_err_and c.from_residual-in_err-first.result c.from_residual-in_err-first.ensures.1 in
    record { value = rw (p.1, p.2) (fields_4 _ _ c.in_ok-largest.ensures.value c.in_ok-delay.ensures.value c.in_ok-count.ensures.value c.in_err-first.ensures.value); sound = rw p.1 tt }

pub returns-then-largest-first : goal.returns-then-largest-first
returns-then-largest-first c =
    record { value = fields_low _ _ c.in_ok-largest.ensures.value c.in_ok-delay.ensures.value c.in_ok-count.ensures.value c.in_ok-first.ensures.value c.if-largest-first.true; sound = tt }

pub returns : goal.returns
returns c = record {
  value = fields_all _ _ c.in_ok-largest.ensures.value c.in_ok-delay.ensures.value c.in_ok-count.ensures.value c.in_ok-first.ensures.value c.if-largest-first.false;
  sound = omega (arith, c.in_ok-largest.ensures.sound, c.in_ok-count.ensures.sound, c.in_ok-first.ensures.sound);
}
