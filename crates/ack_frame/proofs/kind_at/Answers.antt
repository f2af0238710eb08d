-- Each return is one case of the definition; an integer in its shortest form is as long as its size.
use Rattle.std.proofs.lemmas.Result.{err_from_is_err_and}
use native.Mathlib.Omega.{arith}
use Rattle.ack_frame.proofs.Laws.{kind_err, kind_long, kind_other, kind_is}
use Rattle.ack_frame.proofs.kind_at.Goals as goal

pub returns-in_err-kind : goal.returns-in_err-kind
returns-in_err-kind c =
    let p = err_from_is_err_and c.from_residual.result c.from_residual.ensures.1 in
    record { value = rw (p.1, p.2) (kind_err _ c.in_err-kind.ensures.value); sound = rw p.1 tt }

pub returns-then-kind-size : goal.returns-then-kind-size
returns-then-kind-size c = record { value = kind_long c.args.frame.now c.in_ok-kind.ensures.value c.size.ensures c.if-kind-size.true; sound = tt }

pub returns-then-kind-ne-ACK : goal.returns-then-kind-ne-ACK
returns-then-kind-ne-ACK c =
    record { value = kind_other c.args.frame.now c.in_ok-kind.ensures.value c.size.ensures c.if-kind-size.false c.if-kind-ne-ACK.true; sound = tt }

pub returns : goal.returns
returns c =
    record { value = kind_is c.args.frame.now c.in_ok-kind.ensures.value c.size.ensures c.if-kind-size.false c.if-kind-ne-ACK.false; sound = omega (arith, c.in_ok-kind.ensures.sound) }
