-- The type leads to the fields, or is the fault.
use Rattle.std.proofs.lemmas.Result.{err_from_is_err_and}
use Rattle.ack_frame.proofs.Laws.{head_err, head_is}
use Rattle.ack_frame.proofs.head_at.Goals as goal

pub returns-in_err-start : goal.returns-in_err-start
returns-in_err-start c =
    let p = err_from_is_err_and c.from_residual.result c.from_residual.ensures.1 in
    record { value = rw (p.1, p.2) (head_err _ c.in_err-start.ensures.value); sound = rw p.1 tt }

pub returns : goal.returns
returns c = record { value = head_is c.args.frame.now c.in_ok-start.ensures.value c.fields_at.ensures.value; sound = c.fields_at.ensures.sound }
