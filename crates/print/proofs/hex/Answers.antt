-- `print::hex` meets its contract. The digits have room, or they have none. Assumes nothing.
use mathlib.Core.Path.{sym}
use Rattle.std.proofs.lemmas.Result.{err_from_is_err_and}
use Rattle.print.proofs.Laws.{put_none, put_ok, hexed_length}
use Rattle.print.proofs.hex.Goals as goal

pub returns-in_err-end : goal.returns-in_err-end
returns-in_err-end c =
    let p = err_from_is_err_and c.from_residual.result c.from_residual.ensures.1 in
    rw (p.1, p.2, c.in_err-end.ensures.0) (put_none _ _ _ (sym (hexed_length _)) c.in_err-end.ensures.1)

pub returns : goal.returns
returns c = put_ok _ _ _ (sym (hexed_length _)) c.in_ok-end.ensures.0 c.in_ok-end.ensures.1 c.spread.ensures
