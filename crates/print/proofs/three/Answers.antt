-- `print::three` meets its contract. The three parts stand one behind the other. Assumes nothing.
use Rattle.std.proofs.lemmas.Result.{err_from_is_err_and}
use Rattle.print.proofs.Laws.{put_none, put_ok, three_length, three_sets}
use Rattle.print.proofs.three.Goals as goal

pub returns-in_err-end : goal.returns-in_err-end
returns-in_err-end c =
    let a = c.args in
    let p = err_from_is_err_and c.from_residual.result c.from_residual.ensures.1 in
    rw (p.1, p.2, c.in_err-end.ensures.0) (put_none _ _ _ (three_length a.a.now a.b.now a.c.now) c.in_err-end.ensures.1)

pub returns : goal.returns
returns c =
    let a = c.args in
    put_ok _ _ _ (three_length a.a.now a.b.now a.c.now) c.in_ok-end.ensures.0 c.in_ok-end.ensures.1
    (three_sets a.out.now a.at a.a.now a.b.now a.c.now c.copy.ensures c.copy-2.ensures c.copy-3.ensures)
