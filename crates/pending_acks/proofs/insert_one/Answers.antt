-- Each return is a law: what the insert at a limit promises is what is defined, and its refusal is handed on.
use Rattle.pending_acks.proofs.Laws.{says_insert, says_refused}
use Rattle.std.proofs.lemmas.Result.{err_from_is_err_and}
use Rattle.pending_acks.proofs.insert_one.Goals as goal

pub returns : goal.returns
returns c = says_insert _ _ _ c.in_ok-kept.ensures

pub returns-in_err-kept : goal.returns-in_err-kept
returns-in_err-kept c =
    let p = err_from_is_err_and c.from_residual.result c.from_residual.ensures.1 in
    rw (p.1, p.2) (says_refused _ _ _ c.in_err-kept.ensures)
