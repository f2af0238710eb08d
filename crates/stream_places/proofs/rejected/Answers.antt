-- One law a return.
use Rattle.stream_places.proofs.Rejects.{reject_not, reject_done, reject_fits, reject_few}
use borrow.Author.Rules.{rules}
use Rattle.stream_places.proofs.rejected.Goals as goal

pub returns-in_err-t : goal.returns-in_err-t
returns-in_err-t c = search (rules, reject_not c.args.c c.args.table.now c.args.count c.strip.ensures c.in_err-t.was)

pub forget-d-requires : goal.forget-d-requires
forget-d-requires c = reject_fits _ _ _ c.strip.ensures c.in_ok-t.was

pub overflow_sub-gone : goal.overflow_sub-gone
overflow_sub-gone c = reject_few _ _ _ c.strip.ensures c.in_ok-t.was

pub returns : goal.returns
returns c = reject_done _ _ _ c.strip.ensures c.in_ok-t.was c.forget-d.ensures c.moved.ensures
