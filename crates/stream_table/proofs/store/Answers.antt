-- Seven writes, each within the words lent; their order is the definition's.
-- src/lib.rt:95:14
use lib.ListN.{length-set}
use native.Mathlib.Omega.{arith}
use Rattle.stream_table.proofs.store.Goals as goal

pub bounds-table-at-2 : goal.bounds-table-at-2
bounds-table-at-2 c = simp length-set (omega arith)

pub bounds-table-at-3 : goal.bounds-table-at-3
bounds-table-at-3 c = simp length-set (omega arith)

pub bounds-table-at-4 : goal.bounds-table-at-4
bounds-table-at-4 c = simp length-set (omega arith)

pub bounds-table-at-5 : goal.bounds-table-at-5
bounds-table-at-5 c = simp length-set (omega arith)

pub bounds-table-at-6 : goal.bounds-table-at-6
bounds-table-at-6 c = simp length-set (omega arith)

pub bounds-table-at-7 : goal.bounds-table-at-7
bounds-table-at-7 c = simp length-set (omega arith)
