use Rattle.range_many.proofs.Laws.{Going}
use Rattle.range_many.proofs.edit_all.Given as goal

abbrev pub invariant-loop-j : goal.invariant-loop-j
invariant-loop-j l = Going l.way l.fn.list l.count l.other l.n l.list l.k l.j
