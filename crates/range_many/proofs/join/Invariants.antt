use Rattle.range_many.proofs.Laws.{Joining}
use Rattle.range_list.specs.Ranges.{read}
use Rattle.range_many.proofs.join.Given as goal

abbrev pub invariant-loop-i : goal.invariant-loop-i
invariant-loop-i l = Joining l.fn.list l.count (read l.other 0 l.n) l.list l.k l.lo l.i
