use Rattle.range_many.proofs.Laws.{Sparing}
use Rattle.range_list.specs.Ranges.{read}
use Rattle.range_many.proofs.spare.Given as goal

abbrev pub invariant-loop-i : goal.invariant-loop-i
invariant-loop-i l = Sparing l.fn.list l.count (read l.other 0 l.n) l.list l.k l.i
