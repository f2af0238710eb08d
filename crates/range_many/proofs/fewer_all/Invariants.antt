use mathlib.Core.Path.{◌≡◌}
use Prim.Native.Nat.{◌+◌, ◌-◌}
use Rattle.range_list.specs.Ranges.{read}
use Rattle.range_many.specs.Many.{ties}
use Rattle.range_many.proofs.fewer_all.Given as goal

abbrev pub invariant-loop-j : goal.invariant-loop-j
invariant-loop-j l = (l.sum + ties l.way (read l.list 0 l.count) (read l.other l.j (l.n - l.j)) ≡ ties l.way (read l.list 0 l.count) (read l.other 0 l.n))
