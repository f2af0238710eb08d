use mathlib.Core.Path.{◌≡◌}
use Prim.Native.Nat.{◌-◌}
use Rattle.range_list.specs.Ranges.{read}
use Rattle.range_many.specs.Many.{idle_all}
use Rattle.range_many.proofs.idle_all.Given as goal

abbrev pub invariant-loop-j : goal.invariant-loop-j
invariant-loop-j l = (idle_all l.way (read l.list 0 l.count) (read l.other l.j (l.n - l.j)) ≡ idle_all l.way (read l.list 0 l.count) (read l.other 0 l.n))
