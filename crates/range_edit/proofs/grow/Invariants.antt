use Rattle.range_list.specs.Ranges.{read}
use Rattle.range_edit.specs.Edits.{grown}
use mathlib.Core.Path.{◌≡◌}
use Prim.Native.Nat.{◌-◌}
use Rattle.range_edit.proofs.grow.Given as goal

abbrev pub invariant-loop-i : goal.invariant-loop-i
invariant-loop-i l = (grown l.i l.a l.b (read l.list l.i (l.count - l.i)) ≡ grown l.from l.s l.e (read l.list l.from (l.count - l.from)))
