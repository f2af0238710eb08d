use Rattle.range_list.specs.Ranges.{read}
use Rattle.range_edit.specs.Edits.{cut}
use mathlib.Core.Path.{◌≡◌}
use Prim.Native.Nat.{◌-◌}
use Rattle.range_edit.proofs.cut_at.Given as goal

abbrev pub invariant-loop-i : goal.invariant-loop-i
invariant-loop-i l = (cut l.i l.e l.b (read l.list l.i (l.count - l.i)) ≡ cut l.from l.e 0 (read l.list l.from (l.count - l.from)))
