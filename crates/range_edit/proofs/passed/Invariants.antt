use mathlib.Core.Path.{◌≡◌}
use Prim.Native.Nat.{◌+◌, ◌-◌, ◌/◌, ◌≤◌}
use lib.ListN.{length}
use Rattle.range_list.specs.Ranges.{read}
use Rattle.range_edit.specs.Edits.{below}
use Rattle.range_edit.proofs.passed.Given as goal

abbrev pub invariant-loop-i : goal.invariant-loop-i
invariant-loop-i l = (l.count ≤ length l.list / 2) × (l.i + below l.s (read l.list l.i (l.count - l.i)) ≡ below l.s (read l.list 0 l.count))
