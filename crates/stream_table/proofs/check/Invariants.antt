use Rattle.stream_table.specs.Table.{good_from, recs_from, records}
use Prim.Native.Nat.{◌≤◌, ◌-◌}
use mathlib.Core.Path.{◌≡◌}
use Rattle.stream_table.proofs.check.Given as goal

abbrev pub invariant-loop-i : goal.invariant-loop-i
invariant-loop-i l = (l.b ≤ l.i) × (l.u ≤ l.i) × (good_from l.c (recs_from l.i (l.count - l.i) l.table) l.low l.left l.b l.u ≡ good_from l.c (records l.count l.table) 0 l.total 0 0)
