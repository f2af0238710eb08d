use mathlib.Core.Path.{◌≡◌}
use Prim.Native.Nat.{◌-◌}
use Rattle.stream_table.specs.Table.{records, recs_from, find_in, find_from}
use Rattle.stream_table.proofs.find.Given as goal

abbrev pub invariant-loop-i : goal.invariant-loop-i
invariant-loop-i l = (find_from l.i (recs_from l.i (l.count - l.i) l.table) l.id ≡ find_in (records l.count l.table) l.id)
