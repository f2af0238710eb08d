use Rattle.stream_table.specs.Table.{strip_from, stripped, sum_ends, recs_from, records}
use lib.ListN.{length}
use Prim.Native.Nat.{◌≤◌, ◌-◌, ◌+◌}
use mathlib.Core.Path.{◌≡◌}
use Rattle.stream_table.proofs.strip_all.Given as goal

abbrev pub invariant-loop-i : goal.invariant-loop-i
invariant-loop-i l = (l.w ≤ l.i) × (length l.table ≡ length l.fn.table) × (l.total + sum_ends (recs_from l.i (l.count - l.i) l.table) ≤ sum_ends (records l.count l.fn.table)) × (strip_from l.side l.table l.w l.total (recs_from l.i (l.count - l.i) l.table) ≡ stripped l.side l.fn.table l.count)
