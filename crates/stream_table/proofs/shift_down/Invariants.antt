use Rattle.stream_table.specs.Table.{recs_from, put_recs, removed}
use lib.ListN.{length}
use Prim.Native.Nat.{◌≤◌, ◌-◌, ◌+◌}
use mathlib.Core.Path.{◌≡◌}
use Rattle.stream_table.proofs.shift_down.Given as goal

abbrev pub invariant-loop-i : goal.invariant-loop-i
invariant-loop-i l = (l.i + 1 ≤ l.count) × (length l.table ≡ length l.fn.table) × (put_recs l.table l.i (recs_from (l.i + 1) (l.count - (l.i + 1)) l.table) ≡ removed l.fn.table l.count l.at)
