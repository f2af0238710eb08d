use Rattle.stream_table.specs.Table.{recs_from, put_recs, insert_id, inserted}
use lib.ListN.{length}
use Prim.Native.Nat.{◌-◌}
use mathlib.Core.Path.{◌≡◌}
use Rattle.stream_table.proofs.shift_up.Given as goal

abbrev pub invariant-loop-i : goal.invariant-loop-i
invariant-loop-i l = (length l.table ≡ length l.fn.table) × (put_recs l.table l.i (insert_id l.hand (recs_from l.i (l.count - l.i) l.table)) ≡ inserted l.fn.table l.count l.initial.hand)
