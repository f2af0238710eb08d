use Rattle.stream_places.specs.Places.{grown_by}
use lib.ListN.{length}
use Prim.Native.Nat.{◌-◌, ◌+◌, ◌*◌}
use mathlib.Core.Path.{◌≡◌}
use Rattle.stream_places.proofs.grow.Given as goal

abbrev pub invariant-loop-i : goal.invariant-loop-i
invariant-loop-i l = (length l.table ≡ length l.fn.table) × (grown_by l.w l.table (l.count + l.i) (l.id + 4 * l.i) (l.k - l.i) ≡ grown_by l.w l.fn.table l.count l.id l.k)
