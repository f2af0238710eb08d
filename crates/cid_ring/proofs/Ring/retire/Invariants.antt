use mathlib.Core.Path.{◌≡◌}
use Prim.Native.Nat.{◌≤◌}
use Rattle.cid_ring.proofs.Places.{below}
use Rattle.cid_ring.proofs.Ring.retire.Given as goal

abbrev pub invariant-loop-at : goal.invariant-loop-at
invariant-loop-at l = (l.initial.at ≤ l.at) × (l.at ≤ l.past) × (l.slots ≡ below (record { slots = l.initial.slots; offset = l.initial.at }) l.at)
