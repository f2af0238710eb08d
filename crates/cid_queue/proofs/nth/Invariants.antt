use mathlib.Core.Path.{◌≡◌}
use Prim.Native.Nat.{◌+◌, ◌≤◌}
use Rattle.cid_queue.specs.Queue.{nth}
use Rattle.cid_queue.proofs.nth.Given as goal

abbrev pub invariant-loop : goal.invariant-loop
invariant-loop l = (l.n ≤ l.ring.offset + 5 + l.counter) × (l.n ≡ nth l.ring l.counter)
