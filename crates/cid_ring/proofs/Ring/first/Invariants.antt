use mathlib.Core.Path.{◌≡◌}
use Prim.Native.Nat.{◌-◌}
use Rattle.cid_ring.specs.Cids.{held, first}
use Rattle.cid_ring.proofs.Ring.first.Given as goal

abbrev pub invariant-loop-n : goal.invariant-loop-n
invariant-loop-n l = first (held l.self) l.from (l.past - l.from) ≡ first (held l.self) l.n (l.past - l.n)
