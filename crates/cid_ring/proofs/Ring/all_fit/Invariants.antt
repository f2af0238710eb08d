use mathlib.Core.Path.{◌≡◌}
use Prim.Native.Nat.{◌-◌, ◌+◌}
use Rattle.cid_ring.specs.Cids.{fits}
use Rattle.cid_ring.proofs.Ring.all_fit.Given as goal

abbrev pub invariant-loop-n : goal.invariant-loop-n
invariant-loop-n l = fits l.self l.self.offset 5 ≡ fits l.self l.n (l.self.offset + 5 - l.n)
