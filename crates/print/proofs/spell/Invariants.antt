use mathlib.Core.Path.{◌≡◌}
use Prim.Native.Nat.{◌^◌, ◌≤◌, ◌<◌}
use lib.ListN.{length, drop}
use Rattle.print.specs.Print.{decimal_onto, decimal}
use Rattle.print.proofs.spell.Given as goal

abbrev pub invariant-loop-rest : goal.invariant-loop-rest
invariant-loop-rest l = (1 ≤ l.i) × (l.i ≤ 20) × (l.rest < 10 ^ l.i) × (length l.d ≡ 20) × (decimal_onto l.i l.rest (drop l.i l.d) ≡ decimal l.n)

abbrev pub decreases-loop-rest : goal.decreases-loop-rest
decreases-loop-rest l = l.rest
