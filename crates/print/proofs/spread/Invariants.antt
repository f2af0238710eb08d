use mathlib.Core.Path.{◌≡◌}
use Prim.Native.Nat.{◌+◌, ◌*◌}
use lib.ListN.{drop}
use lib.Seq.{sets}
use Rattle.print.specs.Print.{hexed}
use Rattle.print.proofs.spread.Given as goal

abbrev pub invariant-loop-i : goal.invariant-loop-i
invariant-loop-i l = sets l.out (l.at + 2 * l.i) (hexed (drop l.i l.s)) ≡ sets l.fn.out l.at (hexed l.s)
