use mathlib.Core.Path.{◌≡◌}
use Prim.Native.Nat.{◌-◌, ◌*◌}
use lib.ListN.{length, drop}
use Rattle.drive_sets.specs.Sets.{filled}
use Rattle.drive_sets.proofs.fill.Given as goal

abbrev pub invariant-loop-i : goal.invariant-loop-i
invariant-loop-i l = (length l.list ≡ length l.fn.list) × (filled (l.n - l.i) (drop (2 * l.i) l.numbers) l.list l.count ≡ filled l.n l.numbers l.fn.list 0)
