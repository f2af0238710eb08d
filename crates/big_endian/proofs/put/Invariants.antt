use mathlib.Core.Path.{◌≡◌}
use mathlib.Core.List.{◌++◌}
use lib.ListN.{drop}
use Rattle.big_endian.specs.Bytes.{bytes}
use Rattle.big_endian.proofs.put.Given as goal

abbrev pub invariant-loop-i : goal.invariant-loop-i
invariant-loop-i l = bytes l.i l.rest ++ drop l.i l.out ≡ bytes l.n l.x ++ drop l.n l.fn.out
