-- As far as the loop has come.
use Rattle.std.proofs.Common.{◌≡◌}
use Rattle.black_hole.specs.BlackHole.{good_first}
use Rattle.black_hole.proofs.Bursts.good.Given as goal

abbrev pub invariant-loop-i : goal.invariant-loop-i
invariant-loop-i l = l.fine ≡ good_first l.i l.self l.minimum
