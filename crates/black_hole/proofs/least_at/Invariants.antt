-- As far as the loop has come.
use Rattle.std.proofs.Common.{◌≡◌, ◌<◌}
use Rattle.black_hole.specs.BlackHole.{least_first}
use Rattle.black_hole.proofs.least_at.Given as goal

abbrev pub invariant-loop-i : goal.invariant-loop-i
invariant-loop-i l = (l.at ≡ least_first l.i l.fn.sizes) × (l.at < 4)
