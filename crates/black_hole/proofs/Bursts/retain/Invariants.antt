-- As far as the loop has come.
use Rattle.std.proofs.Common.{◌≡◌}
use Rattle.black_hole.specs.BlackHole.{retained_first}
use Rattle.black_hole.proofs.Bursts.retain.Given as goal

abbrev pub invariant-loop-i : goal.invariant-loop-i
invariant-loop-i l = l.left ≡ retained_first l.i l.self l.len
