use Prim.Native.Nat.{◌≤◌, ◌<◌, ◌^◌, ◌-◌}
use mathlib.Core.Path.{◌≡◌}
use lib.ListN.{length}
use Rattle.ack_frame.specs.Read.{walk_of}
use Rattle.ack_frame.proofs.walk_pairs.Given as goal

abbrev pub invariant-loop-n : goal.invariant-loop-n
invariant-loop-n l = record {
  at_in : l.at ≤ length l.frame;
  low_in : l.low < 2 ^ 62;
  fits : l.n ≤ l.room;
  left : walk_of l.frame (l.count - l.n) l.at l.low (l.room - l.n) ≡ walk_of l.frame l.count l.start l.least l.room;
}
