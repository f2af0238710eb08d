-- n ranges are left, below `low`, to be written at `at`
use Prim.Native.Nat.{◌<◌, ◌^◌, ◌+◌}
use mathlib.Core.Path.{◌≡◌}
use lib.ListN.{length}
use Rattle.ack_write.specs.Write.{put, pairs_of, Ordered}
use Rattle.ack_write.proofs.put_pairs.Given as goal

abbrev pub invariant-loop-n : goal.invariant-loop-n
invariant-loop-n l =
    record {
      low_in : l.low < 2 ^ 62;
      ordered : Ordered l.list l.n l.low;
      room : l.at + length (pairs_of l.list l.n l.low) ≡ l.start + length (pairs_of l.list l.count l.least);
      left : put l.out l.at (pairs_of l.list l.n l.low) ≡ put l.fn.out l.start (pairs_of l.list l.count l.least);
    }
