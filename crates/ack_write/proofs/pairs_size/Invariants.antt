-- n ranges are left, below `low`
use Prim.Native.Nat.{◌≤◌, ◌<◌, ◌^◌, ◌*◌, ◌+◌}
use mathlib.Core.Path.{◌≡◌}
use lib.ListN.{length}
use Rattle.ack_write.specs.Write.{pairs_of, Ordered}
use Rattle.ack_write.proofs.pairs_size.Given as goal

abbrev pub invariant-loop-n : goal.invariant-loop-n
invariant-loop-n l =
    record {
      low_in : l.low < 2 ^ 62;
      ordered : Ordered l.list l.n l.low;
      sum : l.total + length (pairs_of l.list l.n l.low) ≡ length (pairs_of l.list l.count l.least);
      small : l.total + 16 * l.n ≤ 16 * l.count;
    }
