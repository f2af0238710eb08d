-- n pairs are left, from `at` on, below `low`; what is stored follows their place in the list
use Prim.Native.Nat.{◌<◌, ◌^◌, ◌*◌}
use mathlib.Core.Path.{◌≡◌}
use mathlib.Core.Bool.{true}
use mathlib.Core.List.{◌++◌, reverse}
use Rattle.range_list.specs.Ranges.{flat}
use lib.ListN.{drop}
use Rattle.ack_frame.specs.Read.{below, legal}
use Rattle.ack_frame.proofs.fill.Given as goal

abbrev pub invariant-loop-n : goal.invariant-loop-n
invariant-loop-n l =
    record {
      low_in : l.low < 2 ^ 62;
      good : legal l.frame l.n l.at l.low ≡ true;
      filled : flat (reverse (below l.frame l.n l.at l.low)) ++ drop (2 * l.n) l.list ≡ flat (reverse (below l.frame l.count l.start l.least)) ++ drop (2 * l.count) l.fn.list;
    }
