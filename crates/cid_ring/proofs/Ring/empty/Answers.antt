-- Five None places are the table of the empty map.
use mathlib.Core.Path.{refl}
use Rattle.cid_ring.specs.Cids.{ring_of, empty}
use Rattle.cid_ring.proofs.Ring.empty.Goals as goal

pub returns : goal.returns
unfolding ring_of empty
returns c = refl
