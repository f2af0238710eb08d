-- What docs/EVENTS.md says of the events of the search, of the definitions: ORDER before the first `new` or `off`, a refusal that leaves what was kept,
-- and the first lines of examples/upload.events by computing. Assumes nothing.
use mathlib.Core.Path.{◌≡◌, refl}
use mathlib.Core.List.{List, [], ◌∷◌}
use Prim.Native.Nat.{ℕ}
use Rattle.std.specs.Prelude.{Option}
use borrow.Author.Tests.{ne_eqb}
use Rattle.answers.specs.Answers.{OK, RANGE, ORDER}
use Rattle.codes.specs.Codes.{MT_POLL, MT_NEW, MT_OFF}
use Rattle.black_hole.specs.BlackHole as hole
use Rattle.mtu_search.specs.Search as search
use Rattle.mtu_phase.specs.Phase as phase
use Rattle.mtud.specs.Discovery as mtud
use Rattle.said.specs.Said.{said_number}
use Rattle.mtud.specs.declared.MtuDiscovery.{MtuDiscovery}
use Rattle.drive_mt.specs.Step.{plainly, peer_of, quiet_of, polled_of, begin_of, start_of, new_of, call_of, step_of}

-- at the start, all that is no `new` and no `off` is ORDER, and there is no search after it either
pub order_first : (code : ℕ) (words : List ℕ) → (code ≡ MT_NEW → ⊥) → (code ≡ MT_OFF → ⊥) → step_of code words begin_of.kept ≡ plainly ORDER begin_of.kept
unfolding step_of begin_of
order_first code words h i = rw (ne_eqb code MT_NEW h, ne_eqb code MT_OFF i)

-- the words of `mt.new INITIAL 1200 - 1452 CHANGE 600000000 60000000`
abbrev line : ℕ → ℕ → List ℕ
line initial change = initial ∷ 1200 ∷ 0 ∷ 0 ∷ 1452 ∷ change ∷ 600000000 ∷ 60000000 ∷ []

-- a refused `new` leaves what was kept: an initial size of 1,199, and a change of 65,536
pub new_refused : (k : Option MtuDiscovery) → step_of MT_NEW (line 1199 20) k ≡ plainly RANGE k
unfolding step_of new_of start_of quiet_of peer_of mtud.started phase.size_b
new_refused k = refl

pub change_wide : (k : Option MtuDiscovery) → step_of MT_NEW (line 1200 65536) k ≡ plainly RANGE k
unfolding step_of new_of
change_wide k = refl

-- `mt.new`, then `mt.poll 1000 5`: the first probe has 1,326 bytes
pub first_probe : (step_of MT_POLL (1000 ∷ 5 ∷ []) (step_of MT_NEW (line 1200 20) begin_of.kept).kept).said ≡ said_number OK 1326
unfolding step_of new_of start_of quiet_of peer_of call_of polled_of begin_of mtud.started mtud.opened mtud.polled mtud.by_phase mtud.turned mtud.good hole.good hole.fresh phase.size_b phase.good_config phase.good_phase search.begun search.turn hole.good_bursts hole.good_first hole.good_place search.onward search.chosen
first_probe = refl
