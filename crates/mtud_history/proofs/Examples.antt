-- The sequences of 01, and what its differences from the Rust come to: the definitions compute.
-- Assumes nothing.
use mathlib.Core.Path.{◌≡◌, refl}
use mathlib.Core.Bool.{Bool, true, false}
use mathlib.Core.List.{List, [], ◌∷◌}
use Prim.Native.Nat.{ℕ, ◌-◌}
use Rattle.std.specs.Prelude.{Some}
use Rattle.black_hole.specs.BlackHole as hole
use Rattle.mtu_search.specs.Search as search
use Rattle.mtu_search.specs.Measure as measure
use Rattle.mtu_phase.specs.Phase as phase
use Rattle.mtud.specs.declared.MtuDiscovery.{MtuDiscovery}
use Rattle.mtud.specs.Discovery as mtud
use Rattle.mtud_history.specs.Left.{left, probe_of}
use Rattle.mtud_history.specs.Examples.{made, start, up_to, all_acked, all_lost, answered, ended}
use Rattle.mtu_search.specs.Count.{times, sizes}

-- the first probe
pub first_1326 : probe_of (mtud.polled start 0 7) ≡ Some 1326
unfolding mtud.started mtud.opened mtud.good mtud.polled mtud.by_phase mtud.turned phase.size_b phase.good_config phase.good_phase hole.fresh hole.good hole.good_bursts hole.good_first hole.good_place search.begun search.turn search.onward search.chosen
first_1326 = refl

-- all acknowledged: 1326, 1389, 1420, 1452, and then none
pub acknowledged : all_acked 5 start ≡ 1326 ∷ 1389 ∷ 1420 ∷ 1452 ∷ 0 ∷ []
unfolding all_acked mtud.started mtud.opened mtud.good mtud.polled mtud.by_phase mtud.turned mtud.rested mtud.acked mtud.by_acked mtud.is_probe phase.size_b phase.packet_b phase.good_config phase.good_phase hole.fresh hole.good hole.good_bursts hole.good_first hole.good_place hole.probe_acked hole.delivered search.begun search.turn search.onward search.chosen search.acked search.good search.known
acknowledged = refl

-- all lost: 1326, 1262, 1230, three times each, and then none
pub lost : all_lost 10 start ≡ 1326 ∷ 1326 ∷ 1326 ∷ 1262 ∷ 1262 ∷ 1262 ∷ 1230 ∷ 1230 ∷ 1230 ∷ 0 ∷ []
unfolding all_lost mtud.started mtud.opened mtud.good mtud.polled mtud.by_phase mtud.turned mtud.rested mtud.probe_lost mtud.by_lost phase.size_b phase.good_config phase.good_phase hole.fresh hole.good hole.good_bursts hole.good_first hole.good_place search.begun search.turn search.onward search.chosen search.missed search.good search.known
lost = refl

-- change 1, from 1,200 to 1,201: 1201 three times, and then rest, where the Rust probes 1200
pub change_one : all_lost 4 (up_to 1201 1) ≡ 1201 ∷ 1201 ∷ 1201 ∷ 0 ∷ []
unfolding all_lost mtud.started mtud.opened mtud.good mtud.polled mtud.by_phase mtud.turned mtud.rested mtud.probe_lost mtud.by_lost phase.size_b phase.good_config phase.good_phase hole.fresh hole.good hole.good_bursts hole.good_first hole.good_place search.begun search.turn search.onward search.chosen search.missed search.good search.known
change_one = refl

abbrev peer : MtuDiscovery → ℕ → MtuDiscovery
peer m x = left m (mtud.peer_received m x)

abbrev reset : MtuDiscovery → ℕ → ℕ → MtuDiscovery
reset m x least = left m (mtud.reset_to m x least)

-- the peer's maximum is kept over a reset with the search off: 1500, then at most 1300, then 1500 asked for
pub off_keeps : (reset (peer (made (mtud.switched_off 1500 1200)) 1300) 1500 1200).current ≡ 1300
unfolding mtud.switched_off mtud.opened mtud.good mtud.peer_received mtud.reset_to phase.size_b phase.good_config phase.good_phase phase.searching_b phase.restarted hole.fresh hole.good hole.good_bursts hole.good_first hole.good_place
off_keeps = refl

-- from 1,200 to 1,500 with change 3, on a path that passes 1,499: eight sizes, as many as `sizes_most` allows, and it ends two below, as far as `shortfall` does
abbrev passed : List Bool
passed = true ∷ true ∷ true ∷ true ∷ true ∷ true ∷ false ∷ false ∷ false ∷ true ∷ []

pub eight : answered passed (up_to 1500 3) ≡ 1350 ∷ 1425 ∷ 1462 ∷ 1481 ∷ 1490 ∷ 1495 ∷ 1500 ∷ 1500 ∷ 1500 ∷ 1497 ∷ 0 ∷ []
unfolding answered mtud.started mtud.opened mtud.good mtud.polled mtud.by_phase mtud.turned mtud.rested mtud.acked mtud.by_acked mtud.is_probe mtud.probe_lost mtud.by_lost phase.size_b phase.packet_b phase.good_config phase.good_phase hole.fresh hole.good hole.good_bursts hole.good_first hole.good_place hole.probe_acked hole.delivered search.begun search.turn search.onward search.chosen search.acked search.missed search.good search.known
eight = refl

pub eight_sizes : (sizes (1350 ∷ 1425 ∷ 1462 ∷ 1481 ∷ 1490 ∷ 1495 ∷ 1500 ∷ 1500 ∷ 1500 ∷ 1497 ∷ []) ≡ 8) × (measure.sizes_most 3 300 ≡ 8)
unfolding sizes times measure.sizes_most measure.levels measure.level
eight_sizes = (refl, refl)

pub two_below : ((ended passed (up_to 1500 3)).current ≡ 1497) × (1499 - 1497 ≡ measure.shortfall 3)
unfolding ended mtud.started mtud.opened mtud.good mtud.polled mtud.by_phase mtud.turned mtud.rested mtud.acked mtud.by_acked mtud.is_probe mtud.probe_lost mtud.by_lost phase.size_b phase.packet_b phase.good_config phase.good_phase hole.fresh hole.good hole.good_bursts hole.good_first hole.good_place hole.probe_acked hole.delivered search.begun search.turn search.onward search.chosen search.acked search.missed search.good search.known
two_below = (refl, refl)

-- from 1,200 to 1,237 with change 20, on a path that passes 1,236: only 1,237 is tried, and it ends where it began, 36 below
abbrev failed : List Bool
failed = false ∷ false ∷ false ∷ []

pub one_size : answered failed (up_to 1237 20) ≡ 1237 ∷ 1237 ∷ 1237 ∷ 0 ∷ []
unfolding answered mtud.started mtud.opened mtud.good mtud.polled mtud.by_phase mtud.turned mtud.rested mtud.probe_lost mtud.by_lost phase.size_b phase.good_config phase.good_phase hole.fresh hole.good hole.good_bursts hole.good_first hole.good_place search.begun search.turn search.onward search.chosen search.missed search.good search.known
one_size = refl

pub thirty_six_below : ((ended failed (up_to 1237 20)).current ≡ 1200) × (1236 - 1200 ≡ measure.shortfall 20)
unfolding ended mtud.started mtud.opened mtud.good mtud.polled mtud.by_phase mtud.turned mtud.rested mtud.probe_lost mtud.by_lost phase.size_b phase.good_config phase.good_phase hole.fresh hole.good hole.good_bursts hole.good_first hole.good_place search.begun search.turn search.onward search.chosen search.missed search.good search.known
thirty_six_below = (refl, refl)
