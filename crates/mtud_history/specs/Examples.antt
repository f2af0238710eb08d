-- Runs of the definitions: all probes acknowledged, all lost, some of each.
-- Assumes nothing.
use Rattle.std.specs.Prelude.{ℕ, zero, suc, Bool, cond, List, [], ◌∷◌, None, Result, unwrap_or}
use Rattle.answers.specs.declared.Refusal.{Refusal}
use Rattle.mtu_phase.specs.declared.Phase.TheVariants.{Off}
use Rattle.mtu_phase.specs.Phase.{no_config}
use Rattle.mtu_phase.specs.declared.MtuDiscoveryConfig.{MtuDiscoveryConfig}
use Rattle.mtud.specs.declared.MtuDiscovery.{MtuDiscovery}
use Rattle.mtud.specs.declared.Polled.{Polled}
use Rattle.mtud.specs.Discovery.{opened, started, polled, acked, probe_lost}
use Rattle.mtud_history.specs.Left.{left, left_polled, left_acked, probe_of}

-- 01's search: from 1,200 to 1,452, with change 20
abbrev pub config : MtuDiscoveryConfig
config = record { upper = 1452; change = 20; interval = 600000000; cooldown = 60000000 }

-- the record of a start; where that is refused, one that no call takes
abbrev pub made : Result MtuDiscovery Refusal → MtuDiscovery
made r = left (opened 0 0 None no_config Off) r

abbrev pub start : MtuDiscovery
start = made (started 1200 1200 None config)

-- from 1,200 to `top`, with that change, and no rest after it
abbrev pub up_to : ℕ → ℕ → MtuDiscovery
up_to top change = made (started 1200 1200 None (record { upper = top; change = change; interval = 0; cooldown = 0 }))

-- a poll's size, 0 for no probe, and the record after the poll
abbrev pub asked : Result Polled Refusal → ℕ
asked r = unwrap_or (probe_of r) 0

abbrev pub after_poll : ℕ → MtuDiscovery → MtuDiscovery
after_poll k m = left_polled m (polled m 0 k)

-- and after its probe, packet k, is acknowledged, or lost
abbrev pub after_ack : ℕ → MtuDiscovery → MtuDiscovery
after_ack k m = left_acked m (acked m k 1200)

abbrev pub after_loss : MtuDiscovery → MtuDiscovery
after_loss m = left m (probe_lost m)

-- the sizes of k polls, each probe being acknowledged, or lost, before the next poll
unfoldable pub all_acked : ℕ → MtuDiscovery → List ℕ
all_acked zero m = []
all_acked (suc k) m = asked (polled m 0 k) ∷ all_acked k (after_ack k (after_poll k m))

unfoldable pub all_lost : ℕ → MtuDiscovery → List ℕ
all_lost zero m = []
all_lost (suc k) m = asked (polled m 0 k) ∷ all_lost k (after_loss (after_poll k m))

-- each probe acknowledged, or lost, as a list says, before the next poll: the sizes of the polls, and the record after the last
abbrev pub turn_to : Bool → MtuDiscovery → MtuDiscovery
turn_to b m = cond b (after_ack 0 (after_poll 0 m)) (after_loss (after_poll 0 m))

unfoldable pub answered : List Bool → MtuDiscovery → List ℕ
answered [] m = asked (polled m 0 0) ∷ []
answered (b ∷ l) m = asked (polled m 0 0) ∷ answered l (turn_to b m)

unfoldable pub ended : List Bool → MtuDiscovery → MtuDiscovery
ended [] m = after_poll 0 m
ended (b ∷ l) m = ended l (turn_to b m)
