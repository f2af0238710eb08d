-- The phases of the search and its settings, and the limits of what a call is given (01, Limits; mtud.rs, Phase).
-- Assumes nothing.
use Rattle.std.specs.Prelude.{ℕ, ◌^◌, Bool, true, false, cond, ◌&&◌, ltb, leb, Option, None, Some}
use Rattle.mtu_search.specs.Search as search
use Rattle.mtu_phase.specs.declared.Phase.{Phase}
use Rattle.mtu_phase.specs.declared.Phase.TheVariants.{Off, Initial, Searching, Complete}
use Rattle.mtu_phase.specs.declared.MtuDiscoveryConfig.{MtuDiscoveryConfig}

-- ---- limits (01, Limits): a size as a setting; the number and the size of a packet
unfoldable pub size_b : ℕ → Bool
size_b x = leb 1200 x && leb x 65527

unfoldable pub packet_b : ℕ → ℕ → Bool
packet_b n x = ltb n (2 ^ 62) && leb x 65527

-- ---- good settings and a good phase: a search's upper bound is at most the configured one
unfoldable pub good_config : MtuDiscoveryConfig → Bool
good_config c = size_b c.upper && ltb 0 c.change

unfoldable pub good_phase : Phase → MtuDiscoveryConfig → ℕ → ℕ → Bool
good_phase Off c current peer = true
good_phase Initial c current peer = good_config c
good_phase (Searching s) c current peer = good_config c && (leb s.upper c.upper && search.good s current peer)
good_phase (Complete until) c current peer = good_config c

abbrev pub no_config : MtuDiscoveryConfig
no_config = record { upper = 0; change = 0; interval = 0; cooldown = 0 }

-- ---- what a phase is asked
-- a reset: the search has not begun, or stays off
unfoldable pub restarted : Phase → Phase
restarted Off = Off
restarted Initial = Initial
restarted (Searching s) = Initial
restarted (Complete until) = Initial

unfoldable pub searching_b : Phase → Bool
searching_b Off = false
searching_b Initial = false
searching_b (Searching s) = true
searching_b (Complete until) = false

unfoldable pub off_b : Phase → Bool
off_b Off = true
off_b Initial = false
off_b (Searching s) = false
off_b (Complete until) = false

-- the packet number of the probe in flight, if there is one
unfoldable pub flying_of : Phase → Option ℕ
flying_of Off = None
flying_of Initial = None
flying_of (Searching s) = cond s.flying (Some s.probe) None
flying_of (Complete until) = None
