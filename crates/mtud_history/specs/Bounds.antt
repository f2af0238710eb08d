-- What the theorems speak of: the peer's maximum at the start; when a search may begin, how far its bounds are apart, how many sizes it may try.
-- Assumes nothing.
use Rattle.std.specs.Prelude.{ℕ, ◌-◌, ◌≤◌, min, Option}
use Rattle.mtu_search.specs.Measure.{sizes_most}
use Rattle.mtu_phase.specs.declared.Phase.{Phase}
use Rattle.mtu_phase.specs.declared.Phase.TheVariants.{Off, Initial, Searching, Complete}
use Rattle.mtud.specs.declared.MtuDiscovery.{MtuDiscovery}
use Rattle.mtud.specs.Discovery.{or_most, top}

-- 65,527 where it is not known
abbrev pub peer_of : Option ℕ → ℕ
peer_of q = or_most q

-- a search may begin at the time `now`: it is on, none runs, and no rest does
unfoldable pub Due : Phase → ℕ → Type 0
Due Off now = ⊥
Due Initial now = Unit
Due (Searching s) now = ⊥
Due (Complete until) now = until ≤ now

-- the search that begins with the record o goes from its MTU up to the configured bound or the peer's maximum, the smaller
abbrev pub width_of : MtuDiscovery → ℕ
width_of o = min o.config.upper (top o) - o.current

abbrev pub sizes_of : MtuDiscovery → ℕ
sizes_of o = sizes_most o.config.change (width_of o)
