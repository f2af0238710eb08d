-- What a call leaves: the record that it hands back, and where it refuses the caller's own, as it was. And what an outcome says besides.
-- Assumes nothing.
use Rattle.std.specs.Prelude.{ℕ, Bool, false, Option, None, Result, Ok, Err}
use Rattle.answers.specs.declared.Refusal.{Refusal}
use Rattle.mtud.specs.declared.MtuDiscovery.{MtuDiscovery}
use Rattle.mtud.specs.declared.Polled.{Polled}
use Rattle.mtud.specs.declared.Acked.{Acked}
use Rattle.mtud.specs.declared.Asked.{Asked}

-- ---- the record after a call on m
abbrev pub left : MtuDiscovery → Result MtuDiscovery Refusal → MtuDiscovery
left m (Ok q) = q
left m (Err e) = m

abbrev pub left_polled : MtuDiscovery → Result Polled Refusal → MtuDiscovery
left_polled m (Ok r) = r.mtud
left_polled m (Err e) = m

abbrev pub left_acked : MtuDiscovery → Result Acked Refusal → MtuDiscovery
left_acked m (Ok r) = r.mtud
left_acked m (Err e) = m

abbrev pub left_asked : MtuDiscovery → Result Asked Refusal → MtuDiscovery
left_asked m (Ok r) = r.mtud
left_asked m (Err e) = m

-- ---- what it says
-- the size of the probe that a poll asks for, if it does
abbrev pub probe_of : Result Polled Refusal → Option ℕ
probe_of (Ok r) = r.probe
probe_of (Err e) = None

-- the packet was the probe; there is a black hole
abbrev pub was_probe : Result Acked Refusal → Bool
was_probe (Ok r) = r.probe
was_probe (Err e) = false

abbrev pub was_hole : Result Asked Refusal → Bool
was_hole (Ok r) = r.hole
was_hole (Err e) = false

-- the peer's maximum after a call that told x: the new one exactly if the call is not refused
abbrev pub peer_after : Result MtuDiscovery Refusal → ℕ → ℕ → ℕ
peer_after (Ok q) x p = x
peer_after (Err e) x p = p
