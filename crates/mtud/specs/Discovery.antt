-- The search for the path's MTU, one step function an event, over the one record (mtud.rs; 01, MTU search). The burst rule is black_hole's, the choice of
-- sizes mtu_search's; here is what a call checks, what it answers, and what becomes of the MTU, the phase and the peer's maximum.
-- Where it is not the Rust's, by 01: a black hole falls to the minimum or to the peer's maximum if that is smaller; the peer's maximum is kept with the search
-- off, and over a reset; impossible events are ORDER. Assumes nothing.
use Rattle.std.specs.Prelude.{ℕ, ◌+◌, ◌^◌, min, Bool, true, false, cond, ◌&&◌, eqb, ltb, leb, Option, None, Some, Result, Ok, Err, unwrap_or}
use Rattle.answers.specs.declared.Refusal.{Refusal}
use Rattle.answers.specs.declared.Refusal.TheVariants.{Range, Order}
use Rattle.black_hole.specs.declared.BlackHoleDetector.{BlackHoleDetector}
use Rattle.black_hole.specs.declared.Detected.{Detected}
use Rattle.black_hole.specs.BlackHole as hole
use Rattle.mtu_search.specs.declared.SearchState.{SearchState}
use Rattle.mtu_search.specs.declared.Turn.{Turn}
use Rattle.mtu_search.specs.declared.Turn.TheVariants.{Waiting, Probing, Over}
use Rattle.mtu_search.specs.Search as search
use Rattle.mtu_phase.specs.declared.Phase.{Phase}
use Rattle.mtu_phase.specs.declared.Phase.TheVariants.{Off, Initial, Searching, Complete}
use Rattle.mtu_phase.specs.declared.MtuDiscoveryConfig.{MtuDiscoveryConfig}
use Rattle.mtu_phase.specs.Phase.{size_b, packet_b, no_config, good_config, good_phase, restarted, searching_b, off_b, flying_of}
use Rattle.mtud.specs.declared.MtuDiscovery.{MtuDiscovery}
use Rattle.mtud.specs.declared.Polled.{Polled}
use Rattle.mtud.specs.declared.Acked.{Acked}
use Rattle.mtud.specs.declared.Asked.{Asked}
use Rattle.mtud.specs.declared.View.{View}

-- ---- the peer's maximum, which is 65,527 until it is told
abbrev pub or_most : Option ℕ → ℕ
or_most q = unwrap_or q 65527

abbrev pub top : MtuDiscovery → ℕ
top m = or_most m.peer

-- ---- a good record: the MTU is a size and at most the peer's maximum; the detector and the phase are good
unfoldable pub good : MtuDiscovery → Bool
good m =
    (size_b m.current && leb m.current (top m))
    && (leb (top m) 65527 && (hole.good m.detector && good_phase m.phase m.config m.current (top m)))

-- ---- parts of the record put anew
abbrev pub put : MtuDiscovery → ℕ → Phase → BlackHoleDetector → MtuDiscovery
put m x p d = record { current = x; phase = p; peer = m.peer; config = m.config; detector = d }

abbrev pub at : MtuDiscovery → Phase → MtuDiscovery
at m p = put m m.current p m.detector

abbrev pub watching : MtuDiscovery → BlackHoleDetector → MtuDiscovery
watching m d = put m m.current m.phase d

-- ---- a call's check
abbrev pub checked : Bool → Result Unit Refusal
checked fine = cond fine (Ok tt) (Err Range)

-- ---- a fresh record, and one that starts over: the MTU capped by the peer's maximum, the detector fresh
unfoldable pub opened : ℕ → ℕ → Option ℕ → MtuDiscoveryConfig → Phase → MtuDiscovery
opened x least q c p = record { current = min x (or_most q); phase = p; peer = q; config = c; detector = hole.fresh least }

unfoldable pub started : ℕ → ℕ → Option ℕ → MtuDiscoveryConfig → Result MtuDiscovery Refusal
started initial least q c =
    cond ((size_b initial && size_b least) && (leb least initial && (size_b (or_most q) && good_config c)))
    (Ok (opened initial least q c Initial))
    (Err Range)

unfoldable pub switched_off : ℕ → ℕ → Result MtuDiscovery Refusal
switched_off x least = cond (size_b x && size_b least) (Ok (opened x least None no_config Off)) (Err Range)

unfoldable pub reset_to : MtuDiscovery → ℕ → ℕ → Result MtuDiscovery Refusal
reset_to m x least = cond (good m && (size_b x && size_b least)) (Ok (opened x least m.peer m.config (restarted m.phase))) (Err Range)

-- ---- a probe is asked for
-- none is due
abbrev pub quiet : MtuDiscovery → Polled
quiet m = record { probe = None; mtud = m }

-- at rest for the time span; a time past the last is RANGE
unfoldable pub rested : MtuDiscovery → ℕ → ℕ → Result MtuDiscovery Refusal
rested m now span = cond (ltb (now + span) (2 ^ 64)) (Ok (at m (Complete (now + span)))) (Err Range)

abbrev pub begun_in : MtuDiscovery → SearchState
begun_in m = search.begun m.current (top m) m.config.upper

-- a search that is over asks for no probe
abbrev pub quietly : Result MtuDiscovery Refusal → Result Polled Refusal
quietly (Ok m) = Ok (quiet m)
quietly (Err e) = Err e

unfoldable pub turned : Turn → MtuDiscovery → ℕ → Result Polled Refusal
turned Waiting m now = Ok (quiet m)
turned (Probing s) m now = Ok (record { probe = Some s.last; mtud = at m (Searching s) })
turned Over m now = quietly (rested m now m.config.interval)

abbrev pub turn_in : MtuDiscovery → SearchState → ℕ → ℕ → Result Polled Refusal
turn_in m s now n = turned (search.turn s m.config.change n) m now

unfoldable pub by_phase : Phase → MtuDiscovery → ℕ → ℕ → Result Polled Refusal
by_phase Off m now n = Ok (quiet m)
by_phase Initial m now n = turn_in m (begun_in m) now n
by_phase (Searching s) m now n = turn_in m s now n
by_phase (Complete until) m now n = cond (ltb now until) (Ok (quiet m)) (turn_in m (begun_in m) now n)

unfoldable pub polled : MtuDiscovery → ℕ → ℕ → Result Polled Refusal
polled m now n = cond (good m && ltb n (2 ^ 62)) (by_phase m.phase m now n) (Err Range)

-- ---- the peer's maximum is received
abbrev pub capped : MtuDiscovery → ℕ → MtuDiscovery
capped m x = record { current = min m.current x; phase = m.phase; peer = Some x; config = m.config; detector = m.detector }

unfoldable pub peer_received : MtuDiscovery → ℕ → Result MtuDiscovery Refusal
peer_received m x = cond (good m && size_b x) (cond (searching_b m.phase) (Err Order) (Ok (capped m x))) (Err Range)

-- ---- packet n of size x is acknowledged: the probe in flight gives the MTU its size
unfoldable pub is_probe : SearchState → ℕ → Bool
is_probe s n = s.flying && eqb s.probe n

abbrev pub delivered : MtuDiscovery → ℕ → ℕ → Acked
delivered m n x = record { probe = false; mtud = watching m (hole.delivered m.detector n x) }

abbrev pub probe_delivered : MtuDiscovery → SearchState → ℕ → ℕ → Acked
probe_delivered m s n x = record { probe = true; mtud = put m s.last (Searching (search.acked s)) (hole.probe_acked m.detector n x) }

unfoldable pub by_acked : Phase → MtuDiscovery → ℕ → ℕ → Acked
by_acked Off m n x = delivered m n x
by_acked Initial m n x = delivered m n x
by_acked (Searching s) m n x = cond (is_probe s n) (probe_delivered m s n x) (delivered m n x)
by_acked (Complete until) m n x = delivered m n x

unfoldable pub acked : MtuDiscovery → ℕ → ℕ → Result Acked Refusal
acked m n x = cond (good m && packet_b n x) (Ok (by_acked m.phase m n x)) (Err Range)

-- ---- the probe in flight is lost
unfoldable pub by_lost : Phase → MtuDiscovery → Result MtuDiscovery Refusal
by_lost Off m = Ok m
by_lost Initial m = Ok m
by_lost (Searching s) m = cond s.flying (Ok (at m (Searching (search.missed s)))) (Err Order)
by_lost (Complete until) m = Ok m

unfoldable pub probe_lost : MtuDiscovery → Result MtuDiscovery Refusal
probe_lost m = cond (good m) (by_lost m.phase m) (Err Range)

-- ---- packet n of size x, no probe, is lost: numbers rise within a burst
unfoldable pub late : BlackHoleDetector → ℕ → Bool
late d n = d.current.has && leb n d.current.latest

unfoldable pub packet_lost : MtuDiscovery → ℕ → ℕ → Result MtuDiscovery Refusal
packet_lost m n x = cond (good m && packet_b n x) (cond (late m.detector n) (Err Order) (Ok (watching m (hole.lost m.detector n x)))) (Err Range)

-- ---- it is asked whether there is a black hole
-- there is: the MTU falls, to the minimum or to the peer's maximum if that is smaller, and a search that is on rests
abbrev pub lowered : MtuDiscovery → MtuDiscovery
lowered m = put m (min m.detector.minimum (top m)) m.phase m.detector

unfoldable pub fallen : MtuDiscovery → ℕ → Result MtuDiscovery Refusal
fallen m now = cond (off_b m.phase) (Ok (lowered m)) (rested (lowered m) now m.config.cooldown)

abbrev pub found : Result MtuDiscovery Refusal → Result Asked Refusal
found (Ok m) = Ok (record { hole = true; mtud = m })
found (Err e) = Err e

unfoldable pub by_hole : Detected → MtuDiscovery → ℕ → Result Asked Refusal
by_hole h m now = cond h.found (found (fallen (watching m h.detector) now)) (Ok (record { hole = false; mtud = watching m h.detector }))

unfoldable pub hole_asked : MtuDiscovery → ℕ → Result Asked Refusal
hole_asked m now = cond (good m) (by_hole (hole.detected m.detector) m now) (Err Range)

-- ---- what is asked of the record
unfoldable pub size_of : MtuDiscovery → Result ℕ Refusal
size_of m = cond (good m) (Ok m.current) (Err Range)

unfoldable pub in_flight : MtuDiscovery → Result (Option ℕ) Refusal
in_flight m = cond (good m) (Ok (flying_of m.phase)) (Err Range)

abbrev pub shown : MtuDiscovery → View
shown m = record { mtu = m.current; phase = m.phase; peer = m.peer; detector = m.detector }

unfoldable pub viewed : MtuDiscovery → Result View Refusal
viewed m = cond (good m) (Ok (shown m)) (Err Range)
