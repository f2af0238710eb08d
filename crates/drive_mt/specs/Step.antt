-- What an event of the MTU search is (docs/EVENTS.md, mt): the library's call of that name, on the words of the line (mtud's specs, Discovery).
-- A line's words are the numbers of a list: 0 and 1 the two that most events have; of `new` INITIAL, MIN, whether PEER is told, PEER, UPPER, CHANGE,
-- INTERVAL and COOLDOWN. Assumes nothing.
use Rattle.std.specs.Prelude.{ℕ, min, cond, List, eqb, leb, get_or, Option, None, Some, Result, Ok, Err, unwrap_or}
use Rattle.answers.specs.Answers.{OK, RANGE, ORDER, number}
use Rattle.answers.specs.declared.Refusal.{Refusal}
use Rattle.codes.specs.Codes.{MT_POLL, MT_ACK, MT_LOST, MT_PLOST, MT_HOLE, MT_PEER, MT_NEW, MT_OFF}
use Rattle.said.specs.Said.{said_plain, said_number, bit_of}
use Rattle.mtu_phase.specs.declared.MtuDiscoveryConfig.{MtuDiscoveryConfig}
use Rattle.mtud.specs.declared.MtuDiscovery.{MtuDiscovery}
use Rattle.mtud.specs.declared.Polled.{Polled}
use Rattle.mtud.specs.declared.Acked.{Acked}
use Rattle.mtud.specs.declared.Asked.{Asked}
use Rattle.mtud.specs.Discovery as mtud
use Rattle.drive_mt.specs.declared.Gave.{Gave}

-- ---- the words of a line
-- the word at place i
abbrev pub word : List ℕ → ℕ → ℕ
word words i = get_or words i 0

-- a size fits 16 bits: the largest such number, which no call takes, for all above it
abbrev pub size_of : ℕ → ℕ
size_of n = min n 65535

-- PEER, or `-`
unfoldable pub peer_of : ℕ → ℕ → Option ℕ
peer_of told n = cond (eqb told 1) (Some (size_of n)) None

-- UPPER, CHANGE, INTERVAL, COOLDOWN
abbrev pub config_of : ℕ → ℕ → ℕ → ℕ → MtuDiscoveryConfig
config_of upper change interval cooldown = record { upper = size_of upper; change = size_of change; interval = interval; cooldown = cooldown }

-- ---- what a call gives
-- an answer with no value, and the search that is kept, if there is one
abbrev pub plainly : ℕ → Option MtuDiscovery → Gave
plainly answer k = record { said = said_plain answer; kept = k }

-- an answer with a value, and the search
abbrev pub valued : ℕ → ℕ → MtuDiscovery → Gave
valued answer x m = record { said = said_number answer x; kept = Some m }

-- a call with no value: its record, or what was kept before where it is refused
unfoldable pub quiet_of : Result MtuDiscovery Refusal → Option MtuDiscovery → Gave
quiet_of (Ok m) k = plainly OK (Some m)
quiet_of (Err why) k = plainly (number why) k

-- calls of the search m with a value, 0 where they are refused: the size of the probe to send, 0 for none; whether the packet was the probe; whether there
-- is a black hole
unfoldable pub polled_of : Result Polled Refusal → MtuDiscovery → Gave
polled_of (Ok p) m = valued OK (unwrap_or p.probe 0) p.mtud
polled_of (Err why) m = valued (number why) 0 m

unfoldable pub acked_of : Result Acked Refusal → MtuDiscovery → Gave
acked_of (Ok a) m = valued OK (bit_of a.probe) a.mtud
acked_of (Err why) m = valued (number why) 0 m

unfoldable pub hole_of : Result Asked Refusal → MtuDiscovery → Gave
hole_of (Ok a) m = valued OK (bit_of a.hole) a.mtud
hole_of (Err why) m = valued (number why) 0 m

-- ---- the events
-- no search yet
unfoldable pub begin_of : Gave
begin_of = plainly OK None

-- `new`: INITIAL, MIN, PEER, UPPER, CHANGE, INTERVAL, COOLDOWN
unfoldable pub start_of : List ℕ → Result MtuDiscovery Refusal
start_of words =
    mtud.started (size_of (word words 0)) (size_of (word words 1)) (peer_of (word words 2) (word words 3))
    (config_of (word words 4) (word words 5) (word words 6) (word words 7))

-- the library takes CHANGE as 16 bits, of any value; one that does not fit is RANGE
unfoldable pub new_of : List ℕ → Option MtuDiscovery → Gave
new_of words k = cond (leb (word words 5) 65535) (quiet_of (start_of words) k) (plainly RANGE k)

-- an event of the search m with the words a and b; all codes but those of the others are `reset`
unfoldable pub call_of : ℕ → ℕ → ℕ → MtuDiscovery → Gave
call_of code a b m =
    cond (eqb code MT_POLL) (polled_of (mtud.polled m a b) m)
    (cond (eqb code MT_ACK) (acked_of (mtud.acked m a (size_of b)) m)
    (cond (eqb code MT_HOLE) (hole_of (mtud.hole_asked m a) m)
    (cond (eqb code MT_LOST) (quiet_of (mtud.packet_lost m a (size_of b)) (Some m))
    (cond (eqb code MT_PLOST) (quiet_of (mtud.probe_lost m) (Some m))
    (cond (eqb code MT_PEER) (quiet_of (mtud.peer_received m (size_of a)) (Some m))
    (quiet_of (mtud.reset_to m (size_of a) (size_of b)) (Some m)))))))

-- an event of the search that there is, if there is one; else ORDER
abbrev pub called : ℕ → ℕ → ℕ → Option MtuDiscovery → Gave
called code a b None = plainly ORDER None
called code a b (Some m) = call_of code a b m

-- an event; ORDER where there is no search and it makes none
unfoldable pub step_of : ℕ → List ℕ → Option MtuDiscovery → Gave
step_of code words k =
    cond (eqb code MT_NEW) (new_of words k)
    (cond (eqb code MT_OFF) (quiet_of (mtud.switched_off (size_of (word words 0)) (size_of (word words 1))) k)
    (called code (word words 0) (word words 1) k))
