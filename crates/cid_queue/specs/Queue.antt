-- The calls of the connection-id queue (01, Connection-id queue; cid_queue.rs; RFC 9000 sections 5.1 and 19.15), said of sequence numbers.
-- A queue is the partial map from sequence numbers to ids with their tokens that its ring holds, `under`; its least number is the active one.
-- A frame writes its id under its number; what is retired is the numbers below the new active one, which is the least held that the frame
-- leaves to be used. Stricter than the Rust: a length outside 1 to 20 and a number of 2^62 or more are RANGE. Assumes nothing.
use Rattle.std.specs.Prelude.{ℕ, zero, suc, ◌+◌, ◌-◌, ◌^◌, min, max, Bool, false, cond, ◌&&◌, List, eqb, ltb, leb, Option, Some, None, Result, Ok, Err}
use Rattle.answers.specs.declared.Refusal.{Refusal}
use Rattle.answers.specs.declared.Refusal.TheVariants.{Range, Malformed, Order, Limit, Retired as RetiredAlready}
use Rattle.constant_time.specs.Agree.{agree}
use Rattle.cid_ring.specs.declared.Cid.{Cid}
use Rattle.cid_ring.specs.declared.Ring.{Ring}
use Rattle.cid_ring.specs.Cids.{under, held, token_of, first, retired, put, sound, empty}
use Rattle.cid_queue.specs.declared.CidQueue.{CidQueue}
use Rattle.cid_queue.specs.declared.Retirement.{Retirement}
use Rattle.cid_queue.specs.declared.Retired.{Retired}
use Rattle.cid_queue.specs.declared.Entry.{Entry}

-- The definitions below speak of the ring that a queue holds.
abbrev pub queue : Ring → CidQueue
queue g = record { ring = g }

-- an id of the handshake: it comes with no reset token
abbrev pub initial : List ℕ → ℕ → Cid
initial id len = record { len = len; id = id; token = None }

-- an id of a NEW_CONNECTION_ID frame
abbrev pub issued : List ℕ → ℕ → List ℕ → Cid
issued id len token = record { len = len; id = id; token = Some token }

-- a length that an id may have: 1 to 20 bytes (RFC 9000 section 19.15)
abbrev pub usable : ℕ → Bool
usable len = ltb 0 len && leb len 20

-- an id of the handshake, where it has such a length
abbrev pub handshake : List ℕ → ℕ → Result Cid Refusal
handshake id len = cond (usable len) (Ok (initial id len)) (Err Range)

-- the ring of a queue in good form, with which every call on a queue begins
abbrev pub checked : Ring → Result Ring Refusal
checked q = cond (sound q) (Ok q) (Err Range)

-- What the calls answer. A refused call hands back no queue, and the caller's is as it was.

-- What is to be retired as q becomes `next`, whose active number is `to`: where that is another, the old one and those between, five numbers at
-- most, and the new active id's token is handed back; a number past the five was never received, and is retired when it comes (RETIRED).
-- In good form it has one, since its number is not 0 (cid_ring/proofs/Kept, held_known).
unfoldable pub parting : Ring → ℕ → Ring → Option Retired
parting q to next =
    cond (eqb to q.offset) None (Some (record { start = q.offset; end = min to (q.offset + 5); token = token_of (under next to) }))

-- q has become `next`
abbrev pub moved : Ring → ℕ → Ring → Retirement
moved q to next = record { queue = queue next; retired = parting q to next }

-- arguments in their limits, and a queue in good form
unfoldable pub takes : Ring → ℕ → ℕ → ℕ → Bool
takes q seq prior len = sound q && (usable len && (ltb seq (2 ^ 62) && ltb prior (2 ^ 62)))

-- the least number that a frame leaves to be used: the active one, or the frame's retire-prior-to where that is above it
abbrev pub floor : Ring → ℕ → ℕ
floor q prior = max q.offset prior

-- the new active number: the least one held that is not retired, or the frame's own
abbrev pub successor : Ring → ℕ → ℕ → ℕ
successor q seq least = first (held q) least (seq - least)

-- the old numbers go before the new one is added (RFC 9000 section 5.1.2)
unfoldable pub accepted : Ring → ℕ → ℕ → Cid → Retirement
accepted q seq to s = moved q to (put (retired q to) seq (Some s))

-- a NEW_CONNECTION_ID frame with the sequence number seq, the retire-prior-to prior and the id s (RFC 9000 section 19.15). RANGE on arguments
-- first, then 01's order: MALFORMED, RETIRED, and LIMIT as cid_queue.rs counts it, five numbers from the least that may be used.
unfoldable pub inserted : Ring → ℕ → ℕ → Cid → Result Retirement Refusal
inserted q seq prior s =
    cond (takes q seq prior s.len)
    (cond (ltb seq prior) (Err Malformed)
    (cond (ltb seq q.offset) (Err RetiredAlready)
    (cond (leb (floor q prior + 5) seq) (Err Limit)
    (Ok (accepted q seq (successor q seq (floor q prior)) s)))))
    (Err Range)

unfoldable pub switched_to : Ring → ℕ → Result Retirement Refusal
switched_to q to = cond (leb (q.offset + 5) to) (Err Order) (Ok (moved q to (retired q to)))

-- the switch to the next number held; where there is none, ORDER
unfoldable pub switched : Ring → Result Retirement Refusal
switched q = cond (sound q) (switched_to q (first (held q) (q.offset + 1) 4)) (Err Range)

-- the queue of the handshake's id, whose number is 0
unfoldable pub made : List ℕ → ℕ → Result CidQueue Refusal
made id len = cond (usable len) (Ok (queue (put empty 0 (Some (initial id len))))) (Err Range)

-- the handshake's id replaced, while it is the active one
unfoldable pub updated : Ring → List ℕ → ℕ → Result CidQueue Refusal
updated q id len =
    cond (sound q && usable len)
    (cond (ltb 0 q.offset) (Err Order) (Ok (queue (put q 0 (Some (initial id len))))))
    (Err Range)

-- the id under n with its number; a number that is held has one (Entries, held_shown)
abbrev pub shown_as : ℕ → Option Cid → Result Entry Refusal
shown_as n None = Err Range
shown_as n (Some s) = Ok (record { seq = n; cid = s })

abbrev pub shown : Ring → ℕ → Result Entry Refusal
shown q n = shown_as n (under q n)

unfoldable pub active_of : Ring → Result Entry Refusal
active_of q = cond (sound q) (shown q q.offset) (Err Range)

unfoldable pub active_seq : Ring → Result ℕ Refusal
active_seq q = cond (sound q) (Ok q.offset) (Err Range)

-- the k-th number held, the active one being the 0th: each is the first held after the one before it; q.offset + 5 or more where there are not so many
unfoldable pub nth : Ring → ℕ → ℕ
nth q zero = q.offset
nth q (suc k) = first (held q) (nth q k + 1) (q.offset + 5 - (nth q k + 1))

-- the k-th id held; ORDER where there are not so many
unfoldable pub entry_of : Ring → ℕ → Result Entry Refusal
entry_of q k =
    cond (sound q) (cond (leb 5 k) (Err Order) (cond (leb (q.offset + 5) (nth q k)) (Err Order) (shown q (nth q k)))) (Err Range)

-- whether a token that was received is the one that an id came with; an id that came with none has no such token
abbrev pub is_token : Option (List ℕ) → List ℕ → Bool
is_token None token = false
is_token (Some own) token = agree own token

-- whether a token that was received is the active id's (RFC 9000 section 10.3.1)
unfoldable pub reset_of : Ring → List ℕ → Result Bool Refusal
reset_of q token = cond (sound q) (Ok (is_token (token_of (under q q.offset)) token)) (Err Range)
