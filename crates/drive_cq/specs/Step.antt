-- What an event of the connection-id queue is (docs/EVENTS.md, cq): the library's call of that name, on the words of the line (cid_queue's specs, Queue).
-- A line's numbers are a list, and so are the bytes of its byte strings: `bytes` up to `size`, of which those from `first` on are the second string's.
-- Assumes nothing.
use Rattle.std.specs.Prelude.{ℕ, ◌-◌, Bool, cond, List, [], ◌++◌, eqb, leb, length, get_or, take, drop, replicate, Option, Some, None, Result, Ok, Err}
use Rattle.answers.specs.Answers.{OK, RANGE, ORDER, number}
use Rattle.answers.specs.declared.Refusal.{Refusal}
use Rattle.codes.specs.Codes.{CQ_FRAME, CQ_NEXT, CQ_ACTIVE, CQ_RESET, CQ_NEW}
use Rattle.said.specs.declared.Said.{Said}
use Rattle.said.specs.Said.{said_plain, said_number, said_two, bit_of}
use Rattle.cid_queue.specs.declared.CidQueue.{CidQueue}
use Rattle.cid_queue.specs.declared.Retirement.{Retirement}
use Rattle.cid_queue.specs.declared.Retired.{Retired}
use Rattle.cid_queue.specs.declared.Entry.{Entry}
use Rattle.cid_queue.specs.Queue as cids
use Rattle.drive_cq.specs.declared.Gave.{Gave}

-- ---- the words of a line
-- the bytes from..to; none where there are not so many
unfoldable pub part_of : List ℕ → ℕ → ℕ → List ℕ
part_of bytes from to = cond (leb to (length bytes)) (take (to - from) (drop from bytes)) []

-- the elements of s, as far as they fit, over those of a list
unfoldable pub over : List ℕ → List ℕ → List ℕ
over s list = take (length list) s ++ drop (length s) list

-- n bytes: the first of s, then zeros
unfoldable pub filled : ℕ → List ℕ → List ℕ
filled n s = take n s ++ replicate (n - length s) 0

-- an id has 20 bytes, of which the first ones count; a token has 16
abbrev pub id_of : List ℕ → ℕ → ℕ → List ℕ
id_of bytes from to = filled 20 (part_of bytes from to)

abbrev pub token_of : List ℕ → ℕ → ℕ → List ℕ
token_of bytes from to = filled 16 (part_of bytes from to)

-- ---- what a call gives
-- an answer with its numbers, and what is kept
abbrev pub give_of : Said → Option CidQueue → Gave
give_of s k = record { said = s; retired = None; named = None; kept = k }

-- an answer with no value; the queue that the call hands back is kept, or what was kept before where it is refused
abbrev pub made_of : Result CidQueue Refusal → Option CidQueue → Gave
made_of (Ok g) k = give_of (said_plain OK) (Some g)
made_of (Err why) k = give_of (said_plain (number why)) k

-- numbers that are to be retired are values, with the token of the new active id
abbrev pub parted_of : Option Retired → CidQueue → Gave
parted_of None g = give_of (said_two OK 0 0) (Some g)
parted_of (Some d) g = record { said = said_two OK d.start d.end; retired = Some d; named = None; kept = Some g }

-- a step of the queue q
abbrev pub moved_of : Result Retirement Refusal → CidQueue → Gave
moved_of (Ok d) q = parted_of d.retired d.queue
moved_of (Err why) q = give_of (said_two (number why) 0 0) (Some q)

-- an id that is shown is a value, with its number
abbrev pub named_of : Result Entry Refusal → CidQueue → Gave
named_of (Ok e) q = record { said = said_number OK e.seq; retired = None; named = Some e.cid; kept = Some q }
named_of (Err why) q = give_of (said_number (number why) 0) (Some q)

-- a refusal before the call; the queue is as it was
abbrev pub refused_of : CidQueue → Gave
refused_of q = give_of (said_plain RANGE) (Some q)

-- yes or no
abbrev pub told_of : Result Bool Refusal → CidQueue → Gave
told_of (Ok is) q = give_of (said_number OK (bit_of is)) (Some q)
told_of (Err why) q = give_of (said_number (number why) 0) (Some q)

-- ---- the events
-- no queue yet
unfoldable pub begin_of : Gave
begin_of = give_of (said_plain OK) None

unfoldable pub new_of : List ℕ → ℕ → Option CidQueue → Gave
new_of bytes size k = made_of (cids.made (id_of bytes 0 size) size) k

-- `frame SEQ RETIRE CID TOKEN`: the first string is the id, the second the token, which has 16 bytes
unfoldable pub frame_of : ℕ → ℕ → List ℕ → ℕ → ℕ → CidQueue → Gave
frame_of a b bytes first size q =
    cond (eqb (size - first) 16)
    (moved_of (cids.inserted q.ring a b (cids.issued (id_of bytes 0 first) first (token_of bytes first size))) q)
    (refused_of q)

-- `active`
abbrev pub shown_of : CidQueue → Gave
shown_of q = named_of (cids.active_of q.ring) q

-- `reset TOKEN`
unfoldable pub reset_of : List ℕ → ℕ → CidQueue → Gave
reset_of bytes size q = cond (eqb size 16) (told_of (cids.reset_of q.ring (token_of bytes 0 size)) q) (refused_of q)

-- an event of the queue q with the numbers a and b; all codes but those of the others are `update`
unfoldable pub call_of : ℕ → ℕ → ℕ → List ℕ → ℕ → ℕ → CidQueue → Gave
call_of code a b bytes first size q =
    cond (eqb code CQ_FRAME) (frame_of a b bytes first size q)
    (cond (eqb code CQ_NEXT) (moved_of (cids.switched q.ring) q)
    (cond (eqb code CQ_ACTIVE) (shown_of q)
    (cond (eqb code CQ_RESET) (reset_of bytes size q)
    (made_of (cids.updated q.ring (id_of bytes 0 size) size) (Some q)))))

-- the same where there is a queue, else ORDER
abbrev pub call_on : ℕ → ℕ → ℕ → List ℕ → ℕ → ℕ → Option CidQueue → Gave
call_on code a b bytes first size None = give_of (said_plain ORDER) None
call_on code a b bytes first size (Some q) = call_of code a b bytes first size q

-- an event; ORDER where there is no queue and it makes none
unfoldable pub step_of : ℕ → List ℕ → List ℕ → ℕ → ℕ → Option CidQueue → Gave
step_of code numbers bytes first size k =
    cond (eqb code CQ_NEW) (new_of bytes size k) (call_on code (get_or numbers 0 0) (get_or numbers 1 0) bytes first size k)
