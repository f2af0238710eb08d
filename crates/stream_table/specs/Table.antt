-- The table of streams on lent words: seven words a record, sorted by id, strictly rising (01, Streams and bytes, Answers and Limits).
--
-- A place is a stream that the peer may still use, granted and not freed, or one of ours that goes both ways. An id that is admitted and has no place is
-- a closed stream. Everything is said of the words from the first on, so that the table may be any part of a larger block.
-- Assumes nothing.
use Rattle.std.specs.Prelude.{ℕ, zero, suc, ◌+◌, ◌*◌, ◌-◌, ◌/◌, ◌%◌, ◌^◌, Bool, cond, ◌&&◌, ◌||◌, List, [], ◌∷◌, eqb, ltb, leb, get_or, set, length, Option, Some, None, Result, Ok, Err, is_ok}
use Rattle.answers.specs.declared.Refusal.{Refusal}
use Rattle.answers.specs.declared.Refusal.TheVariants.{Range}
use Rattle.stream_record.specs.declared.Stream.{Stream}
use Rattle.stream_conn.specs.declared.Conn.{Conn}
use Rattle.stream_conn.specs.Books.{admitted, good_conn}
use Rattle.stream_table.specs.declared.Place.{Place}
use Rattle.stream_table.specs.declared.Stripped.{Stripped}

-- ---- records in words
-- record i of the words
abbrev pub rec_at : List ℕ → ℕ → Stream
rec_at l i =
    record { id = get_or l (7 * i) 0; end = get_or l (7 * i + 1) 0; read = get_or l (7 * i + 2) 0; limit = get_or l (7 * i + 3) 0; phase = get_or l (7 * i + 4) 0; sending = get_or l (7 * i + 5) 0; class = get_or l (7 * i + 6) 0 }

-- the words with s as record i
abbrev pub put_rec : List ℕ → ℕ → Stream → List ℕ
put_rec l i s =
    set (set (set (set (set (set (set l (7 * i) s.id) (7 * i + 1) s.end) (7 * i + 2) s.read) (7 * i + 3) s.limit) (7 * i + 4) s.phase) (7 * i + 5) s.sending) (7 * i + 6) s.class

-- the n records from record k on
abbrev pub recs_from : ℕ → ℕ → List ℕ → List Stream
recs_from k zero l = []
recs_from k (suc n) l = rec_at l k ∷ recs_from (suc k) n l

unfoldable pub records : ℕ → List ℕ → List Stream
records n l = recs_from 0 n l

-- the words with the records ss from place k on
abbrev pub put_recs : List ℕ → ℕ → List Stream → List ℕ
put_recs l k [] = l
put_recs l k (s ∷ ss) = put_recs (put_rec l k s) (suc k) ss

-- ---- good form
-- 1 for a stream of the peer in the direction d, else 0
unfoldable pub theirs : Conn → ℕ → ℕ → ℕ
theirs c d id = cond (eqb (id % 2) c.side) 0 (cond (eqb (id / 2 % 2) d) 1 0)

-- a record's numbers: the id within its limit; read ≤ end ≤ limit < 2^62; a phase and a sending half that there are; a closed half has no numbers left;
-- after a reset or a stop all is credited; one way, no sending half; the class is 0
unfoldable pub good_numbers : Stream → Bool
good_numbers s =
    ltb s.id (2 ^ 62) && (leb s.read s.end && (leb s.end s.limit && (ltb s.limit (2 ^ 62)
    && (ltb s.phase 5 && (ltb s.sending 2
    && ((ltb 0 s.phase || eqb s.limit 0)
    && ((ltb s.phase 3 || eqb s.read s.end)
    && ((eqb (s.id / 2 % 2) 0 || eqb s.sending 0) && eqb s.class 0))))))))

-- a record: the peer may send on it, and its numbers are good
unfoldable pub good_rec : Conn → Stream → Bool
good_rec c s = is_ok (admitted c s.id) && good_numbers s

-- in one pass: ids rise from low on, each record is good, the ends come to left, and b and u records of the peer's come before these
abbrev pub good_from : Conn → List Stream → ℕ → ℕ → ℕ → ℕ → Bool
good_from c [] low left b u = eqb left 0 && (eqb b c.bi.ralloc && eqb u c.uni.ralloc)
good_from c (s ∷ ss) low left b u =
    good_rec c s && (leb low s.id && (leb s.end left && good_from c ss (s.id + 1) (left - s.end) (b + theirs c 0 s.id) (u + theirs c 1 s.id)))

abbrev pub sum_ends : List Stream → ℕ
sum_ends [] = 0
sum_ends (s ∷ ss) = s.end + sum_ends ss

-- everything that a call checks of what it is given: at most 256 places, all of them lent; the connection and every record good; the closed total and
-- the ends come to what is charged; as many of the peer's streams as are allocated
unfoldable pub sound_b : Conn → List ℕ → ℕ → Bool
sound_b c l n = leb n 256 && (leb (7 * n) (length l) && (good_conn c && good_from c (records n l) 0 (c.charged - c.closed) 0 0))

-- ---- a stream's place
-- the place of the first record with that id, counted from k
abbrev pub find_from : ℕ → List Stream → ℕ → Option ℕ
find_from k [] id = None
find_from k (s ∷ ss) id = cond (eqb s.id id) (Some k) (find_from (suc k) ss id)

unfoldable pub find_in : List Stream → ℕ → Option ℕ
find_in ss id = find_from 0 ss id

abbrev pub placed : List ℕ → Option ℕ → Option Place
placed l None = None
placed l (Some i) = Some (record { at = i; stream = rec_at l i })

-- the stream of a peer that may send on it, or why it may not
abbrev pub let_in : Option Place → Result (Unit {0}) Refusal → Result (Option Place) Refusal
let_in p (Ok u) = Ok p
let_in p (Err why) = Err why

-- what every call on a stream begins with: RANGE on the id and on the form, STATE or LIMIT, then the place
unfoldable pub entered : Conn → List ℕ → ℕ → ℕ → Result (Option Place) Refusal
entered c l n id =
    cond (ltb id (2 ^ 62) && sound_b c l n) (let_in (placed l (find_in (records n l) id)) (admitted c id)) (Err Range)

-- ---- places come and go; the words past the last record written stay as they were
-- place n is one of the table's 256, and lent whole
unfoldable pub has_place : List ℕ → ℕ → Bool
has_place l n = ltb n 256 && leb (7 * n + 7) (length l)

unfoldable pub stored_at : List ℕ → ℕ → Stream → List ℕ
stored_at l i s = cond (has_place l i) (put_rec l i s) l

abbrev pub lower : Stream → Stream → Stream
lower s x = cond (ltb s.id x.id) s x

abbrev pub upper : Stream → Stream → Stream
upper s x = cond (ltb s.id x.id) x s

-- s among records in the order of their ids
abbrev pub insert_id : Stream → List Stream → List Stream
insert_id s [] = s ∷ []
insert_id s (x ∷ xs) = lower s x ∷ insert_id (upper s x) xs

-- the words with one more record, in the order of ids
unfoldable pub inserted : List ℕ → ℕ → Stream → List ℕ
inserted l n s = put_recs l 0 (insert_id s (records n l))

unfoldable pub inserted_at : List ℕ → ℕ → Stream → List ℕ
inserted_at l n s = cond (has_place l n) (inserted l n s) l

-- the words without record i: those after it move down, and the last place keeps what it had
unfoldable pub removed : List ℕ → ℕ → ℕ → List ℕ
removed l n i = put_recs l i (recs_from (i + 1) (n - (i + 1)) l)

unfoldable pub removed_at : List ℕ → ℕ → ℕ → List ℕ
removed_at l n i = cond (ltb i n && (leb n 256 && leb (7 * n) (length l))) (removed l n i) l

-- ---- our streams go (0-RTT is rejected): the peer's move down, and the ends of ours are added up
-- what is handed back, and the words afterwards
pub record Left (A : Type 0) : Type 0 where
  pub out : A
  pub words : List ℕ

abbrev pub left : {A : Type 0} → A → List ℕ → Left A
left d l = record { out = d; words = l }

abbrev pub strip_from : ℕ → List ℕ → ℕ → ℕ → List Stream → Left Stripped
strip_from side l w total [] = left (record { count = w; total = total }) l
strip_from side l w total (s ∷ ss) =
    strip_from side (cond (eqb (s.id % 2) side) l (put_rec l w s)) (cond (eqb (s.id % 2) side) w (w + 1)) (cond (eqb (s.id % 2) side) (total + s.end) total) ss

unfoldable pub stripped : ℕ → List ℕ → ℕ → Left Stripped
stripped side l n = strip_from side l 0 0 (records n l)

unfoldable pub strip_after : Conn → List ℕ → ℕ → Left (Result Stripped Refusal)
strip_after c l n = cond (sound_b c l n) (left (Ok (stripped c.side l n).out) (stripped c.side l n).words) (left (Err Range) l)
