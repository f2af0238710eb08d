-- st.new SIDE BI UNI WINDOW STREAM_WINDOW (docs/EVENTS.md): with how many streams of the peer's a connection can start, and the grant of those.
-- Assumes nothing.
use Rattle.std.specs.Prelude.{ℕ, ◌+◌, ◌^◌, cond, ◌||◌, List, eqb, ltb, Result, Ok, Err}
use Rattle.answers.specs.Answers.{OK, RANGE, FULL}
use Rattle.answers.specs.declared.Refusal.{Refusal}
use Rattle.answers.specs.declared.Refusal.TheVariants.{Range, Full}
use Rattle.stream_conn.specs.declared.Conn.{Conn}
use Rattle.stream_conn.specs.declared.Done.{Done}
use Rattle.stream_places.specs.declared.Changed.{Changed}
use Rattle.stream_places.specs.Places.{Grown, conn_after, count_after, want_after}
use Rattle.st_new.specs.declared.Started.{Started}

-- a refusal of the connection record; a number of streams past 2^60 is RANGE, more than the table has places FULL
unfoldable pub startable : Result Done Refusal → ℕ → ℕ → Result Conn Refusal
startable (Err why) bi uni = Err why
startable (Ok d) bi uni = cond (ltb (2 ^ 60) bi || ltb (2 ^ 60) uni) (Err Range) (cond (ltb 256 (bi + uni)) (Err Full) (Ok d.conn))

-- whether there is room for so many, likewise
unfoldable pub room_of : ℕ → ℕ → Result Unit Refusal
room_of bi uni = cond (ltb (2 ^ 60) bi || ltb (2 ^ 60) uni) (Err Range) (cond (ltb 256 (bi + uni)) (Err Full) (Ok tt))

-- the same by numbers: what the record's answer was, or what the numbers of streams come to
unfoldable pub start_answer : ℕ → ℕ → ℕ → ℕ
start_answer a bi uni =
    cond (eqb a OK) (cond (ltb (2 ^ 60) bi) RANGE (cond (ltb (2 ^ 60) uni) RANGE (cond (ltb 256 (bi + uni)) FULL OK))) a

-- what the last grant came to with the books after it, and the lent words
pub record Start : Type 0 where
  pub out : Started
  pub words : List ℕ

abbrev pub started : Started → List ℕ → Start
started s l = record { out = s; words = l }

abbrev pub value_of : Result Changed Refusal → Result ℕ Refusal
value_of (Ok x) = Ok x.value
value_of (Err why) = Err why

abbrev pub granted_of : Conn → ℕ → Result Changed Refusal → Started
granted_of c n r = record { granted = value_of r; count = count_after n r; conn = conn_after c r }

abbrev pub after_grant : Conn → ℕ → Grown → Start
after_grant c n g = started (granted_of c n g.out) g.words

-- the peer's streams both ways are granted first, then those one way
abbrev pub then_uni : ℕ → Start → Start
then_uni uni s = after_grant s.out.conn s.out.count (want_after s.out.conn s.words s.out.count 1 uni)

unfoldable pub start_of : Conn → List ℕ → ℕ → ℕ → Start
start_of c l bi uni = then_uni uni (after_grant c 0 (want_after c l 0 0 bi))
