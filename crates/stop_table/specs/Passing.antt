-- How the slice is gone through: one pass with running numbers, and what they come to at its end. `Slice.antt` says what is right; this says what is done.
-- Assumes nothing.
use Rattle.std.specs.Prelude.{ℕ, zero, suc, ◌+◌, ◌-◌, ◌^◌, min, Bool, cond, ◌&&◌, List, eqb, ltb, leb, length, get_or, set, Option, Some, None, is_some, Result, Ok, Err}
use Rattle.answers.specs.declared.Refusal.{Refusal}
use Rattle.answers.specs.declared.Refusal.TheVariants.{Range, Order}
use Rattle.stream_record.specs.declared.Stream.{Stream}
use Rattle.stream_record.specs.declared.Step.{Step}
use Rattle.stream_record.specs.Record.{none, halted}
use Rattle.stream_conn.specs.declared.Conn.{Conn}
use Rattle.stream_conn.specs.Books.{admitted, good_conn, paid, unchanged_done}
use Rattle.stream_table.specs.declared.Place.{Place}
use Rattle.stream_table.specs.Table.{theirs, good_rec, let_in}
use Rattle.streams.specs.Calls.{done_of}
use Rattle.stop_table.specs.declared.Pass.{Pass}
use Rattle.stop_table.specs.declared.Verdict.{Verdict}

-- the largest number of 64 bits
abbrev pub ALL : ℕ
ALL = 18446744073709551615

-- how many of the lent places are gone through
unfoldable pub lent_places : ℕ → ℕ → ℕ
lent_places len n = cond (leb n 256 && leb n len) n 0

-- before the first record
unfoldable pub started : Conn → ℕ → ℕ → Pass
started c len n =
    record { good = leb n 256 && (leb n len && good_conn c); low = 0; left = c.charged - c.closed; both = 0; one = 0; found = None }

-- the stream that is looked for is s at place i
abbrev pub marked : ℕ → Stream → Pass → Pass
marked i s a = record { good = a.good; low = a.low; left = a.left; both = a.both; one = a.one; found = Some (record { at = i; stream = s }) }

-- the first record of that id is kept
unfoldable pub noted : ℕ → ℕ → Stream → Pass → Pass
noted id i s a = cond (is_some a.found) a (cond (eqb s.id id) (marked i s a) a)

-- the running numbers after s, as `good_from` has them
unfoldable pub counted : Conn → Stream → Pass → Pass
counted c s a =
    record {
      good = a.good && (good_rec c s && (leb a.low s.id && leb s.end a.left));
      low = min (s.id + 1) ALL;
      left = a.left - s.end;
      both = min (a.both + theirs c 0 s.id) ALL;
      one = min (a.one + theirs c 1 s.id) ALL;
      found = a.found;
    }

abbrev pub pass_next : Conn → ℕ → ℕ → Stream → Pass → Pass
pass_next c id i s a = counted c s (noted id i s a)

-- the m records from place i on
abbrev pub pass_on : Conn → ℕ → List Stream → ℕ → ℕ → Pass → Pass
pass_on c id ss i zero a = a
pass_on c id ss i (suc m) a = pass_on c id ss (suc i) m (pass_next c id i (get_or ss i none) a)

-- ---- after the last record
unfoldable pub pass_ends : Conn → Pass → Bool
pass_ends c a = a.good && (eqb a.left 0 && (eqb a.both c.bi.ralloc && eqb a.one c.uni.ralloc))

unfoldable pub entry_of : Conn → ℕ → Pass → Result (Option Place) Refusal
entry_of c id a = cond (ltb id (2 ^ 62) && pass_ends c a) (let_in a.found (admitted c id)) (Err Range)

unfoldable pub booked_on : Conn → Step → Conn
booked_on c p =
    paid (record { side = c.side; bi = c.bi; uni = c.uni; charged = min (c.charged + p.charge) ALL; closed = min (c.closed + p.shut) ALL; grant = c.grant; window = c.window; debt = c.debt; swindow = c.swindow }) p.credit

unfoldable pub settled : Conn → ℕ → Step → Verdict
settled c i p = record { write = Some (record { at = i; stream = p.stream }); done = done_of p (booked_on c p) }

-- nothing is written where the event makes no step
abbrev pub settle_step : Conn → ℕ → Result (Option Step) Refusal → Result Verdict Refusal
settle_step c i (Ok (Some p)) = Ok (settled c i p)
settle_step c i (Ok None) = Ok (record { write = None; done = unchanged_done c })
settle_step c i (Err why) = Err why

abbrev pub by_entry_of : Conn → Result (Option Place) Refusal → Result Verdict Refusal
by_entry_of c (Ok (Some p)) = settle_step c p.at (halted p.stream)
by_entry_of c (Ok None) = Err Order
by_entry_of c (Err why) = Err why

unfoldable pub verdict_of : Conn → ℕ → Pass → Result Verdict Refusal
verdict_of c id a = by_entry_of c (entry_of c id a)

-- what stopping the stream id comes to
unfoldable pub judged : Conn → List Stream → ℕ → ℕ → Result Verdict Refusal
judged c ss n id = verdict_of c id (pass_on c id ss 0 (lent_places (length ss) n) (started c (length ss) n))

-- the records with what is written
abbrev pub written : List Stream → Option Place → List Stream
written ss None = ss
written ss (Some p) = set ss p.at p.stream
