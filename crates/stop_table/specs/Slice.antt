-- `stop` on a table that is a list of records: the cases are those of the table in words (streams, `stop_after`), said of the records themselves.
--
-- The first n records are the table; what stands in the places after them is never looked at and stays as it was. `good_from`, `admitted`, `halted`,
-- `done_of` and `taken` are the same definitions that the table in words uses.
-- Assumes nothing.
use Rattle.std.specs.Prelude.{ℕ, suc, ◌-◌, ◌^◌, Bool, false, cond, ◌&&◌, List, [], ◌∷◌, eqb, ltb, leb, length, set, take, Option, Some, None, Result, Ok, Err}
use Rattle.answers.specs.declared.Refusal.{Refusal}
use Rattle.answers.specs.declared.Refusal.TheVariants.{Range, Order}
use Rattle.stream_record.specs.declared.Stream.{Stream}
use Rattle.stream_record.specs.declared.Step.{Step}
use Rattle.stream_record.specs.Record.{halted}
use Rattle.stream_conn.specs.declared.Conn.{Conn}
use Rattle.stream_conn.specs.declared.Done.{Done}
use Rattle.stream_conn.specs.Books.{admitted, good_conn, unchanged_done}
use Rattle.stream_table.specs.declared.Place.{Place}
use Rattle.stream_table.specs.Table.{good_from, let_in}
use Rattle.streams.specs.Calls.{done_of, taken}

-- what a call hands back, and the lent records afterwards
pub record OnSlice : Type 0 where
  pub done : Result Done Refusal
  pub table : List Stream

abbrev pub on_slice : Result Done Refusal → List Stream → OnSlice
on_slice d ss = record { done = d; table = ss }

abbrev pub refused_on : List Stream → Refusal → OnSlice
refused_on ss why = on_slice (Err why) ss

-- everything that a call checks of what it is given, as `sound_b`
unfoldable pub sound_on : Conn → List Stream → ℕ → Bool
sound_on c ss n = leb n 256 && (leb n (length ss) && (good_conn c && good_from c (take n ss) 0 (c.charged - c.closed) 0 0))

-- the first record with that id, and its place, counted from k
abbrev pub seek_from : ℕ → List Stream → ℕ → Option Place
seek_from k [] id = None
seek_from k (s ∷ ss) id = cond (eqb s.id id) (Some (record { at = k; stream = s })) (seek_from (suc k) ss id)

-- what every call on a stream begins with, as `entered`
unfoldable pub entered_on : Conn → List Stream → ℕ → ℕ → Result (Option Place) Refusal
entered_on c ss n id =
    cond (ltb id (2 ^ 62) && sound_on c ss n) (let_in (seek_from 0 (take n ss) id) (admitted c id)) (Err Range)

-- a step at place i goes into the table and the books, as `committed` of an event that is not the peer's
unfoldable pub committed_on : Conn → List Stream → ℕ → ℕ → Step → OnSlice
committed_on c ss i id p = on_slice (Ok (done_of p (taken c id false p))) (set ss i p.stream)

-- what a stream's event comes to, as `stepped`
abbrev pub stepped_on : Conn → List Stream → ℕ → ℕ → Result (Option Step) Refusal → OnSlice
stepped_on c ss i id (Ok (Some p)) = committed_on c ss i id p
stepped_on c ss i id (Ok None) = on_slice (Ok (unchanged_done c)) ss
stepped_on c ss i id (Err why) = refused_on ss why

abbrev pub by_entry_on : Conn → List Stream → ℕ → Result (Option Place) Refusal → OnSlice
by_entry_on c ss id (Ok (Some p)) = stepped_on c ss p.at id (halted p.stream)
by_entry_on c ss id (Ok None) = refused_on ss Order
by_entry_on c ss id (Err why) = refused_on ss why

-- we stop the stream id
unfoldable pub stop_on : Conn → List Stream → ℕ → ℕ → OnSlice
stop_on c ss n id = by_entry_on c ss id (entered_on c ss n id)
