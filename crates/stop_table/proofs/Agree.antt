-- The two forms agree: on tables that hold the same records, `stop` on words and `stop` on a slice of records give the same answer and connection, and leave the same records. Case by case both are made of the same definitions.
-- Assumes nothing.
use mathlib.Core.Path.{◌≡◌, refl, ap, sym, ◌∙◌}
use mathlib.Core.Bool.{false, cond}
use mathlib.Core.List.{List}
use Prim.Native.Nat.{ℕ, zero, suc, ◌*◌, ◌≤◌, ◌<◌}
use lib.Dec.{eqb}
use lib.ListN.{length, take, set}
use lib.Seq.{take-set-lt}
use borrow.Author.Tests.{le-leb}
use Rattle.stream_record.specs.declared.Stream.{Stream}
use Rattle.stream_record.specs.declared.Step.{Step}
use Rattle.stream_record.specs.Record.{halted}
use Rattle.stream_conn.specs.declared.Conn.{Conn}
use Rattle.std.specs.Prelude.{Option, Some, None, Result, Ok, Err}
use Rattle.answers.specs.declared.Refusal.{Refusal}
use Rattle.answers.specs.declared.Refusal.TheVariants.{Order}
use Rattle.stream_table.specs.declared.Place.{Place}
use Rattle.stream_table.specs.Table.{rec_at, recs_from, records, sound_b, find_from, find_in, placed, entered}
use Rattle.stream_table.proofs.Tables.{by_cond, records_store, found_below}
use Rattle.stream_table.proofs.Entries.{entry_told}
use Rattle.streams.specs.Calls.{After, committed, stepped, by_entry, on_stream, stop_after}
use Rattle.stop_table.specs.Slice.{OnSlice, sound_on, seek_from, entered_on, committed_on, stepped_on, by_entry_on, stop_on}

-- the place that `find` finds, with its record
placed_from : (l : List ℕ) (k m id : ℕ) → placed l (find_from k (recs_from k m l) id) ≡ seek_from k (recs_from k m l) id
placed_from l k zero id = refl
placed_from l k (suc m) id =
    by_cond (λ (f : Option ℕ). placed l f ≡ cond (eqb (rec_at l k).id id) (Some (record { at = k; stream = rec_at l k })) (seek_from (suc k) (recs_from (suc k) m l) id)) (eqb (rec_at l k).id id) _ _
    (λ e. rw (e)) (λ e. rw (e) (placed_from l (suc k) m id))

placed_seek : (l : List ℕ) (n id : ℕ) → placed l (find_in (records n l) id) ≡ seek_from 0 (records n l) id
unfolding find_in records
placed_seek l n id = placed_from l 0 n id

-- what is the same afterwards
pub record Agrees (n : ℕ) (x : After) (y : OnSlice) : Type 0 where
  pub done : x.done ≡ y.done
  pub table : records n x.words ≡ take n y.table

module _ (c : Conn) (l : List ℕ) (ss : List Stream) (n id : ℕ) (lent : 7 * n ≤ length l) (held : n ≤ length ss) (same : records n l ≡ take n ss) where
  sound_same : sound_b c l n ≡ sound_on c ss n
  unfolding sound_b sound_on
  sound_same = rw (le-leb (7 * n) (length l) lent, le-leb n (length ss) held, same)

  entered_same : entered c l n id ≡ entered_on c ss n id
  unfolding entered entered_on
  entered_same = rw (placed_seek l n id, sound_same, same)

  committed_same : (i : ℕ) (p : Step) → i < n → Agrees n (committed c l i id false p) (committed_on c ss i id p)
  unfolding committed committed_on
  committed_same i p h =
      record { done = refl; table = records_store n l i p.stream lent h ∙ ap (λ (rs : List Stream). set rs i p.stream) same ∙ sym (take-set-lt n ss i p.stream h) }

  stepped_same : (i : ℕ) (r : Result (Option Step) Refusal) → i < n → Agrees n (stepped c l i id false r) (stepped_on c ss i id r)
  stepped_same i (Ok (Some p)) h = committed_same i p h
  stepped_same i (Ok None) h = record { done = refl; table = same }
  stepped_same i (Err why) h = record { done = refl; table = same }

  by_entry_law : (x : Result (Option Place) Refusal) → entered c l n id ≡ x → Agrees n (by_entry c l id false (Err Order) halted x) (by_entry_on c ss id x)
  by_entry_law (Ok (Some p)) e = stepped_same p.at (halted p.stream) (found_below n l id p.at (entry_told c l n id p e).found)
  by_entry_law (Ok None) e = record { done = refl; table = same }
  by_entry_law (Err why) e = record { done = refl; table = same }

  pub stops_agree : Agrees n (stop_after c l n id) (stop_on c ss n id)
  unfolding stop_after on_stream stop_on
  stops_agree = rw (← entered_same) (by_entry_law (entered c l n id) refl)
