-- Each event at its name, by computing the definition: no event is taken for another. Then what an event leaves alone, and two steps of an example.
-- Assumes nothing.
use mathlib.Core.Path.{◌≡◌, refl}
use mathlib.Core.List.{List, [], ◌∷◌}
use Prim.Native.Nat.{ℕ}
use borrow.Author.Tests.{ne_eqb}
use Rattle.answers.specs.Answers.{OK, FULL, ORDER}
use Rattle.codes.specs.Codes.{ST_DATA, ST_RESET, ST_STOP, ST_READ, ST_SEEN, ST_ANNOUNCE, ST_SENT, ST_OPEN, ST_WANT, ST_MAXSTREAMS, ST_CREDIT, ST_ZREJ, ST_WINDOW, ST_NEW}
use Rattle.said.specs.Said.{said_plain}
use Rattle.stream_conn.specs.declared.Conn.{Conn}
use Rattle.stream_conn.specs.Books.{new_done, credit_done, window_done, max_done, good_conn, good_counts, admitted}
use Rattle.streams.specs.Calls.{After, reset_after, stop_after, read_after, seen_after, announce_after, sent_after}
use Rattle.stream_places.specs.Places.{grant_after, wanted, want_after, open_after, reject_after}
use Rattle.stream_table.specs.Table.{sound_b, good_rec, good_numbers, records, theirs, inserted}
use Rattle.std.specs.Prelude.{Option, Some}
use Rattle.drive_st.specs.declared.Books.{Books}
use Rattle.st_new.specs.New.{startable, start_of}
use Rattle.st_call.specs.Call.{at, data_of, call_of}
use Rattle.drive_st.specs.Step.{Stepped, done, stayed, no_books, begun, granted_by, new_of, settled_of, one_of, opened_by, changed_by, flow_of, flowed_by, whole_of, step_of}

-- books
abbrev held : Conn → ℕ → Option Books
held c n = Some (record { conn = c; count = n })

-- an event on a stream whose call was x
abbrev on : ℕ → List ℕ → Conn → ℕ → After → Stepped
on code ns c n x = settled_of code c x.done x.words n (at ns 0)

module _ (ns l : List ℕ) (c : Conn) (n : ℕ) where
  pub at_data : step_of ST_DATA ns l (held c n) ≡ on ST_DATA ns c n (data_of ns c l n)
  unfolding step_of one_of call_of
  at_data = refl

  pub at_reset : step_of ST_RESET ns l (held c n) ≡ on ST_RESET ns c n (reset_after c l n (at ns 0) (at ns 1))
  unfolding step_of one_of call_of
  at_reset = refl

  pub at_stop : step_of ST_STOP ns l (held c n) ≡ on ST_STOP ns c n (stop_after c l n (at ns 0))
  unfolding step_of one_of call_of
  at_stop = refl

  pub at_read : step_of ST_READ ns l (held c n) ≡ on ST_READ ns c n (read_after c l n (at ns 0) (at ns 1))
  unfolding step_of one_of call_of
  at_read = refl

  pub at_seen : step_of ST_SEEN ns l (held c n) ≡ on ST_SEEN ns c n (seen_after c l n (at ns 0))
  unfolding step_of one_of call_of
  at_seen = refl

  pub at_announce : step_of ST_ANNOUNCE ns l (held c n) ≡ on ST_ANNOUNCE ns c n (announce_after c l n (at ns 0))
  unfolding step_of one_of call_of
  at_announce = refl

  pub at_sent : step_of ST_SENT ns l (held c n) ≡ on ST_SENT ns c n (sent_after c l n (at ns 0))
  unfolding step_of one_of call_of
  at_sent = refl

  pub at_open : step_of ST_OPEN ns l (held c n) ≡ opened_by c n (open_after c l n (at ns 0))
  unfolding step_of whole_of
  at_open = refl

  pub at_want : step_of ST_WANT ns l (held c n) ≡ changed_by c n (want_after c l n (at ns 0) (at ns 1))
  unfolding step_of whole_of
  at_want = refl

  pub at_maxstreams : step_of ST_MAXSTREAMS ns l (held c n) ≡ done (flowed_by ST_MAXSTREAMS c (max_done c (at ns 0) (at ns 1)) n) l
  unfolding step_of whole_of flow_of
  at_maxstreams = refl

  pub at_credit : step_of ST_CREDIT ns l (held c n) ≡ done (flowed_by ST_CREDIT c (credit_done c (at ns 0)) n) l
  unfolding step_of whole_of flow_of
  at_credit = refl

  pub at_zrej : step_of ST_ZREJ ns l (held c n) ≡ changed_by c n (reject_after c l n)
  unfolding step_of whole_of
  at_zrej = refl

  pub at_window : step_of ST_WINDOW ns l (held c n) ≡ done (flowed_by ST_WINDOW c (window_done c (at ns 0)) n) l
  unfolding step_of whole_of flow_of
  at_window = refl

pub at_new : (ns l : List ℕ) (k : Option Books) → step_of ST_NEW ns l k ≡ new_of ns l k
unfolding step_of
at_new ns l k = refl

-- until the first st.new each other event is ORDER, and leaves everything as it was
pub before_new : (code : ℕ) (ns l : List ℕ) → (code ≡ ST_NEW → ⊥) → step_of code ns l begun.kept ≡ done (stayed ORDER begun.kept) l
unfolding step_of
before_new code ns l e = rw (ne_eqb code ST_NEW e)

-- a server that wants one stream both ways and one one way, on a table of two places: the client's streams 0 and 2 are granted
abbrev room : List ℕ
room = 0 ∷ 0 ∷ 0 ∷ 0 ∷ 0 ∷ 0 ∷ 0 ∷ 0 ∷ 0 ∷ 0 ∷ 0 ∷ 0 ∷ 0 ∷ 0 ∷ []

abbrev first : Stepped
first = step_of ST_NEW (1 ∷ 1 ∷ 1 ∷ 1000 ∷ 500 ∷ []) room no_books

pub first_answer : first.out.said ≡ said_plain OK
unfolding step_of new_of startable new_done start_of granted_by want_after wanted grant_after sound_b good_conn good_counts good_rec good_numbers admitted theirs records inserted
first_answer = refl

pub first_words : first.words ≡ 0 ∷ 0 ∷ 0 ∷ 500 ∷ 1 ∷ 1 ∷ 0 ∷ 2 ∷ 0 ∷ 0 ∷ 500 ∷ 1 ∷ 0 ∷ 0 ∷ []
unfolding step_of new_of startable new_done start_of granted_by want_after wanted grant_after sound_b good_conn good_counts good_rec good_numbers admitted theirs records inserted
first_words = refl

-- 257 streams have no place: FULL, and no books
pub too_many : (l : List ℕ) → step_of ST_NEW (1 ∷ 200 ∷ 57 ∷ 1000 ∷ 500 ∷ []) l no_books ≡ done (stayed FULL no_books) l
unfolding step_of new_of startable new_done
too_many l = refl
