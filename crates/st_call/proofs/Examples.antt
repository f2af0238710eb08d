-- What each event on a stream shows, by computing the definition. That no event is taken for another's call is in drive_st/proofs/Examples.antt.
-- Assumes nothing.
use mathlib.Core.Path.{◌≡◌, refl}
use Prim.Native.Nat.{ℕ}
use Rattle.std.specs.Prelude.{Ok, Err}
use Rattle.answers.specs.Answers.{OK, number}
use Rattle.answers.specs.declared.Refusal.{Refusal}
use Rattle.codes.specs.Codes.{ST_DATA, ST_STOP, ST_READ, ST_SENT}
use Rattle.said.specs.Said.{said_plain, said_number, said_two, said_three}
use Rattle.stream_conn.specs.declared.Done.{Done}
use Rattle.st_call.specs.Call.{shown_of, values_of}

module _ (d : Done) where
  pub shows_data : values_of ST_DATA (Ok d) ≡ said_two OK d.charge d.credit
  unfolding values_of shown_of
  shows_data = refl

  pub shows_stop : values_of ST_STOP (Ok d) ≡ said_three OK d.charge d.credit d.value
  unfolding values_of shown_of
  shows_stop = refl

  pub shows_read : values_of ST_READ (Ok d) ≡ said_number OK d.credit
  unfolding values_of shown_of
  shows_read = refl

  pub shows_sent : values_of ST_SENT (Ok d) ≡ said_plain OK
  unfolding values_of shown_of
  shows_sent = refl

-- a refused event shows its number and zeros
module _ (why : Refusal) where
  pub refused_data : values_of ST_DATA (Err why) ≡ said_two (number why) 0 0
  unfolding values_of shown_of
  refused_data = refl

  pub refused_stop : values_of ST_STOP (Err why) ≡ said_three (number why) 0 0 0
  unfolding values_of shown_of
  refused_stop = refl

  pub refused_read : values_of ST_READ (Err why) ≡ said_number (number why) 0
  unfolding values_of shown_of
  refused_read = refl

  pub refused_sent : values_of ST_SENT (Err why) ≡ said_plain (number why)
  unfolding values_of shown_of
  refused_sent = refl

-- of any numbers, those that no call gives too
module _ (answer value charge credit : ℕ) where
  pub any_data : shown_of ST_DATA answer value charge credit ≡ said_two answer charge credit
  unfolding shown_of
  any_data = refl

  pub any_stop : shown_of ST_STOP answer value charge credit ≡ said_three answer charge credit value
  unfolding shown_of
  any_stop = refl

  pub any_read : shown_of ST_READ answer value charge credit ≡ said_number answer credit
  unfolding shown_of
  any_read = refl

  pub any_sent : shown_of ST_SENT answer value charge credit ≡ said_plain answer
  unfolding shown_of
  any_sent = refl
