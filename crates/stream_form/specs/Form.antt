-- What is kept, and what the bytes of a table come to.
-- Assumes nothing.
use Rattle.std.specs.Prelude.{ℕ, ◌+◌, ◌-◌, ◌%◌, min, true, cond, eqb, ◌≡◌, List, [], ◌∷◌, Result, Ok, Err}
use Rattle.stream_record.specs.declared.Stream.{Stream}
use Rattle.stream_table.specs.Table.{sound_b, records}
use Rattle.answers.specs.declared.Refusal.{Refusal}
use Rattle.stream_conn.specs.declared.Conn.{Conn}
use Rattle.stream_conn.specs.declared.Done.{Done}
use Rattle.stream_conn.specs.Books.{MOST}

-- a number of each record, added up
abbrev pub sum_of : (Stream → ℕ) → List Stream → ℕ
sum_of f [] = 0
sum_of f (s ∷ ss) = f s + sum_of f ss

-- bytes charged and bytes credited of the streams in the table
abbrev pub end_of : Stream → ℕ
end_of s = s.end

abbrev pub read_of : Stream → ℕ
read_of s = s.read

-- our own records, and what of their bytes nobody has credited
abbrev pub ours : ℕ → List Stream → List Stream
ours side [] = []
ours side (s ∷ ss) = cond (eqb (s.id % 2) side) (s ∷ ours side ss) (ours side ss)

abbrev pub unread : ℕ → List Stream → ℕ
unread side ss = sum_of end_of (ours side ss) - sum_of read_of (ours side ss)

-- bytes that a call charges and credits: none where it is refused
abbrev pub charge_of : Result Done Refusal → ℕ
charge_of (Ok d) = d.charge
charge_of (Err why) = 0

abbrev pub credit_of : Result Done Refusal → ℕ
credit_of (Ok d) = d.credit
credit_of (Err why) = 0

-- a call that took the connection c with the n records of l to d with the m records of k: good form again; `charge` bytes charged; `credit` bytes
-- credited to streams and `extra` bytes beside them, which pay the debt and then raise the grant; `lost` bytes that nobody will credit
pub record Booked (c : Conn) (l : List ℕ) (n charge credit extra lost : ℕ) (d : Conn) (k : List ℕ) (m : ℕ) : Type 0 where
  pub sound : sound_b d k m ≡ true
  pub charged : d.charged ≡ c.charged + charge
  pub grant : d.grant ≡ min (c.grant + (credit + extra - c.debt)) MOST
  pub debt : d.debt ≡ c.debt - (credit + extra)
  pub window : d.window ≡ c.window
  pub reads : d.closed + sum_of read_of (records m k) ≡ c.closed + sum_of read_of (records n l) + credit + lost
