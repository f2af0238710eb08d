-- What a sequence of calls adds up to, and what must hold after it.
--
-- The totals are sums over the calls made: bytes charged and credited as the calls on streams handed them back; bytes credited beside the streams
-- (`credit`); bytes that 0-RTT rejection left uncredited; and by how much the window was widened and narrowed.
-- Assumes nothing.
use Rattle.std.specs.Prelude.{ℕ, suc, ◌+◌, ◌≤◌, min, true, ◌≡◌, List}
use Rattle.stream_conn.specs.declared.Conn.{Conn}
use Rattle.stream_conn.specs.Books.{MOST}
use Rattle.stream_table.specs.Table.{sound_b, records, rec_at, sum_ends}
use Rattle.stream_form.specs.Form.{sum_of, read_of}

pub record Totals : Type 0 where
  pub charged : ℕ
  pub credited : ℕ
  pub extra : ℕ
  pub lost : ℕ
  pub wide : ℕ
  pub narrow : ℕ

abbrev pub nothing : Totals
nothing = record { charged = 0; credited = 0; extra = 0; lost = 0; wide = 0; narrow = 0 }

abbrev pub plus : Totals → Totals → Totals
plus s t =
    record { charged = s.charged + t.charged; credited = s.credited + t.credited; extra = s.extra + t.extra; lost = s.lost + t.lost; wide = s.wide + t.wide; narrow = s.narrow + t.narrow }

-- after calls with these totals, from a start at which `given` bytes were granted: the connection c with the n records of l
pub record Books (given : ℕ) (t : Totals) (c : Conn) (l : List ℕ) (n : ℕ) : Type 0 where
  -- good form, all of it
  pub sound : sound_b c l n ≡ true
  -- the bytes charged are those that the calls handed back, and the ends of all streams: those in the table, and those closed or rejected
  pub charged : c.charged ≡ t.charged
  pub ends : c.closed + sum_ends (records n l) ≡ c.charged
  -- and never pass the limit granted
  pub flow : c.charged ≤ c.grant
  -- the grant is the window in force with all credit paid and the debt still open, up to the largest number that MAX_DATA can carry
  pub grant : c.grant ≡ min (c.window + (t.credited + t.extra) + c.debt) MOST
  -- the window in force is what was given at the start, widened and narrowed
  pub window : c.window + t.narrow ≡ given + t.wide
  pub debt : c.debt ≤ 18446744073709551615
  -- each byte is credited once or not at all: of each stream, and in sum
  pub reads : t.credited + t.lost ≡ c.closed + sum_of read_of (records n l)
  pub each : (i : ℕ) → suc i ≤ n → (rec_at l i).read ≤ (rec_at l i).end
  pub once : t.credited + t.lost ≤ t.charged
