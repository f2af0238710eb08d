-- What can be said of buffered output: where the text has room it stands in the buffer, and nothing was written out; where it has none, what was
-- gathered is written out first. Of what was written no contract can speak. Assumes nothing.
use Rattle.std.specs.Prelude.{ℕ, ◌≤◌, ◌<◌, ◌≡◌, List, ◌⊎◌, Ok}
use Rattle.std.specs.Result.{IsOk, IsErr}
use Rattle.print.specs.Print.{put_at}

-- the place of a writer whose last write failed
abbrev pub FAILED : ℕ
FAILED = 18446744073709551615

-- after a write the next text goes to the start, or the write failed
abbrev pub Written : ℕ → Type 0
Written at = (at ≡ 0) ⊎ (at ≡ FAILED)

-- what is gathered was written out, and the buffer is as it was; a place that lies past the buffer is left alone
pub record Flushed (buf : List ℕ) (at : ℕ) (buf' : List ℕ) (at' : ℕ) : Type 0 where
  pub bytes : buf' ≡ buf
  pub place : at ≤ 65536 → Written at'
  pub past : 65536 < at → at' ≡ at

-- a text that had no room: the write failed; or the text stands at the start; or it is longer than the buffer and was written out itself
pub data Later (buf : List ℕ) (s : List ℕ) (buf' : List ℕ) (at' : ℕ) : Type 0 where
  failed : at' ≡ FAILED → buf' ≡ buf → Later buf s buf' at'
  start : (put_at buf 0 s).out ≡ Ok at' → buf' ≡ (put_at buf 0 s).mem → Later buf s buf' at'
  long : IsErr (put_at buf 0 s).out → Written at' → buf' ≡ buf → Later buf s buf' at'

-- a text that has room stands in the buffer
pub record Room (buf : List ℕ) (at : ℕ) (s : List ℕ) (buf' : List ℕ) (at' : ℕ) : Type 0 where
  pub place : IsOk (put_at buf at s).out → (put_at buf at s).out ≡ Ok at'
  pub bytes : IsOk (put_at buf at s).out → buf' ≡ (put_at buf at s).mem

pub record Went (buf : List ℕ) (at : ℕ) (s : List ℕ) (buf' : List ℕ) (at' : ℕ) : Type 0 where
  pub room : Room buf at s buf' at'
  pub later : IsErr (put_at buf at s).out → at ≤ 65536 → Later buf s buf' at'
