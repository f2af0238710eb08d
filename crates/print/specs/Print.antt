-- What is printed: the bytes of a number, of a range of numbers and of a byte string, and where they go. Assumes nothing.
use Rattle.std.specs.Prelude.{ℕ, zero, suc, ◌+◌, ◌/◌, ◌%◌, List, [], ◌∷◌, ◌++◌, cond, length, ltb, leb, Result, Ok, Err}
use Rattle.std.proofs.lemmas.List.Edits.{sets}
use Rattle.answers.specs.declared.Refusal.{Refusal}
use Rattle.answers.specs.declared.Refusal.TheVariants.{Room}

-- the ASCII code of a digit below 16: `0` to `9`, then `a` to `f`
abbrev pub glyph : ℕ → ℕ
glyph d = cond (ltb d 10) (48 + d) (87 + d)

-- the decimal digits of n, of which there are at most k, and then what follows them
unfoldable pub decimal_onto : ℕ → ℕ → List ℕ → List ℕ
decimal_onto zero n rest = rest
decimal_onto (suc k) n rest = cond (ltb 9 n) (decimal_onto k (n / 10) (glyph (n % 10) ∷ rest)) (glyph n ∷ rest)

-- a number below 2^64 has at most 20 digits
unfoldable pub decimal : ℕ → List ℕ
decimal n = decimal_onto 20 n []

-- two digits a byte, the higher first
unfoldable pub hexed : List ℕ → List ℕ
hexed [] = []
hexed (b ∷ s) = glyph (b / 16) ∷ glyph (b % 16) ∷ hexed s

-- a..b
unfoldable pub range : ℕ → ℕ → List ℕ
range a b = decimal a ++ (46 ∷ 46 ∷ decimal b)

-- where the next text goes, or why there is none; and what is left in the lent buffer
pub record Done : Type 0 where
  pub out : Result ℕ Refusal
  pub mem : List ℕ

abbrev pub done : Result ℕ Refusal → List ℕ → Done
done r m = record { out = r; mem = m }

-- the bytes s go to `at` and behind it, where they have room; else all is as it was
unfoldable pub put_at : List ℕ → ℕ → List ℕ → Done
put_at out at s =
    cond (leb (at + length s) (length out))
    (done (Ok (at + length s)) (sets out at s))
    (done (Err Room) out)
