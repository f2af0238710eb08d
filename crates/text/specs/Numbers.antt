-- A decimal number below 2^64: the digits that a word spells, the first the highest. Assumes nothing.
use Rattle.std.specs.Prelude.{ℕ, ◌+◌, ◌-◌, ◌*◌, List, [], ◌∷◌, Option, Some, None, cond, ltb}
use Rattle.text.specs.declared.Word.{Word}
use Rattle.text.specs.declared.Number.{Number}
use Rattle.text.specs.Words.{word_at, spelt}

-- the value of a digit
abbrev pub digit : ℕ → Option ℕ
digit b = cond (ltb b 48) None (cond (ltb 57 b) None (Some (b - 48)))

-- v and then the digits of s, unless one is no digit or the number is 2^64 or more
abbrev pub number_from : ℕ → List ℕ → Option ℕ
number_from v [] = Some v
number_from v (b ∷ s) =
    cond (ltb b 48) None
    (cond (ltb 57 b) None (cond (ltb (v * 10 + (b - 48)) 18446744073709551616) (number_from (v * 10 + (b - 48)) s) None))

-- a number has a digit at least
abbrev pub number_of : List ℕ → Option ℕ
number_of [] = None
number_of (b ∷ s) = number_from 0 (b ∷ s)

-- what the word w says, once it is read: a word that is no number is not passed over
abbrev pub number_in : Word → Option ℕ → Number
number_in w (Some v) = record { value = Some v; next = w.end }
number_in w None = record { value = None; next = w.start }

-- the number of the next word from a place on
unfoldable pub number_at : List ℕ → ℕ → Number
number_at s at = number_in (word_at s at) (number_of (spelt s (word_at s at)))
