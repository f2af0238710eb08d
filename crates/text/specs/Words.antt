-- The words of a line: what stands between blanks. A byte up to 32, the space, is a blank, and what follows the sign # is a note.
-- Assumes nothing.
use Rattle.std.specs.Prelude.{ℕ, suc, ◌+◌, ◌-◌, ◌≤◌, List, [], ◌∷◌, Bool, true, false, cond, not, ◌&&◌, length, take, drop, ltb, leb, eqb}
use Rattle.text.specs.declared.Word.{Word}

-- how many elements at the front of a list have a property
abbrev pub front : (ℕ → Bool) → List ℕ → ℕ
front p [] = 0
front p (b ∷ s) = cond (p b) (suc (front p s)) 0

abbrev pub blank : ℕ → Bool
blank b = leb b 32

abbrev pub solid : ℕ → Bool
solid b = ltb 32 b

-- past the blanks from a place on, and past the word from a place on
unfoldable pub skipped : List ℕ → ℕ → ℕ
skipped s at = at + front blank (drop at s)

unfoldable pub ended : List ℕ → ℕ → ℕ
ended s at = at + front solid (drop at s)

unfoldable pub word_at : List ℕ → ℕ → Word
word_at s at =
    cond (ltb (length s) at) (record { start = length s; end = length s })
    (record { start = skipped s at; end = ended s (skipped s at) })

-- the bytes of a word
abbrev pub spelt : List ℕ → Word → List ℕ
spelt s w = take (w.end - w.start) (drop w.start s)

pub record WordIn (s : List ℕ) (w : Word) : Type 0 where
  pub order : w.start ≤ w.end
  pub within : w.end ≤ length s

-- whether nothing but blanks is left from a place on
unfoldable pub is_end : List ℕ → ℕ → Bool
is_end s at = eqb (word_at s at).start (word_at s at).end

-- any byte but #
abbrev pub plain : ℕ → Bool
plain b = not (eqb b 35)

-- a line up to its note
unfoldable pub unnoted : List ℕ → List ℕ
unnoted s = take (front plain s) s

-- whether two strings of bytes are the same
unfoldable pub same : List ℕ → List ℕ → Bool
same [] [] = true
same [] (b ∷ t) = false
same (a ∷ s) [] = false
same (a ∷ s) (b ∷ t) = eqb a b && same s t
