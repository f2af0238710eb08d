-- Two byte strings agree (01, Token comparison). `agree` is the answer; `differs` is how it is found, with the count of turns, which the
-- lengths alone decide. That `agree` is equality is proofs/Theorems.antt.
-- Assumes nothing.
use Rattle.std.specs.Prelude.{ℕ, zero, suc, List, [], ◌∷◌, Bool, true, false, ◌&&◌, length, get_or, eqb}
use Rattle.std.specs.Int.Bits.{bit_or, bit_xor}
use Rattle.constant_time.specs.declared.Difference.{Difference}

-- As many bytes, and each the same.
unfoldable pub agree : List ℕ → List ℕ → Bool
agree [] [] = true
agree [] (y ∷ b) = false
agree (x ∷ a) [] = false
agree (x ∷ a) (y ∷ b) = eqb x y && agree a b

-- Every bit in which two of the first n bytes at one place differ.
unfoldable pub bits_of : List ℕ → List ℕ → ℕ → ℕ
bits_of a b zero = 0
bits_of a b (suc n) = bit_or (bits_of a b n) (bit_xor (get_or a n 0) (get_or b n 0))

-- One turn for each byte, whatever the bytes are.
unfoldable pub turns_of : List ℕ → ℕ
turns_of a = length a

abbrev pub differs : List ℕ → List ℕ → Difference
differs a b = record { bits = bits_of a b (length a); turns = turns_of a }
