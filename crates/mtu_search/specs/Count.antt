-- Counting the sizes of probes: how often each was sent, and how many different ones.
-- Assumes nothing.
use Rattle.std.specs.Prelude.{ℕ, ◌+◌, Bool, true, false, List, [], ◌∷◌, eqb}

abbrev pub one : Bool → ℕ
one true = 1
one false = 0

-- how often x stands in a list
unfoldable pub times : ℕ → List ℕ → ℕ
times x [] = 0
times x (y ∷ l) = one (eqb x y) + times x l

-- how many different sizes a list has
unfoldable pub sizes : List ℕ → ℕ
sizes [] = 0
sizes (x ∷ l) = one (eqb (times x l) 0) + sizes l
