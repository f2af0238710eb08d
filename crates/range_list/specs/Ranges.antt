-- The model of a range set (01, Range set): a list of half-open ranges, and how a flat list of numbers s0, e0, s1, e1, .. with a count holds it.
-- A list is sound where its ranges ascend, none is empty, a number is missing between neighbours, and ends are at most 2 ^ 62. That is the same as:
-- the flat list is strictly ascending and its last number is at most 2 ^ 62 (proofs/Ascending.antt), which is how it is checked.
-- Assumes nothing.
use Rattle.std.specs.Prelude.{ℕ, zero, suc, ◌+◌, ◌*◌, ◌/◌, ◌^◌, ◌≤◌, ◌<◌, Bool, true, ◌&&◌, ◌⊎◌, List, [], ◌∷◌, ◌++◌, length, get_or, take, drop, ltb, leb}

-- the numbers from lo up to, not including, hi
pub record Range : Type 0 where
  pub lo : ℕ
  pub hi : ℕ

-- range number i of the flat list l
abbrev pub range_at : List ℕ → ℕ → Range
range_at l i = record { lo = get_or l (i * 2) 0; hi = get_or l (i * 2 + 1) 0 }

-- the k ranges of l from number i on
abbrev pub read : List ℕ → ℕ → ℕ → List Range
read l i zero = []
read l i (suc k) = range_at l i ∷ read l (i + 1) k

-- the flat list of some ranges
abbrev pub flat : List Range → List ℕ
flat [] = []
flat (r ∷ rs) = r.lo ∷ r.hi ∷ flat rs

-- new, and after it what old has there: what lies past the new list is as it was, also where the list became shorter
abbrev pub over : List ℕ → List ℕ → List ℕ
over new old = new ++ drop (length new) old

-- every start is at least least and below its end, which is at most 2 ^ 62, and the next start is above that end
abbrev pub sound : ℕ → List Range → Bool
sound least [] = true
sound least (r ∷ rs) = leb least r.lo && (ltb r.lo r.hi && (leb r.hi (2 ^ 62) && sound (r.hi + 1) rs))

-- l holds n ranges, and they are sound
abbrev pub well_formed : List ℕ → ℕ → Bool
well_formed l n = leb n (length l / 2) && sound 0 (read l 0 n)

-- x is one of the numbers of rs
abbrev pub In : ℕ → List Range → Type 0
In x [] = ⊥
In x (r ∷ rs) = ((r.lo ≤ x) × (x < r.hi)) ⊎ In x rs

-- rs with mid in the place of the ranges lo..hi
abbrev pub splice : List Range → ℕ → ℕ → List Range → List Range
splice rs lo hi mid = take lo rs ++ mid ++ drop hi rs
