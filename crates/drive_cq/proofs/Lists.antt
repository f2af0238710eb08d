-- A list copied over zeros: the ids and tokens that are cut. Assumes nothing.
use mathlib.Core.Path.{◌≡◌, ◌∙◌}
use mathlib.Core.List.{List}
use Prim.Native.Nat.{ℕ, zero, suc, ◌-◌}
use native.Mathlib.Omega.{arith}
use lib.ListN.{length, drop, replicate, length-replicate}
use Rattle.drive_cq.specs.Step.{over, filled}

-- ---- over zeros
drop_zeros : (n k : ℕ) → drop {A = ℕ} k (replicate n 0) ≡ replicate (n - k) 0
drop_zeros n zero = let e : n - 0 ≡ n = omega arith in rw e
drop_zeros zero (suc k) = let e : 0 - suc k ≡ 0 = omega arith in rw e
drop_zeros (suc n) (suc k) = let e : suc n - suc k ≡ n - k = omega arith in rw e (drop_zeros n k)

pub over_zeros : (n : ℕ) (s : List ℕ) → over s (replicate n 0) ≡ filled n s
unfolding over filled
over_zeros n s = rw (length-replicate {A = ℕ} n 0, drop_zeros n (length s))

-- what is cut: a part p of the bytes, copied over n zeros
pub cut_is : (n : ℕ) {p z l : List ℕ} → z ≡ p → l ≡ over z (replicate n 0) → l ≡ filled n p
cut_is n {p} {z} e f = rw (← e) (f ∙ over_zeros n z)

pub ruleset cuts = (cut_is)
