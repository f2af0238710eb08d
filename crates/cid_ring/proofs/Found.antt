-- What the search for the least number finds: a number within its bounds, of which h says yes unless it is the end, and no of all before it; by
-- induction on how many are left.
-- Assumes nothing.
use mathlib.Core.Path.{◌≡◌, ap, ◌∙◌}
use mathlib.Core.Bool.{Bool, true, false}
use mathlib.Core.Logic.{⊎_elim}
use Prim.Native.Nat.{ℕ, zero, suc, ◌+◌, ◌≤◌, ◌<◌}
use native.Mathlib.Omega.{arith}
use Rattle.cid_ring.specs.Cids.{first}
use Rattle.cid_ring.proofs.Places.{by, same}

first_hit : (h : ℕ → Bool) (n k : ℕ) → h n ≡ true → first h n (suc k) ≡ n
unfolding first
first_hit h n k e = rw e

first_miss : (h : ℕ → Bool) (n k : ℕ) → h n ≡ false → first h n (suc k) ≡ first h (suc n) k
unfolding first
first_miss h n k e = rw e

pub first_from : (h : ℕ → Bool) (n k : ℕ) → n ≤ first h n k
unfolding first
first_from h n zero = omega arith
first_from h n (suc k) =
    by (h n) (λ e. rw (first_hit h n k e) (omega arith)) (λ e. rw (first_miss h n k e) (omega (arith, first_from h (suc n) k)))

pub first_within : (h : ℕ → Bool) (n k : ℕ) → first h n k ≤ n + k
unfolding first
first_within h n zero = omega arith
first_within h n (suc k) =
    by (h n) (λ e. rw (first_hit h n k e) (omega arith)) (λ e. rw (first_miss h n k e) (omega (arith, first_within h (suc n) k)))

pub first_yes : (h : ℕ → Bool) (n k : ℕ) → first h n k < n + k → h (first h n k) ≡ true
unfolding first
first_yes h n zero l = let z : ⊥ = omega arith in absurd z
first_yes h n (suc k) l =
    by (h n) (λ e. ap h (first_hit h n k e) ∙ e)
    (λ e. ap h (first_miss h n k e) ∙ first_yes h (suc n) k (omega (arith, rw (first_miss h n k e) at l)))

pub first_no : (h : ℕ → Bool) (n k m : ℕ) → n ≤ m → m < first h n k → h m ≡ false
unfolding first
first_no h n zero m l u = let z : ⊥ = omega arith in absurd z
first_no h n (suc k) m l u =
    by (h n) (λ e. let g : m < n = rw (first_hit h n k e) at u in let z : ⊥ = omega arith in absurd z)
    (λ e. ⊎_elim (λ d. ap h d ∙ e) (λ d. first_no h (suc n) k m (omega (arith, d)) (rw (first_miss h n k e) at u)) (same m n))
