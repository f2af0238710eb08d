-- `contains` tests membership: by recursion on the list.
-- Assumes nothing.
use mathlib.Core.Path.{◌≡◌, refl, sym, ◌∙◌}
use mathlib.Core.Bool.{true, false, ◌&&◌}
use mathlib.Core.Logic.{inl, inr, ⊎_elim}
use mathlib.Core.List.{List, [], ◌∷◌}
use Prim.Native.Nat.{ℕ, ◌≤◌, ◌<◌}
use native.Mathlib.Omega.{arith}
use lib.Dec.{ltb, leb}
use borrow.Author.Tests.{ltb-true, leb-true, le-leb, lt-ltb}
use Rattle.range_list.specs.Ranges.{Range, In}
use Rattle.range_list.proofs.Sound.{by_bool, both}
use Rattle.range_set.specs.Set.{member}

pub member_to : (x : ℕ) (rs : List Range) → member x rs ≡ true → In x rs
member_to x [] q = let z : ◌≡◌ {A = ℕ} 0 1 = cc in let y : ⊥ = omega arith in absurd y
member_to x (r ∷ rs) q =
    by_bool (leb r.lo x && ltb x r.hi)
    (λ t. let p = both (leb r.lo x) (ltb x r.hi) t in inl (leb-true r.lo x p.0, ltb-true x r.hi p.1))
    (λ t. inr (member_to x rs (rw t at q)))

pub member_from : (x : ℕ) (rs : List Range) → In x rs → member x rs ≡ true
member_from x [] h = absurd h
member_from x (r ∷ rs) h =
    by_bool (leb r.lo x && ltb x r.hi)
    (λ t. rw t refl)
    (λ t. rw t (⊎_elim (λ k. absurd (apart k t)) (λ k. member_from x rs k) h))
  where
    apart : (r.lo ≤ x) × (x < r.hi) → (leb r.lo x && ltb x r.hi) ≡ false → ⊥
    apart k t =
        let v : true ≡ false = sym (simp (le-leb r.lo x k.0, lt-ltb x r.hi k.1)) ∙ t in
        let z : ◌≡◌ {A = ℕ} 0 1 = cc in omega arith
