-- A.3's result is the nearest number: its candidate shares a block of one window with what is expected, and each test moves it by one window.
-- One law over the width serves all four lengths. Assumes nothing.
use Prim.Native.Nat.{ℕ, ◌+◌, ◌-◌, ◌*◌, ◌/◌, ◌%◌, ◌<◌, ◌≤◌}
use mathlib.Core.Path.{◌≡◌, refl, sym, ◌∙◌}
use mathlib.Core.Bool.{Bool, true, false}
use mathlib.Core.Logic.{◌⊎◌, inl, inr, ⊎_elim}
use native.Mathlib.Omega.{arith}
use native.Mathlib.Nat.{mod-lt, mod-eq_of_lt, div-add-mod', mul-le-mul_right, add-mul-mod_self_right, add-mod_right, mod-eq-sub-mod}
use lib.Dec.{ltb, leb}
use borrow.Author.Tests.{leb-true, leb-false, ltb-true, ltb-false, le-leb, lt-ltb}
use Rattle.answers.proofs.Tests.{split}
use Rattle.packet_number.specs.PacketNumber.{limit, candidate, too_low, too_high, moved, choice, InWindow, apart, Nearer, Nearest}
use Rattle.packet_number.proofs.Laws.{both}

-- two multiples of w are the same, or w apart or more
blocks : (w p q : ℕ) → (p * w ≡ q * w) ⊎ ((p * w + w ≤ q * w) ⊎ (q * w + w ≤ p * w))
blocks w p q =
    ⊎_elim
    (λ l. inr (inl (step p q l)))
    (λ g. ⊎_elim (λ l. inr (inr (step q p l))) (λ h. let e : p ≡ q = omega arith in inl (rw e)) (split q p))
    (split p q)
  where
    step : (a b : ℕ) → a < b → a * w + w ≤ b * w
    step a b l = omega (arith, mul-le-mul_right w l)

-- A.3's three ends, of any candidate c
module _ (expected win c : ℕ) (P : ℕ → Type 0)
    (up : c + win / 2 ≤ expected → c + win < limit → P (c + win))
    (down : expected + win / 2 < c → win ≤ c → P (c - win))
    (stay : (c + win / 2 ≤ expected → limit ≤ c + win) → (expected + win / 2 < c → c < win) → P c) where
  high_test : too_low expected win c ≡ false → (b : Bool) → too_high expected win c ≡ b → P (moved expected win c)
  unfolding moved
  high_test g true h =
      let x = both (ltb (expected + win / 2) c) (leb win c) h in
      rw (g, h) (down (ltb-true _ _ x.0) (leb-true _ _ x.1))
  high_test g false h =
      rw (g, h)
      (stay
      (λ x. ltb-false (c + win) limit (rw (le-leb (c + win / 2) expected x) at g))
      (λ x. leb-false win c (rw (lt-ltb (expected + win / 2) c x) at h)))

  low_test : (b : Bool) → too_low expected win c ≡ b → P (moved expected win c)
  unfolding moved
  low_test true g =
      let x = both (leb (c + win / 2) expected) (ltb (c + win) limit) g in
      rw g (up (leb-true _ _ x.0) (ltb-true _ _ x.1))
  low_test false g = high_test g (too_high expected win c) refl

  pub by_test : P (moved expected win c)
  by_test = low_test (too_low expected win c) refl

-- a candidate that lies less than a window from what is expected ends in A.3's window
module _ (expected win c : ℕ) (even : win / 2 + win / 2 ≡ win) (above : expected < c + win) (below : c < expected + win) where
  moved_window : InWindow expected win (moved expected win c)
  moved_window =
      by_test expected win c (InWindow expected win)
      (λ a b. record { not_low = λ _. omega arith; not_high = λ _. omega arith })
      (λ a b. record { not_low = λ _. omega arith; not_high = λ _. omega arith })
      (λ top bottom. record {
        not_low = λ x. ⊎_elim (λ y. y) (λ y. let t = top y in let z : ⊥ = omega arith in absurd z) (split expected (c + win / 2));
        not_high = λ x. ⊎_elim (λ y. let b = bottom y in let z : ⊥ = omega arith in absurd z) (λ y. y) (split (expected + win / 2) c);
      })

-- the candidate lies less than a window from what is expected, and has the truncated bits
module _ (expected win truncated : ℕ) (fits : truncated < win) where
  candidate_is : candidate expected win truncated ≡ truncated + expected / win * win
  candidate_is = omega (arith, div-add-mod' expected win)

  candidate_bits : candidate expected win truncated % win ≡ truncated
  candidate_bits = rw candidate_is (add-mul-mod_self_right truncated (expected / win) win ∙ mod-eq_of_lt fits)

  candidate_near : (expected < candidate expected win truncated + win) × (candidate expected win truncated < expected + win)
  candidate_near =
      let r : expected % win < win = mod-lt expected (omega arith) in
      rw candidate_is (omega (arith, div-add-mod' expected win), omega (arith, div-add-mod' expected win))

  -- A.3's result has the truncated bits
  pub choice_bits : choice expected win truncated % win ≡ truncated
  unfolding choice
  choice_bits =
      by_test expected win (candidate expected win truncated) (λ v. v % win ≡ truncated)
      (λ a b. add-mod_right _ win ∙ candidate_bits)
      (λ a b. sym (mod-eq-sub-mod b) ∙ candidate_bits)
      (λ a b. candidate_bits)

  -- and lies in A.3's window
  pub choice_window : win / 2 + win / 2 ≡ win → InWindow expected win (choice expected win truncated)
  unfolding choice
  choice_window even = moved_window expected win _ even candidate_near.0 candidate_near.1

-- where a number m stands to another v of the same low bits: it is it, or a window below or more, or a window above or more
placed : (win v m : ℕ) → m % win ≡ v % win → (m ≡ v) ⊎ ((m + win ≤ v) ⊎ (v + win ≤ m))
placed win v m e =
    let p = div-add-mod' m win in
    let q = div-add-mod' v win in
    ⊎_elim (λ x. inl (omega arith)) (⊎_elim (λ x. inr (inl (omega arith))) (λ x. inr (inr (omega arith)))) (blocks win (m / win) (v / win))

module _ (expected win v m : ℕ) (even : win / 2 + win / 2 ≡ win) (at : InWindow expected win v) (l : m < limit) (e : m % win ≡ v % win) where
  nearer : (apart m expected ≤ apart v expected → (apart v expected ≤ apart m expected) × (m ≤ v)) → Nearer expected v m
  nearer f = ⊎_elim inl (λ g. let x = f g in inr (omega arith, x.1)) (split (apart v expected) (apart m expected))

  -- what lies in the window is nearest
  window_nearer : Nearer expected v m
  window_nearer =
      ⊎_elim
      (λ x. nearer (λ y. (omega arith, omega arith)))
      (⊎_elim
      (λ x. let h = at.not_high (omega arith) in nearer (λ y. (omega arith, omega arith)))
      (λ x. let h = at.not_low (omega arith) in nearer (λ y. (omega arith, omega arith))))
      (placed win v m e)

  -- and is the only one with its low bits within half a window
  pub window_only : expected < m + win / 2 → m ≤ expected + win / 2 → v ≡ m
  window_only a b =
      ⊎_elim
      (λ x. sym x)
      (⊎_elim
      (λ x. let h = at.not_high (omega arith) in let z : ⊥ = omega arith in absurd z)
      (λ x. let h = at.not_low (omega arith) in let z : ⊥ = omega arith in absurd z))
      (placed win v m e)

-- A.3 takes the nearest packet number with the truncated bits, of two equally near the higher, whenever its result is a packet number.
pub choice_nearest : (expected win truncated : ℕ) → win / 2 + win / 2 ≡ win → truncated < win
    → choice expected win truncated < limit → Nearest expected win truncated (choice expected win truncated)
choice_nearest expected win truncated even fits l = record {
  number = l;
  low_bits = choice_bits expected win truncated fits;
  nearest = λ m k e.
      window_nearer expected win (choice expected win truncated) m even
      (choice_window expected win truncated fits even) k (e ∙ sym (choice_bits expected win truncated fits));
}

-- Where 2 ^ 62 is a multiple of the window, the result is past the last packet number only if what is expected is.
module _ (expected win truncated : ℕ) (even : win / 2 + win / 2 ≡ win) (fits : truncated < win) (ends : limit / win * win ≡ limit) where
  pub choice_within : expected < limit → choice expected win truncated < limit
  unfolding choice
  choice_within l =
      by_test expected win (candidate expected win truncated) (λ v. v < limit) (λ a b. b) (λ a b. omega (arith, inside)) (λ a b. inside)
    where
      inside : candidate expected win truncated < limit
      inside =
          let p = div-add-mod' expected win in
          rw (candidate_is expected win truncated fits)
          (⊎_elim
          (λ x. let z : ⊥ = omega arith in absurd z)
          (⊎_elim (λ x. omega arith) (λ x. let z : ⊥ = omega arith in absurd z))
          (blocks win (expected / win) (limit / win)))

  -- and then where the truncated bits are at most half a window
  pub choice_last : expected ≡ limit → win ≤ limit
      → (limit ≤ choice expected win truncated → truncated ≤ win / 2) × (truncated ≤ win / 2 → limit ≤ choice expected win truncated)
  unfolding choice
  choice_last e room =
      by_test expected win (candidate expected win truncated) (λ v. (limit ≤ v → truncated ≤ win / 2) × (truncated ≤ win / 2 → limit ≤ v))
      (λ a b. let z : ⊥ = omega (arith, last) in absurd z)
      (λ a b. (λ x. let z : ⊥ = omega (arith, last) in absurd z, λ x. let z : ⊥ = omega (arith, last) in absurd z))
      (λ top bottom.
      (λ x. ⊎_elim (λ y. let b = bottom (omega (arith, last)) in let z : ⊥ = omega (arith, last) in absurd z) (λ y. y) (split (win / 2) truncated), λ x. omega (arith, last)))
    where
      last : candidate expected win truncated ≡ truncated + limit
      last = candidate_is expected win truncated fits ∙ rw (e, ends)

-- There is one such number at most: so the definition by A.3 and the words of 17.1 say the same.
pub nearest_only : (expected win truncated v w : ℕ) → Nearest expected win truncated v → Nearest expected win truncated w → v ≡ w
nearest_only expected win truncated v w p q =
    ⊎_elim
    (λ a. ⊎_elim (λ b. let z : ⊥ = omega arith in absurd z) (λ b. let z : ⊥ = omega arith in absurd z) (q.nearest v p.number p.low_bits))
    (λ a. ⊎_elim (λ b. let z : ⊥ = omega arith in absurd z) (λ b. omega arith) (q.nearest v p.number p.low_bits))
    (p.nearest w q.number q.low_bits)
