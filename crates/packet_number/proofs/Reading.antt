-- What a reader learns: an OK is the nearest packet number, and a RANGE on good arguments comes only after the last packet number.
-- Both follow from A.3's choice, since each of the four windows is even and 2 ^ 62 is a multiple of it. Assumes nothing.
use Prim.Native.Nat.{ℕ, zero, suc, ◌+◌, ◌*◌, ◌/◌, ◌<◌, ◌≤◌}
use mathlib.Core.Path.{◌≡◌, refl, sym, subst}
use mathlib.Core.Bool.{true}
use mathlib.Core.Logic.{⊎_elim}
use mathlib.Core.List.{List}
use native.Mathlib.Omega.{arith}
use lib.ListN.{get_or, length}
use Rattle.answers.proofs.Tests.{split}
use Rattle.std.specs.Prelude.{Ok, Err}
use Rattle.answers.specs.declared.Refusal.TheVariants.{Range}
use Rattle.big_endian.proofs.Laws.{number_lt}
use Rattle.packet_number.specs.PacketNumber.{limit, window, digits, choice, readable, expand_of, Nearest}
use Rattle.packet_number.proofs.Laws.{window_le, readable_low, readable_high, readable_limit, expand_past, expand_reads}
use Rattle.packet_number.proofs.Nearest.{choice_nearest, choice_within, choice_last}

-- what holds of four lengths holds of every length from 1 to 4
pub four : (P : ℕ → Type 0) → P 1 → P 2 → P 3 → P 4 → (k : ℕ) → 1 ≤ k → k ≤ 4 → P k
four P a b c d zero low high = let z : ⊥ = omega arith in absurd z
four P a b c d (suc zero) low high = a
four P a b c d (suc (suc zero)) low high = b
four P a b c d (suc (suc (suc zero))) low high = c
four P a b c d (suc (suc (suc (suc zero)))) low high = d
four P a b c d (suc (suc (suc (suc (suc k))))) low high = let z : ⊥ = omega arith in absurd z

pub window_even : (k : ℕ) → 1 ≤ k → k ≤ 4 → window k / 2 + window k / 2 ≡ window k
unfolding window
window_even = four (λ k. window k / 2 + window k / 2 ≡ window k) refl refl refl refl

-- 2 ^ 62 ends a block of every window
window_ends : (k : ℕ) → 1 ≤ k → k ≤ 4 → limit / window k * window k ≡ limit
unfolding window
window_ends = four (λ k. limit / window k * window k ≡ limit) refl refl refl refl

-- k bytes are a number of their window
pub digits_lt : (s : List ℕ) → ((j : ℕ) → get_or s j 0 < 256) → (k : ℕ) → digits s k < window k
unfolding window
digits_lt s h k = number_lt s h k

module _ (s : List ℕ) (len largest : ℕ) (byte : (j : ℕ) → get_or s j 0 < 256) (h : readable len largest ≡ true) (l : len ≤ length s) where
  low : 1 ≤ len
  low = readable_low len largest h

  high : len ≤ 4
  high = readable_high len largest h

  small : window len ≤ limit
  small = omega (arith, window_le len high)

  abbrev taken_by : ℕ
  taken_by = choice (largest + 1) (window len) (digits s len)

  at_last : limit ≤ taken_by → largest + 1 ≡ limit
  at_last g =
      ⊎_elim
      (λ x.
      let y = choice_within (largest + 1) (window len) (digits s len) (window_even len low high) (digits_lt s byte len) (window_ends len low high) x in
      let z : ⊥ = omega arith in
      absurd z)
      (λ x. omega (arith, readable_limit len largest h))
      (split (largest + 1) limit)

  -- an OK is the nearest packet number, to the largest received and one, that ends in these bytes
  pub expand_nearest : (v : ℕ) → expand_of s len largest ≡ Ok v
      → Nearest (largest + 1) (window len) (digits s len) v
  expand_nearest v e =
      ⊎_elim
      (λ g.
      let q : taken_by ≡ v = cc (expand_reads s len largest h l refl refl refl g) in
      subst (Nearest (largest + 1) (window len) (digits s len)) q
      (choice_nearest (largest + 1) (window len) (digits s len) (window_even len low high) (digits_lt s byte len) g))
      (λ g.
      let q : ◌≡◌ {A = ℕ} 2 0 = cc (expand_past s len largest h l refl refl refl g) in
      let z : ⊥ = omega arith in
      absurd z)
      (split taken_by limit)

  -- a RANGE: the last packet number was received, and the bytes are no more than half a window
  pub expand_refused : expand_of s len largest ≡ Err Range → (largest + 1 ≡ limit) × (digits s len ≤ window len / 2)
  expand_refused e =
      ⊎_elim
      (λ g.
      let q : ◌≡◌ {A = ℕ} 0 2 = cc (expand_reads s len largest h l refl refl refl g) in
      let z : ⊥ = omega arith in
      absurd z)
      (λ g.
      let last : largest + 1 ≡ limit = at_last g in
      (last, (choice_last (largest + 1) (window len) (digits s len) (window_even len low high) (digits_lt s byte len) (window_ends len low high) last small).0 g))
      (split taken_by limit)

  -- and these are all of them
  pub expand_refuses_last : largest + 1 ≡ limit → digits s len ≤ window len / 2 → expand_of s len largest ≡ Err Range
  expand_refuses_last last half =
      sym
      (expand_past s len largest h l refl refl refl
      ((choice_last (largest + 1) (window len) (digits s len) (window_even len low high) (digits_lt s byte len) (window_ends len low high) last small).1 half))
