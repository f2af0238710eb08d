-- The length written is the least that 17.1 allows: enough, by the four windows one by one, and one byte fewer is not.
-- Assumes nothing.
use Prim.Native.Nat.{ℕ, suc, ◌*◌, ◌^◌, ◌<◌, ◌≤◌}
use mathlib.Core.Logic.{⊎_elim}
use native.Mathlib.Omega.{arith}
use Rattle.answers.proofs.Tests.{split}
use Rattle.packet_number.specs.PacketNumber.{window, fewest}
use Rattle.packet_number.proofs.Laws.{by_length, fewest_low, fewest_high, window_mono}

module _ (d : ℕ) where
  -- so many bytes represent more than twice the distance, where any number of bytes up to four does
  pub fewest_enough : d < 2 ^ 31 → 2 * d < window (fewest d)
  unfolding window
  fewest_enough l = by_length d (λ k. 2 * d < window k) (λ h. h) (λ _ h. h) (λ _ h. h) (λ _. omega arith)

  -- where n bytes are not enough, k that are have to be more
  more : (n k : ℕ) → window n ≤ 2 * d → 2 * d < window k → suc n ≤ k
  more n k a h = ⊎_elim (λ g. g) (λ g. let z : ⊥ = omega (arith, window_mono g) in absurd z) (split n k)

  -- and no fewer do
  pub fewest_least : (k : ℕ) → 1 ≤ k → 2 * d < window k → fewest d ≤ k
  unfolding window
  fewest_least k low h = by_length d (λ n. n ≤ k) (λ _. low) (λ a _. more 1 k a h) (λ a _. more 2 k a h) (λ a. more 3 k a h)

  -- 1 to 4 of them
  pub fewest_within : (1 ≤ fewest d) × (fewest d ≤ 4)
  fewest_within = (fewest_low d, fewest_high d)
