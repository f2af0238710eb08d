-- One turn of each loop: what has come of the first i places, and what of the first i + 1.
-- Assumes nothing.
use mathlib.Core.Path.{◌≡◌, refl, ◌∙◌}
use mathlib.Core.Bool.{Bool, true, false, ◌&&◌}
use mathlib.Core.List.{List}
use Prim.Native.Nat.{ℕ, ◌+◌, ◌≤◌, ◌<◌}
use lib.Dec.{ltb, leb}
use lib.ListN.{get_or}
use Rattle.std.proofs.Common.{add-one}
use borrow.Author.Tests.{lt-ltb, le-ltb}
use Rattle.black_hole.specs.declared.Bursts.{Bursts}
use Rattle.black_hole.specs.BlackHole.{none, pushed, retained_first, least_first, good_place, good_first, good_bursts}

-- ---- the loops, turn by turn
module _ (b : Bursts) (len : ℕ) where
  pub retain_start : {r : Bursts} → r ≡ none → r ≡ retained_first 0 b len
  unfolding retained_first
  retain_start e = e

  pub retain_on : {on r : Bursts} (i : ℕ) → (ltb i b.count && ltb len (get_or b.sizes i 0)) ≡ true → on ≡ retained_first i b len
      → r ≡ pushed on (get_or b.sizes i 0) → r ≡ retained_first (i + 1) b len
  unfolding retained_first
  retain_on i t e f = rw (add-one i, ← e, t) f

  pub retain_off : {on : Bursts} (i : ℕ) → (ltb i b.count && ltb len (get_or b.sizes i 0)) ≡ false → on ≡ retained_first i b len
      → on ≡ retained_first (i + 1) b len
  unfolding retained_first
  retain_off i t e = rw (add-one i, ← e, t)

module _ (s : List ℕ) where
  pub least_start : 0 ≡ least_first 0 s
  unfolding least_first
  least_start = refl

  pub least_less : {a : ℕ} (i : ℕ) → get_or s i 0 < get_or s a 0 → a ≡ least_first i s → i ≡ least_first (i + 1) s
  unfolding least_first
  least_less {a} i h e = rw (add-one i, ← e, lt-ltb (get_or s i 0) (get_or s a 0) h)

  pub least_same : {a : ℕ} (i : ℕ) → get_or s a 0 ≤ get_or s i 0 → a ≡ least_first i s → a ≡ least_first (i + 1) s
  unfolding least_first
  least_same {a} i h e = rw (add-one i, ← e, le-ltb (get_or s i 0) (get_or s a 0) h)

module _ (b : Bursts) (least : ℕ) where
  pub good_start : leb b.count 4 ≡ good_first 0 b least
  unfolding good_first
  good_start = refl

  pub good_next : {f p : Bool} (i : ℕ) → f ≡ good_first i b least → p ≡ good_place b least i → (f && p) ≡ good_first (i + 1) b least
  unfolding good_first
  good_next i e f = rw (add-one i, e, f)

  pub good_all : {f : Bool} (i : ℕ) → i ≡ 4 → f ≡ good_first i b least → f ≡ good_bursts b least
  unfolding good_bursts
  good_all i four e = e ∙ rw four
