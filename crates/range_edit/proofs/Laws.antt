-- The turns of the walks: one range more is one unfolding of what the walk means.
-- Assumes nothing.
use mathlib.Core.Path.{◌≡◌, refl, sym, ap, ◌∙◌}
use mathlib.Core.Bool.{false}
use mathlib.Core.List.{List, [], ◌∷◌, ◌++◌}
use Prim.Native.Nat.{ℕ, suc, ◌+◌, ◌-◌, ◌*◌, ◌/◌, ◌≤◌, ◌<◌, min, max}
use native.Mathlib.Nat.{sub-zero, zero-add}
use native.Mathlib.Omega.{arith}
use lib.ListN.{length, get_or, set}
use lib.Dec.{leb}
use borrow.Author.Tests.{le-ltb, lt-ltb, le-leb, lt-leb}
use Rattle.range_list.specs.Ranges.{Range, range_at, read, flat, over}
use Rattle.range_list.proofs.Laws.{read_step, read_end, length_read, over_range, read_snoc}
use Rattle.range_edit.specs.Edits.{below, grown, head_covers, cut, clipped}

-- before the first turn nothing is passed
pub sub_zero_below : (l : List ℕ) (n s : ℕ) → 0 + below s (read l 0 (n - 0)) ≡ below s (read l 0 n)
sub_zero_below l n s = simp (zero-add, sub-zero)

-- the turn of `passed`, which has counted i ranges of x in all
module _ (l : List ℕ) (s i n x : ℕ) (inv : i + below s (read l i (n - i)) ≡ x) where
  pub below_stop : i < n → s ≤ get_or l (i * 2 + 1) 0 → i ≡ x
  below_stop h a =
      let e : below s (read l i (n - i)) ≡ 0 = rw (read_step l i n h) (simp (le-ltb _ _ a)) in
      omega arith

  pub below_on : i < n → get_or l (i * 2 + 1) 0 < s → i + 1 + below s (read l (i + 1) (n - (i + 1))) ≡ x
  below_on h a =
      let e : below s (read l i (n - i)) ≡ below s (read l (i + 1) (n - (i + 1))) + 1 = rw (read_step l i n h) (simp (lt-ltb _ _ a)) in
      omega arith

  pub below_end : i ≡ n → n ≡ x
  below_end h =
      let e : below s (read l i (n - i)) ≡ 0 = rw (read_end l i n (omega arith)) in
      omega arith

-- the turn of `grow`
module _ (l : List ℕ) (a b i n : ℕ) where
  pub grown_stop : i < n → b < get_or l (i * 2) 0 → grown i a b (read l i (n - i)) ≡ record { upto = i; lo = a; hi = b }
  grown_stop h k = rw (read_step l i n h) (simp (lt-ltb _ _ k))

  pub grown_on : i < n → get_or l (i * 2) 0 ≤ b
      → grown (i + 1) (min a (get_or l (i * 2) 0)) (max b (get_or l (i * 2 + 1) 0)) (read l (i + 1) (n - (i + 1))) ≡ grown i a b (read l i (n - i))
  grown_on h k = rw (read_step l i n h) (simp (le-ltb _ _ k))

  pub grown_end : i ≡ n → grown i a b (read l i (n - i)) ≡ record { upto = n; lo = a; hi = b }
  grown_end h = rw (read_end l i n (omega arith)) (λ j. record { upto = h j; lo = a; hi = b })

-- the tests of `covered`
module _ (l : List ℕ) (s e i n : ℕ) where
  pub head_none : n ≤ i → false ≡ head_covers s e (read l i (n - i))
  head_none h = rw (read_end l i n h)

  pub head_after : i < n → s < get_or l (i * 2) 0 → leb (get_or l (i * 2) 0) s ≡ head_covers s e (read l i (n - i))
  head_after h a = rw (read_step l i n h) (simp (lt-leb _ _ a))

  pub head_from : i < n → get_or l (i * 2) 0 ≤ s → leb e (get_or l (i * 2 + 1) 0) ≡ head_covers s e (read l i (n - i))
  head_from h a = rw (read_step l i n h) (simp (le-leb _ _ a))

-- the turn of `cut_at`
module _ (l : List ℕ) (e b i n : ℕ) where
  pub cut_stop : i < n → e ≤ get_or l (i * 2) 0 → cut i e b (read l i (n - i)) ≡ record { upto = i; last = b }
  cut_stop h k = rw (read_step l i n h) (simp (le-ltb _ _ k))

  pub cut_on : i < n → get_or l (i * 2) 0 < e → cut (i + 1) e (get_or l (i * 2 + 1) 0) (read l (i + 1) (n - (i + 1))) ≡ cut i e b (read l i (n - i))
  cut_on h k = rw (read_step l i n h) (simp (lt-ltb _ _ k))

  pub cut_end : i ≡ n → cut i e b (read l i (n - i)) ≡ record { upto = n; last = b }
  cut_end h = rw (read_end l i n (omega arith)) (λ j. record { upto = h j; last = b })

pub clipped_append : (s e : ℕ) (a b : List Range) → clipped s e (a ++ b) ≡ clipped s e a ++ clipped s e b
clipped_append s e [] b = refl
clipped_append s e (r ∷ a) b = ap (λ (x : List Range). record { lo = max s r.lo; hi = min e r.hi } ∷ x) (clipped_append s e a b)

pub length_clipped : (s e : ℕ) (rs : List Range) → length (clipped s e rs) ≡ length rs
length_clipped s e [] = refl
length_clipped s e (r ∷ rs) = ap suc (length_clipped s e rs)

-- a turn of `clip`
pub clip_turn : (l m now : List ℕ) (from k s e a b : ℕ) → k < length m / 2 → now ≡ over (flat (clipped s e (read l from k))) m
    → a ≡ max s (get_or l ((from + k) * 2) 0) → b ≡ min e (get_or l ((from + k) * 2 + 1) 0)
    → set (set now (k * 2) a) (k * 2 + 1) b ≡ over (flat (clipped s e (read l from (k + 1)))) m
clip_turn l m now from k s e a b h q x y =
    over_range (clipped s e (read l from k)) m now k a b (length_clipped s e (read l from k) ∙ length_read l from k) h q
    ∙ (λ i. over (flat (clipped s e (read l from k) ++ (record { lo = x i; hi = y i } ∷ []))) m)
    ∙ ap (λ (z : List Range). over (flat z) m) (sym (ap (clipped s e) (read_snoc l from k) ∙ clipped_append s e (read l from k) (range_at l (from + k) ∷ [])))
