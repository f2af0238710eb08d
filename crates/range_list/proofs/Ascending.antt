-- A list of ranges is sound exactly where its flat list is strictly ascending and the last number is at most 2 ^ 62: the bounds of the other ends follow.
-- Assumes nothing.
use mathlib.Core.Path.{◌≡◌, sym, ap, ◌∙◌}
use mathlib.Core.Bool.{Bool, true, false, ◌&&◌, and-false, and-true}
use mathlib.Core.List.{List}
use Prim.Native.Nat.{ℕ, zero, suc, ◌+◌, ◌-◌, ◌*◌, ◌/◌, ◌^◌, ◌≤◌, ◌<◌}
use native.Mathlib.Omega.{arith}
use lib.ListN.{length, get_or, take}
use lib.Seq.{get_or-take, length-take-le}
use native.Mathlib.Nat.{add-zero, le_refl}
use lib.Dec.{ltb, leb}
use borrow.Author.Tests.{le-ltb, lt-ltb, le-leb, lt-leb, ltb-true, ltb-false}
use Rattle.range_list.specs.Ranges.{read, sound, well_formed}
use Rattle.range_list.proofs.Sound.{by_lt}
use Rattle.range_list.proofs.Kept.{well_formed_is}

-- the k numbers of l from index i on ascend from last on, and the last of all is at most 2 ^ 62
abbrev pub ascends : List ℕ → ℕ → ℕ → ℕ → Bool
ascends l i zero last = leb last (2 ^ 62)
ascends l i (suc k) last = ltb last (get_or l i 0) && ascends l (i + 1) k (get_or l i 0)

-- where an end is within bounds, so is what lies below it
below_bound : (h e : ℕ) (b : Bool) → h < e → (leb e (2 ^ 62) && b) ≡ (leb h (2 ^ 62) && (leb e (2 ^ 62) && b))
below_bound h e b k =
    by_lt (2 ^ 62) e
    (λ x _. simp (lt-leb e (2 ^ 62) x, and-false))
    (λ x _. simp (le-leb h (2 ^ 62) (omega arith)))

-- from an end h on
pub ascends_sound : (l : List ℕ) (i k h : ℕ) → ascends l (i * 2) (k * 2) h ≡ (leb h (2 ^ 62) && sound (h + 1) (read l i k))
ascends_sound l i zero h = sym (and-true (leb h (2 ^ 62)))
ascends_sound l i (suc k) h =
    let a : suc k * 2 ≡ suc (suc (k * 2)) = omega arith in
    let b : i * 2 + 1 + 1 ≡ (i + 1) * 2 = omega arith in
    rw (a, b)
    (by_lt h (get_or l (i * 2) 0)
    (λ x t. by_lt (get_or l (i * 2) 0) (get_or l (i * 2 + 1) 0)
    (λ y u. simp (t, u, le-leb (h + 1) (get_or l (i * 2) 0) (omega arith))
    (ascends_sound l (i + 1) k (get_or l (i * 2 + 1) 0) ∙ below_bound h (get_or l (i * 2 + 1) 0) (sound (get_or l (i * 2 + 1) 0 + 1) (read l (i + 1) k)) (omega arith)))
    (λ y u. simp (t, u, and-false)))
    (λ x t. simp (t, lt-leb (h + 1) (get_or l (i * 2) 0) (omega arith), and-false)))

-- the whole list, from its first number on
pub ascends_all : (l : List ℕ) (n : ℕ) → 0 < n → ascends l 1 (n * 2 - 1) (get_or l 0 0) ≡ sound 0 (read l 0 n)
ascends_all l zero k = absurd (omega arith)
ascends_all l (suc n) k =
    let a : suc n * 2 - 1 ≡ suc (n * 2) = omega arith in
    rw a
    (by_lt (get_or l 0 0) (get_or l 1 0)
    (λ y u. simp (u, le-leb 0 (get_or l 0 0) (omega arith)) (ascends_sound l 1 n (get_or l 1 0)))
    (λ y u. simp (u, and-false)))

-- where each of the k numbers after number i is above the one before it, the last decides; where one is not, no bound helps
pub ascends_where : (l : List ℕ) (i k : ℕ) → ((j : ℕ) → i ≤ j → j < i + k → get_or l j 0 < get_or l (j + 1) 0)
    → ascends l (i + 1) k (get_or l i 0) ≡ leb (get_or l (i + k) 0) (2 ^ 62)
ascends_where l i zero f = rw add-zero
ascends_where l i (suc k) f =
    let e : i + suc k ≡ i + 1 + k = omega arith in
    rw e (simp (lt-ltb _ _ (f i (le_refl _) (omega arith))) (ascends_where l (i + 1) k (λ j h m. f j (omega arith) (omega arith))))

pub ascends_not : (l : List ℕ) (i k j : ℕ) → i ≤ j → j < i + k → get_or l (j + 1) 0 ≤ get_or l j 0 → ascends l (i + 1) k (get_or l i 0) ≡ false
ascends_not l i zero j h m g = absurd (omega arith)
ascends_not l i (suc k) j h m g =
    by_lt i j
    (λ n _. let e : ascends l (i + 1 + 1) k (get_or l (i + 1) 0) ≡ false = ascends_not l (i + 1) k j (omega arith) (omega arith) g in simp (e, and-false))
    (λ n _. let e : j ≡ i = omega arith in simp (le-ltb _ _ (rw e at g)))

-- a list is well formed where it has the room, its numbers ascend, and the last is at most 2 ^ 62
module _ (l : List ℕ) (n : ℕ) (room : n ≤ length l / 2) (some : 0 < n) where
  numbers : (j : ℕ) → j < n * 2 → get_or (take (n * 2) l) j 0 ≡ get_or l j 0
  numbers j h = get_or-take (n * 2) l j 0 h

  long : length (take (n * 2) l) ≡ n * 2
  long = length-take-le (n * 2) l (omega arith)

  -- `is_sorted_by` says true
  pub formed_where : ((j : ℕ) (d : ℕ) → j + 1 < length (take (n * 2) l) → true ≡ ltb (get_or (take (n * 2) l) j d) (get_or (take (n * 2) l) (j + 1) d))
      → leb (get_or (take (n * 2) l) (n * 2 - 1) 0) (2 ^ 62) ≡ well_formed l n
  formed_where f =
      let e : 0 + (n * 2 - 1) ≡ n * 2 - 1 = omega arith in
      let g : (j : ℕ) → 0 ≤ j → j < 0 + (n * 2 - 1) → get_or l j 0 < get_or l (j + 1) 0 =
      λ j _ h. let t : get_or (take (n * 2) l) j 0 < get_or (take (n * 2) l) (j + 1) 0 = ltb-true _ _ (sym (f j 0 (rw long (omega arith)))) in
      omega (arith, numbers j (omega arith), numbers (j + 1) (omega arith)) in
      well_formed_is l n _ room
      (sym (ascends_all l n some) ∙ ascends_where l 0 (n * 2 - 1) g ∙ (λ k. leb (get_or l (e k) 0) (2 ^ 62))
      ∙ sym (ap (λ (x : ℕ). leb x (2 ^ 62)) (numbers (n * 2 - 1) (omega arith))))

  -- `is_sorted_by` says false
  pub not_formed : (j : ℕ) → j + 1 < length (take (n * 2) l) → ((d : ℕ) → false ≡ ltb (get_or (take (n * 2) l) j d) (get_or (take (n * 2) l) (j + 1) d))
      → false ≡ well_formed l n
  not_formed j h f =
      let m : j + 1 < n * 2 = rw long at h in
      let g : get_or l (j + 1) 0 ≤ get_or l j 0 =
      let t : get_or (take (n * 2) l) (j + 1) 0 ≤ get_or (take (n * 2) l) j 0 = ltb-false _ _ (sym (f 0)) in
      omega (arith, numbers j (omega arith), numbers (j + 1) m) in
      well_formed_is l n false room (sym (ascends_all l n some) ∙ ascends_not l 0 (n * 2 - 1) j (omega arith) (omega arith) g)

pub none_formed : (l : List ℕ) (n : ℕ) → n ≡ 0 → true ≡ well_formed l n
none_formed l n e = rw e (simp (le-leb 0 (length l / 2) (omega arith)))
