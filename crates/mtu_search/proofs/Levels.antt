-- How often a width is halved before it is the edge or less, and how many sizes that makes: the least k with w ≤ edge * 2 ^ k; and
-- what that comes to up to 1,500. By induction on the halvings. Assumes nothing.
use mathlib.Core.Path.{◌≡◌, refl, ap, sym, ◌∙◌}
use mathlib.Core.Logic.{⊎_elim}
use Prim.Native.Nat.{ℕ, zero, suc, ◌*◌, ◌^◌, ◌≤◌, ◌<◌}
use native.Mathlib.Omega.{arith}
use native.Mathlib.Nat.{pow-suc, mul_comm, mul-one, mul_left_comm, mul-le-mul_right}
use borrow.Author.Tests.{le-leb, lt-leb}
use Rattle.answers.proofs.Tests.{split}
use Rattle.mtu_search.specs.Measure.{edge, up, level, levels, sizes_most}

-- ---- one halving
level_none : (c w : ℕ) → level 0 c w ≡ 0
unfolding level
level_none c w = refl

level_stop : (k c w : ℕ) → w ≤ c → level (suc k) c w ≡ 0
unfolding level
level_stop k c w h = rw (le-leb w c h)

level_step : (k c w : ℕ) → c < w → level (suc k) c w ≡ suc (level k c (up w))
unfolding level
level_step k c w h = rw (lt-leb w c h)

level_most : (k c w : ℕ) → level k c w ≤ k
level_most zero c w = omega (arith, level_none c w)
level_most (suc k) c w = ⊎_elim (λ h. omega (arith, level_step k c w h, level_most k c (up w))) (λ h. omega (arith, level_stop k c w h)) (split c w)

-- a wider one has no fewer levels, and a higher edge gives no more
level_mono : (k c d v w : ℕ) → d ≤ c → v ≤ w → level k c v ≤ level k d w
level_mono zero c d v w g h = omega (arith, level_none c v, level_none d w)
level_mono (suc k) c d v w g h =
    ⊎_elim
    (λ a.
    let b : d < w = omega arith in
    let i : up v ≤ up w = omega arith in
    let j : level k c (up v) ≤ level k d (up w) = level_mono k c d (up v) (up w) g i in
    omega (arith, level_step k c v a, level_step k d w b))
    (λ a. omega (arith, level_stop k c v a))
    (split c v)

-- with room for the width, one turn more changes nothing
level_more : (k c w : ℕ) → 1 ≤ c → w ≤ 2 ^ k → level (suc k) c w ≡ level k c w
level_more zero c w g h = let a : w ≤ 1 = h in level_stop zero c w (omega arith) ∙ sym (level_none c w)
level_more (suc k) c w g h =
    ⊎_elim
    (λ a.
    let e : 2 ^ suc k ≡ 2 * 2 ^ k = pow-suc 2 k ∙ omega arith in
    let b : up w ≤ 2 ^ k = omega arith in
    level_step (suc k) c w a ∙ ap suc (level_more k c (up w) g b) ∙ sym (level_step k c w a))
    (λ a. level_stop (suc k) c w a ∙ sym (level_stop k c w a))
    (split c w)

-- ---- the least k with w ≤ c * 2 ^ k
twice : (c k : ℕ) → c * 2 ^ suc k ≡ 2 * (c * 2 ^ k)
twice c k = ap (λ (x : ℕ). c * x) (pow-suc 2 k) ∙ simp (mul_comm, mul_left_comm)

once : (c : ℕ) → c * 2 ^ 0 ≡ c
once c = mul-one c

level_enough : (k c w : ℕ) → w ≤ c * 2 ^ k → w ≤ c * 2 ^ level k c w
level_enough zero c w h = rw (level_none c w) h
level_enough (suc k) c w h =
    ⊎_elim
    (λ a.
    let b : up w ≤ c * 2 ^ k = omega (arith, twice c k) in
    let i : up w ≤ c * 2 ^ level k c (up w) = level_enough k c (up w) b in
    let j : w ≤ c * 2 ^ suc (level k c (up w)) = omega (arith, twice c (level k c (up w))) in
    rw (level_step k c w a) j)
    (λ a. rw (level_stop k c w a) (omega (arith, once c)))
    (split c w)

level_least : (k c w j : ℕ) → w ≤ c * 2 ^ j → level k c w ≤ j
level_least zero c w j h = omega (arith, level_none c w)
level_least (suc k) c w zero h = omega (arith, level_stop k c w (omega (arith, once c)))
level_least (suc k) c w (suc j) h =
    ⊎_elim
    (λ a.
    let b : up w ≤ c * 2 ^ j = omega (arith, twice c j) in
    omega (arith, level_step k c w a, level_least k c (up w) j b))
    (λ a. omega (arith, level_stop k c w a))
    (split c w)

-- ---- the levels of a width, under the minimum change
-- none up to the edge, and one more than those of the half above it
pub levels_stop : (change w : ℕ) → w ≤ edge change → levels change w ≡ 0
unfolding levels
levels_stop change w h = level_stop 15 (edge change) w h

pub levels_half : (change w : ℕ) → 0 < change → edge change < w → w ≤ 65536 → levels change w ≡ suc (levels change (up w))
unfolding levels
levels_half change w some a h =
    let b : up w ≤ 2 ^ 15 = omega arith in
    let c : 1 ≤ edge change = omega arith in
    level_step 15 (edge change) w a ∙ sym (ap suc (level_more 15 (edge change) (up w) c b))

pub levels_mono : (change v w : ℕ) → v ≤ w → levels change v ≤ levels change w
unfolding levels
levels_mono change v w h = level_mono 16 (edge change) (edge change) v w (omega arith) h

-- so they are the least k with w ≤ edge * 2 ^ k
pub levels_enough : (change w : ℕ) → 0 < change → w ≤ 65536 → w ≤ edge change * 2 ^ levels change w
unfolding levels
levels_enough change w some h = level_enough 16 (edge change) w (omega arith)

pub levels_least : (change w k : ℕ) → w ≤ edge change * 2 ^ k → levels change w ≤ k
unfolding levels
levels_least change w k h = level_least 16 (edge change) w k h

-- in plainer words: at most the least k with w < m * 2 ^ k
pub levels_plain : (change w k : ℕ) → w < change * 2 ^ k → levels change w ≤ k
levels_plain change w k h = levels_least change w k (omega (arith, wider))
  where
    up_to : change ≤ edge change
    up_to = omega arith

    wider : change * 2 ^ k ≤ edge change * 2 ^ k
    wider = mul-le-mul_right (2 ^ k) up_to

-- ---- sizes
pub most_none : (change w : ℕ) → w < change → sizes_most change w ≡ 0
unfolding sizes_most
most_none change w h = rw (lt-leb change w h)

pub most_some : (change w : ℕ) → change ≤ w → sizes_most change w ≡ suc (levels change w)
unfolding sizes_most
most_some change w h = rw (le-leb change w h)

-- at most 17, whatever the bounds
pub most_17 : (change w : ℕ) → sizes_most change w ≤ 17
unfolding levels
most_17 change w = ⊎_elim (λ h. omega (arith, most_none change w h)) (λ h. omega (arith, most_some change w h, level_most 16 (edge change) w)) (split w change)

-- at most those of a wider one with a lower edge
most_under : (change c w v : ℕ) → c ≤ edge change → w ≤ v → sizes_most change w ≤ suc (level 16 c v)
unfolding levels
most_under change c w v h l =
    ⊎_elim (λ d. omega (arith, most_none change w d)) (λ d. omega (arith, most_some change w d, level_mono 16 (edge change) c w v h l)) (split w change)

-- between bounds that are at most 300 apart, as 1,200 and 1,500: at most 8 with a change of 3 and more, at most 10 with any
level_300 : (level 16 3 300 ≡ 7) × (level 16 1 300 ≡ 9)
unfolding level
level_300 = (refl, refl)

pub most_8 : (change w : ℕ) → 3 ≤ change → w ≤ 300 → sizes_most change w ≤ 8
most_8 change w c l = omega (arith, most_under change 3 w 300 (omega arith) l, level_300.0)

pub most_10 : (change w : ℕ) → 0 < change → w ≤ 300 → sizes_most change w ≤ 10
most_10 change w c l = omega (arith, most_under change 1 w 300 (omega arith) l, level_300.1)
