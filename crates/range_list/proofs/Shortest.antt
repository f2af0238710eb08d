-- A sound list of ranges is the shortest of all lists with its numbers, sorted or not: the first range of the sound one ends at a number that is
-- missing, so a range of the other list that starts at or below that end has nothing above it; without those the other list is shorter, and has
-- the numbers of the sound list's rest. Assumes nothing.
use mathlib.Core.Path.{◌≡◌}
use mathlib.Core.Bool.{true, cond}
use mathlib.Core.Logic.{inl, inr, ⊎_elim}
use mathlib.Core.List.{List, [], ◌∷◌}
use Prim.Native.Nat.{ℕ, ◌+◌, ◌≤◌, ◌<◌}
use native.Mathlib.Omega.{arith}
use lib.ListN.{length}
use lib.Dec.{ltb}
use Rattle.range_list.specs.Ranges.{Range, sound, In}
use Rattle.range_list.proofs.Sound.{by_lt, Sound, sound_parts}
use Rattle.range_list.proofs.Canon.{in_least}

-- the ranges of rs that start above b
abbrev start_above : ℕ → List Range → List Range
start_above b [] = []
start_above b (r ∷ rs) = cond (ltb b r.lo) (r ∷ start_above b rs) (start_above b rs)

fewer : (b : ℕ) (rs : List Range) → length (start_above b rs) ≤ length rs
fewer b [] = omega arith
fewer b (r ∷ rs) = by_lt b r.lo (λ l t. rw t (omega (arith, fewer b rs))) (λ l t. rw t (omega (arith, fewer b rs)))

-- a range with a number at or below b goes
fewer_by : (b x : ℕ) (rs : List Range) → In x rs → x ≤ b → length (start_above b rs) < length rs
fewer_by b x [] k h = absurd k
fewer_by b x (r ∷ rs) (inl a) h = by_lt b r.lo (λ l t. absurd (omega arith)) (λ l t. rw t (omega (arith, fewer b rs)))
fewer_by b x (r ∷ rs) (inr k) h =
    by_lt b r.lo (λ l t. rw t (omega (arith, fewer_by b x rs k h))) (λ l t. rw t (omega (arith, fewer b rs)))

above_to : (b x : ℕ) (rs : List Range) → In x (start_above b rs) → In x rs × (b < x)
above_to b x [] k = absurd k
above_to b x (r ∷ rs) k =
    by_lt b r.lo
    (λ l t. ⊎_elim (λ a. (inl a, omega arith)) (λ j. let y = above_to b x rs j in (inr y.0, y.1)) (rw t at k))
    (λ l t. let y = above_to b x rs (rw t at k) in (inr y.0, y.1))

-- where b is missing, a number above it lies in a range that starts above it
above_from : (b x : ℕ) (rs : List Range) → (In b rs → ⊥) → In x rs → b < x → In x (start_above b rs)
above_from b x [] m k h = absurd k
above_from b x (r ∷ rs) m k h =
    by_lt b r.lo
    (λ l t. rw t (⊎_elim (λ a. inl a) (λ j. inr (above_from b x rs (λ y. m (inr y)) j h)) k))
    (λ l t. rw t (⊎_elim (λ a. absurd (m (inl (l, omega arith)))) (λ j. above_from b x rs (λ y. m (inr y)) j h) k))

pub shortest : (least : ℕ) (ps rs : List Range) → sound least ps ≡ true
    → ((x : ℕ) → In x ps → In x rs) → ((x : ℕ) → In x rs → In x ps) → length ps ≤ length rs
shortest least [] rs s f g = omega arith
shortest least (p ∷ ps) rs s f g =
    let q : Sound least p ps = sound_parts least p ps s in
    let b = p.hi in
    let up : (x : ℕ) → In x ps → b < x = λ x k. omega (arith, in_least (b + 1) x ps q.rest k) in
    let out : In b (p ∷ ps) → ⊥ = ⊎_elim (λ a. omega arith) (λ k. omega (arith, up b k)) in
    let less : length (start_above b rs) < length rs = fewer_by b p.lo rs (f p.lo (inl (omega arith, q.some))) (omega (arith, q.some)) in
    let rest : length ps ≤ length (start_above b rs) =
    shortest (b + 1) ps (start_above b rs) q.rest
    (λ x k. above_from b x rs (λ y. out (g b y)) (f x (inr k)) (up x k))
    (λ x k.
    let y = above_to b x rs k in
    ⊎_elim (λ a. absurd (omega (arith, y.1))) (λ j. j) (g x y.0))
    in
    omega arith
