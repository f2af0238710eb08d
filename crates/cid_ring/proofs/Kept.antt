-- What a ring holds after a step, for every sequence number, and that steps keep good form: by cases on whether a number has a place.
-- Assumes nothing.
use mathlib.Core.Path.{◌≡◌, refl, ap, sym, ◌∙◌}
use mathlib.Core.Bool.{Bool, true, false, cond, ◌&&◌, ◌||◌}
use mathlib.Core.Logic.{⊎_elim}
use Prim.Native.Nat.{ℕ, zero, suc, ◌+◌, ◌^◌, ◌≤◌, ◌<◌}
use native.Mathlib.Omega.{arith}
use native.Mathlib.Nat.{max-eq_right}
use lib.Dec.{eqb, ltb, leb}
use borrow.Author.Tests.{lt-ltb, le-ltb, ne_eqb, ltb-true}
use Rattle.answers.proofs.Tests.{split}
use Rattle.std.specs.Prelude.{Option, Some, None, is_some}
use Rattle.cid_ring.specs.declared.Cid.{Cid}
use Rattle.cid_ring.specs.declared.Ring.{Ring}
use Rattle.cid_ring.specs.Cids.{under, held, token_of, ring_of, retired, put, fit, fits, sound}
use Rattle.cid_ring.proofs.Places.{clash, same, under_below, under_past, ring_in, ring_below, ring_past}

-- both parts of a test that holds
pub both : (a b : Bool) → (a && b) ≡ true → (a ≡ true) × (b ≡ true)
both true b e = (refl, e)
both false b e = clash false e refl

-- where a number stands to the five numbers that have a place
pub three : {P : Type 0} (q : Ring) (n : ℕ) → (n < q.offset → P) → (q.offset ≤ n → n < q.offset + 5 → P) → (q.offset + 5 ≤ n → P) → P
three q n f g h = ⊎_elim f (λ l. ⊎_elim (g l) h (split n (q.offset + 5))) (split n q.offset)

pub put_offset : (q : Ring) (m : ℕ) (s : Option Cid) → (put q m s).offset ≡ q.offset
unfolding put ring_of
put_offset q m s = refl

pub retired_offset : (q : Ring) (to : ℕ) → q.offset ≤ to → (retired q to).offset ≡ to
unfolding retired ring_of
retired_offset q to l = max-eq_right l

-- a number that has a place is written, and no other
pub under_put : (q : Ring) (m : ℕ) (s : Option Cid) (n : ℕ) → q.offset ≤ m → m < q.offset + 5 → under (put q m s) n ≡ cond (eqb n m) s (under q n)
unfolding put
under_put q m s n l u =
    three q n
    (λ k. let d : n ≡ m → ⊥ = λ e. omega arith in rw (ne_eqb n m d) (ring_below f q.offset n k ∙ under_below q n k))
    (λ k v. ring_in f q.offset n k v)
    (λ k. let d : n ≡ m → ⊥ = λ e. omega arith in rw (ne_eqb n m d) (ring_past f q.offset n k ∙ under_past q n k))
  where
    f : ℕ → Option Cid
    f x = cond (eqb x m) s (under q x)

-- the numbers below are gone, and all others are as they were
pub under_retired : (q : Ring) (to n : ℕ) → q.offset ≤ to → under (retired q to) n ≡ cond (ltb n to) None (under q n)
unfolding retired
under_retired q to n l =
    rw (max-eq_right l)
    (⊎_elim
    (λ k. rw (lt-ltb n to k) (ring_below f to n k))
    (λ k.
    rw (le-ltb n to k)
    (⊎_elim
    (λ v. ring_in f to n k v ∙ rw (le-ltb n to k))
    (λ v. ring_past f to n v ∙ under_past q n (omega arith))
    (split n (to + 5))))
    (split n to))
  where
    f : ℕ → Option Cid
    f x = cond (ltb x to) None (under q x)

-- a number with no id is not held
not_held : (q : Ring) (n : ℕ) → held q n ≡ true → None ≡ under q n → ⊥
unfolding held
not_held q n e d =
    clash (is_some (under q n)) e (ap (λ (s : Option Cid). is_some s) (sym d))

-- at most five numbers are held, and none is below the active one
pub held_from : (q : Ring) (n : ℕ) → held q n ≡ true → q.offset ≤ n
held_from q n e = three q n (λ k. absurd (not_held q n e (under_below q n k))) (λ k v. k) (λ k. omega arith)

pub held_below : (q : Ring) (n : ℕ) → held q n ≡ true → n < q.offset + 5
held_below q n e = three q n (λ k. omega arith) (λ k v. v) (λ k. absurd (not_held q n e (under_past q n k)))

-- good form, said of every number
pub record Sound (q : Ring) : Type 0 where
  pub small : q.offset < 2 ^ 62
  pub active : held q q.offset ≡ true
  pub each : (n : ℕ) → fit (under q n) n ≡ true

pub vacant_fit : (n : ℕ) → fit None n ≡ true
unfolding fit
vacant_fit n = refl

fits_each : (q : Ring) (n k m : ℕ) → fits q n k ≡ true → n ≤ m → m < n + k → fit (under q m) m ≡ true
unfolding fits
fits_each q n zero m e l u = let z : ⊥ = omega arith in absurd z
fits_each q n (suc k) m e l u =
    let p = both (fit (under q n) n) (fits q (suc n) k) e in
    ⊎_elim (λ d. rw d p.0) (λ d. fits_each q (suc n) k m p.1 (omega (arith, d)) (omega arith)) (same m n)

fits_if : (q : Ring) (n k : ℕ) → ((m : ℕ) → fit (under q m) m ≡ true) → fits q n k ≡ true
unfolding fits
fits_if q n zero h = refl
fits_if q n (suc k) h = rw (h n) (fits_if q (suc n) k h)

pub sound_says : (q : Ring) → sound q ≡ true → Sound q
unfolding sound
sound_says q e =
    let p = both (ltb q.offset (2 ^ 62)) (held q q.offset && fits q q.offset 5) e in
    let s = both (held q q.offset) (fits q q.offset 5) p.1 in
    record {
      small = ltb-true q.offset (2 ^ 62) p.0;
      active = s.0;
      each = λ n.
          three q n
          (λ k. rw (← (under_below q n k)) (vacant_fit n))
          (λ k v. fits_each q q.offset 5 n s.1 k v)
          (λ k. rw (← (under_past q n k)) (vacant_fit n));
    }

pub sound_if : (q : Ring) → Sound q → sound q ≡ true
unfolding sound
sound_if q h = rw (lt-ltb q.offset (2 ^ 62) h.small, h.active, fits_if q q.offset 5 h.each)

-- a number that is held is below 2^62, and has a token unless it is 0
held_fit : (q : Ring) → Sound q → (n : ℕ) → held q n ≡ true → (ltb n (2 ^ 62) && (is_some (token_of (under q n)) || eqb n 0)) ≡ true
unfolding held fit
held_fit q h n e = of_id (under q n) e (h.each n)
  where
    of_id : (x : Option Cid) → is_some x ≡ true → fit x n ≡ true → (ltb n (2 ^ 62) && (is_some (token_of x) || eqb n 0)) ≡ true
    of_id None d f = clash false d refl
    of_id (Some s) d f = (both (ltb 0 s.len && leb s.len 20) _ f).1

pub held_small : (q : Ring) → Sound q → (n : ℕ) → held q n ≡ true → n < 2 ^ 62
held_small q h n e = ltb-true n (2 ^ 62) (both (ltb n (2 ^ 62)) _ (held_fit q h n e)).0

pub held_known : (q : Ring) → Sound q → (n : ℕ) → held q n ≡ true → 0 < n → is_some (token_of (under q n)) ≡ true
held_known q h n e l =
    let z : n ≡ 0 → ⊥ = λ x. omega arith in
    either (is_some (token_of (under q n))) (rw (ne_eqb n 0 z) at (both (ltb n (2 ^ 62)) _ (held_fit q h n e)).1)
  where
    either : (b : Bool) → (b || false) ≡ true → b ≡ true
    either true x = refl
    either false x = x
