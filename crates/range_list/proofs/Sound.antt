-- What a sound list says of its first range and of the rest, and what makes one: the tests of `sound`, taken apart.
-- Assumes nothing.
use mathlib.Core.Path.{◌≡◌, refl}
use mathlib.Core.Bool.{Bool, true, false, ◌&&◌, false≢true}
use mathlib.Core.List.{List, [], ◌∷◌}
use Prim.Native.Nat.{ℕ, zero, suc, ◌+◌, ◌/◌, ◌^◌, ◌≤◌, ◌<◌}
use native.Mathlib.Omega.{arith}
use lib.ListN.{length, drop}
use lib.Dec.{ltb, leb}
use borrow.Author.Tests.{lt-ltb, le-leb, ltb-true, ltb-false, leb-true}
use Rattle.range_list.specs.Ranges.{Range, read, sound, well_formed}

-- two cases by an order, each with the test's answer
pub by_lt : {C : Type 0} (a b : ℕ) → (a < b → ltb a b ≡ true → C) → (b ≤ a → ltb a b ≡ false → C) → C
by_lt {C} a b f g = go (ltb a b) refl
  where
    go : (t : Bool) → ltb a b ≡ t → C
    go true e = f (ltb-true a b e) e
    go false e = g (ltb-false a b e) e

pub by_bool : {C : Type 0} (b : Bool) → (b ≡ true → C) → (b ≡ false → C) → C
by_bool true f g = f refl
by_bool false f g = g refl

-- what a sound list says, and what makes one
pub record Sound (least : ℕ) (r : Range) (rs : List Range) : Type 0 where
  pub from : least ≤ r.lo
  pub some : r.lo < r.hi
  pub upto : r.hi ≤ 2 ^ 62
  pub rest : sound (r.hi + 1) rs ≡ true

pub both : (a b : Bool) → (a && b) ≡ true → (a ≡ true) × (b ≡ true)
both true b e = (refl, e)
both false b e = (e, absurd (false≢true e))

pub sound_parts : (least : ℕ) (r : Range) (rs : List Range) → sound least (r ∷ rs) ≡ true → Sound least r rs
sound_parts least r rs e =
    let p : (leb least r.lo ≡ true) × ((ltb r.lo r.hi && (leb r.hi (2 ^ 62) && sound (r.hi + 1) rs)) ≡ true) = both _ _ e in
    let q : (ltb r.lo r.hi ≡ true) × ((leb r.hi (2 ^ 62) && sound (r.hi + 1) rs) ≡ true) = both _ _ p.1 in
    let w : (leb r.hi (2 ^ 62) ≡ true) × (sound (r.hi + 1) rs ≡ true) = both _ _ q.1 in
    record { from = leb-true _ _ p.0; some = ltb-true _ _ q.0; upto = leb-true _ _ w.0; rest = w.1 }

pub sound_made : (least : ℕ) (r : Range) (rs : List Range) → Sound least r rs → sound least (r ∷ rs) ≡ true
sound_made least r rs p = simp (le-leb _ _ p.from, lt-ltb _ _ p.some, le-leb _ _ p.upto) p.rest

pub sound_weaker : (a b : ℕ) (rs : List Range) → a ≤ b → sound b rs ≡ true → sound a rs ≡ true
sound_weaker a b [] h e = refl
sound_weaker a b (r ∷ rs) h e =
    let p : Sound b r rs = sound_parts b r rs e in
    sound_made a r rs (record { from = omega arith; some = p.some; upto = p.upto; rest = p.rest })

pub sound_drop : (least k : ℕ) (rs : List Range) → sound least rs ≡ true → sound 0 (drop k rs) ≡ true
sound_drop least zero rs q = sound_weaker 0 least rs (omega arith) q
sound_drop least (suc k) [] q = refl
sound_drop least (suc k) (r ∷ rs) q = let p : Sound least r rs = sound_parts least r rs q in sound_drop (r.hi + 1) k rs p.rest

-- what `well_formed` has shown
pub record Formed (l : List ℕ) (n : ℕ) : Type 0 where
  pub room : n ≤ length l / 2
  pub sound : sound 0 (read l 0 n) ≡ true
  pub formed : well_formed l n ≡ true

pub formed : (l : List ℕ) (n : ℕ) → well_formed l n ≡ true → Formed l n
formed l n w = let p = both _ _ w in record { room = leb-true _ _ p.0; sound = p.1; formed = w }
