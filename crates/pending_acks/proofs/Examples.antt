-- Worked cases, by computing: a number comes in, joins its neighbours, finds no place; and a removal. The last holds for every full list: by
-- the laws of `insert`, as no computing is wanted of 64 ranges.
use mathlib.Core.Path.{◌≡◌, refl}
use mathlib.Core.Bool.{true, false}
use mathlib.Core.List.{List, [], ◌∷◌}
use mathlib.Core.Logic.{⊎_elim}
use Prim.Native.Nat.{ℕ, zero, suc, ◌+◌, ◌/◌, ◌^◌, ◌<◌}
use native.Mathlib.Omega.{arith}
use lib.ListN.{length, get_or}
use borrow.Author.Tests.{lt-ltb, le-ltb, le-leb, lt-leb}
use Rattle.range_list.specs.Ranges.{Range, range_at, read, sound, well_formed, In}
use Rattle.range_list.proofs.Sound.{by_bool, Sound, sound_parts, Formed, formed}
use Rattle.range_list.proofs.Canon.{in_least}
use Rattle.range_list.proofs.Kept.{over_same}
use Rattle.range_list.proofs.Laws.{length_read}
use Rattle.range_edit.specs.Edits.{insert, covers, done}
use Rattle.std.specs.Prelude.{Ok, Some, None}
use Rattle.answers.specs.declared.Refusal.TheVariants.{Range as OutOfRange, Full}
use Rattle.range_edit.proofs.Changes.{covers_in}
use Rattle.pending_acks.specs.Acks.{left, refuse, stay, insert_one, subtract_below}

-- 7 into the empty set, and once more
pub first : insert_one (0 ∷ 0 ∷ []) 0 7 ≡ left (Ok (record { count = 1; new = true; dropped = None })) (7 ∷ 8 ∷ [])
unfolding insert_one
first = refl

pub again : insert_one (7 ∷ 8 ∷ []) 1 7 ≡ stay (7 ∷ 8 ∷ []) 1
unfolding insert_one
again = refl

-- 4 between 3 and 5 makes one range of three numbers; what lies past it in the list is as it was
pub joins : insert_one (3 ∷ 4 ∷ 5 ∷ 6 ∷ []) 2 4 ≡ left (Ok (record { count = 1; new = true; dropped = None })) (3 ∷ 6 ∷ 5 ∷ 6 ∷ [])
unfolding insert_one
joins = refl

-- a list of one place, and a second range
pub no_place : insert_one (3 ∷ 4 ∷ []) 1 9 ≡ refuse Full (3 ∷ 4 ∷ [])
unfolding insert_one
no_place = refl

-- k ranges of one number each, from s on
abbrev ladder : ℕ → ℕ → List ℕ
ladder s zero = []
ladder s (suc k) = s ∷ (s + 1) ∷ ladder (s + 2) k

-- a count above 64 is no set of ours
pub too_many : insert_one (ladder 10 65) 65 9 ≡ refuse OutOfRange (ladder 10 65)
unfolding insert_one
too_many = refl

-- up to 4, with it, goes: of 3..9 what is above stays
pub up_to_4 : subtract_below (1 ∷ 2 ∷ 3 ∷ 9 ∷ []) 2 4 ≡ done (Ok (record { count = 1; changed = true })) (5 ∷ 9 ∷ 3 ∷ 9 ∷ [])
unfolding subtract_below
up_to_4 = refl

pub nothing_below : subtract_below (3 ∷ 9 ∷ []) 1 2 ≡ done (Ok (record { count = 1; changed = false })) (3 ∷ 9 ∷ [])
unfolding subtract_below
nothing_below = refl

-- a range that starts below the first of a sound list and joins none goes before it
module _ (x least : ℕ) (r : Range) (rs : List Range) (s : sound least (r ∷ rs) ≡ true) (low : x + 1 < r.lo) where
  parts : Sound least r rs
  parts = sound_parts least r rs s

  absent : In x (r ∷ rs) → ⊥
  absent = ⊎_elim (λ a. omega arith) (λ k. omega (arith, in_least (r.hi + 1) x rs parts.rest k, parts.some))

  uncovered : covers x (x + 1) (r ∷ rs) ≡ false
  uncovered = by_bool (covers x (x + 1) (r ∷ rs)) (λ t. absurd (absent (covers_in x x (x + 1) (r ∷ rs) t (omega arith) (omega arith)))) (λ t. t)

  goes_first : insert x (x + 1) (r ∷ rs) ≡ record { lo = x; hi = x + 1 } ∷ r ∷ rs
  goes_first = rw (le-ltb r.hi x (omega (arith, parts.some)), lt-ltb (x + 1) r.lo low)

module _ (l : List ℕ) (k x : ℕ) (e : suc k ≡ 64) (w : well_formed l (suc k) ≡ true) (low : x + 1 < get_or l 0 0) where
  abbrev whole : Formed l (suc k)
  whole = formed l (suc k) w

  drops_lowest : insert_one l (suc k) x ≡ left (Ok (record { count = suc k; new = true; dropped = Some (record { start = x; end = x + 1 }) })) l
  unfolding insert_one
  drops_lowest =
      let r = range_at l 0 in
      let rs = read l 1 k in
      let p = parts x 0 r rs whole.sound low in
      let n : length (read l 0 (suc k)) ≡ suc k = length_read l 0 (suc k) in
      rw (
        lt-ltb x (2 ^ 62) (omega (arith, p.some, p.upto)),
        le-leb (suc k) 64 (omega arith),
        w,
        uncovered x 0 r rs whole.sound low,
        goes_first x 0 r rs whole.sound low,
        lt-leb (length (record { lo = x; hi = x + 1 } ∷ r ∷ rs)) 64 (omega arith),
        le-leb (length (r ∷ rs)) (length l / 2) (omega (arith, whole.room)),
        n,
        over_same l (suc k) whole.room,
      )

-- 64 ranges, and a number below them all that joins none: it is taken, it is the lowest, and it is dropped at once
pub drops_itself : (l : List ℕ) (x : ℕ) → well_formed l 64 ≡ true → x + 1 < get_or l 0 0
    → insert_one l 64 x ≡ left (Ok (record { count = 64; new = true; dropped = Some (record { start = x; end = x + 1 }) })) l
drops_itself l x w low = drops_lowest l 63 x refl w low
