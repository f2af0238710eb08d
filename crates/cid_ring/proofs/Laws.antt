-- One law for each return of the steps on the map: it ends in `result ≡ definition`, and its premises are the code's tests and what its callees ensure.
-- Assumes nothing.
use mathlib.Core.Path.{◌≡◌, ap, sym, ◌∙◌}
use mathlib.Core.Bool.{Bool, true, false, not}
use Prim.Native.Nat.{ℕ, suc, ◌+◌, ◌-◌, ◌%◌, ◌^◌, ◌≤◌, ◌<◌}
use native.Mathlib.Omega.{arith}
use native.Mathlib.Numerals.{add-one}
use lib.ListN.{get_or}
use borrow.Author.Tests.{lt-ltb, le-ltb, not-true, not-false}
use Rattle.std.specs.Prelude.{Option, None, is_some}
use Rattle.cid_ring.specs.declared.Cid.{Cid}
use Rattle.cid_ring.specs.declared.Ring.{Ring}
use Rattle.cid_ring.specs.Cids.{under, held, first, fit, fits, sound}
use Rattle.cid_ring.proofs.Places.{under_in, under_below, under_past}

module _ (q : Ring) (n : ℕ) where
  pub slot_below : {r : Option Cid} → n < q.offset → r ≡ None → r ≡ under q n
  slot_below l e = e ∙ under_below q n l

  pub slot_past : {r : Option Cid} → q.offset ≤ n → 5 ≤ n - q.offset → r ≡ None → r ≡ under q n
  slot_past l u e = e ∙ under_past q n (omega arith)

  pub slot_in : q.offset ≤ n → n - q.offset < 5 → get_or q.slots (n % 5) None ≡ under q n
  slot_in l u = under_in q n l (omega arith)

  pub held_is : {s : Option Cid} → s ≡ under q n → is_some s ≡ held q n
  unfolding held
  held_is e = ap (λ (x : Option Cid). is_some x) e

pub ruleset slots = (slot_below, slot_past, slot_in, held_is)

-- a turn of the search: what is left of it finds what the whole finds
module _ (h : ℕ → Bool) (from past n : ℕ) (inv : first h from (past - from) ≡ first h n (past - n)) where
  pub first_hit : {b : Bool} → n < past → b ≡ h n → b ≡ true → n ≡ first h from (past - from)
  unfolding first
  first_hit l e t =
      let z : past - n ≡ suc (past - n - 1) = omega arith in
      let y : h n ≡ true = sym e ∙ t in
      sym (inv ∙ rw (z, y))

  pub first_miss : {b : Bool} → n < past → b ≡ h n → b ≡ false → first h from (past - from) ≡ first h (n + 1) (past - (n + 1))
  unfolding first
  first_miss l e t =
      let z : past - n ≡ suc (past - n - 1) = omega arith in
      let y : past - (n + 1) ≡ past - n - 1 = omega arith in
      let x : h n ≡ false = sym e ∙ t in
      inv ∙ rw (z, x, y, add-one)

  pub first_end : past ≤ n → n ≡ first h from (past - from)
  unfolding first
  first_end l = let z : past - n ≡ 0 = omega arith in sym (inv ∙ rw z)

pub ruleset firsts = (first_hit, first_miss, first_end)

-- a turn of the check: what is left of it says what the whole says
module _ (q : Ring) (n : ℕ) (inv : fits q q.offset 5 ≡ fits q n (q.offset + 5 - n)) where
  pub fits_miss : {b : Bool} {s : Option Cid} → n < q.offset + 5 → s ≡ under q n → b ≡ fit s n → not b ≡ true → false ≡ fits q q.offset 5
  unfolding fits
  fits_miss l es e t =
      let z : q.offset + 5 - n ≡ suc (q.offset + 4 - n) = omega arith in
      let y : fit (under q n) n ≡ false = ap (λ (x : Option Cid). fit x n) (sym es) ∙ sym e ∙ not-true _ t in
      sym (inv ∙ rw (z, y))

  pub fits_more : {b : Bool} {s : Option Cid} → n < q.offset + 5 → s ≡ under q n → b ≡ fit s n → not b ≡ false
      → fits q q.offset 5 ≡ fits q (n + 1) (q.offset + 5 - (n + 1))
  unfolding fits
  fits_more l es e t =
      let z : q.offset + 5 - n ≡ suc (q.offset + 4 - n) = omega arith in
      let y : q.offset + 5 - (n + 1) ≡ q.offset + 4 - n = omega arith in
      let w : fit (under q n) n ≡ true = ap (λ (x : Option Cid). fit x n) (sym es) ∙ sym e ∙ not-false _ t in
      inv ∙ rw (z, w, y, add-one)

  pub fits_end : q.offset + 5 ≤ n → true ≡ fits q q.offset 5
  unfolding fits
  fits_end l = let z : q.offset + 5 - n ≡ 0 = omega arith in sym (inv ∙ rw z)

pub fits_none : (q : Ring) → fits q q.offset 5 ≡ fits q q.offset (q.offset + 5 - q.offset)
fits_none q = let z : q.offset + 5 - q.offset ≡ 5 = omega arith in rw z

pub ruleset checks = (fits_none, fits_miss, fits_more, fits_end)

module _ (q : Ring) where
  pub sound_large : 2 ^ 62 ≤ q.offset → false ≡ sound q
  unfolding sound
  sound_large l = rw (le-ltb q.offset (2 ^ 62) l)

  pub sound_vacant : {b : Bool} → q.offset < 2 ^ 62 → b ≡ held q q.offset → not b ≡ true → false ≡ sound q
  unfolding sound
  sound_vacant l e f = let g : held q q.offset ≡ false = sym e ∙ not-true _ f in rw (lt-ltb q.offset (2 ^ 62) l, g)

  pub sound_rest : {b r : Bool} → q.offset < 2 ^ 62 → b ≡ held q q.offset → not b ≡ false → r ≡ fits q q.offset 5 → r ≡ sound q
  unfolding sound
  sound_rest l e f d = let g : held q q.offset ≡ true = sym e ∙ not-false _ f in d ∙ sym (rw (lt-ltb q.offset (2 ^ 62) l, g))

pub ruleset sounds = (sound_large, sound_vacant, sound_rest)
