-- Each call keeps good form, on any list: a set that is well formed and of at most 64 ranges is so again, as `insert` and `remove` keep a list
-- sound, and so does the loss of its first range. Assumes nothing.
use mathlib.Core.Path.{◌≡◌, subst}
use mathlib.Core.Bool.{true}
use mathlib.Core.List.{List, ◌∷◌}
use Prim.Native.Nat.{ℕ, ◌+◌, ◌≤◌}
use native.Mathlib.Omega.{arith}
use Prim.{Unit, tt}
use Rattle.std.specs.Prelude.{Result, Ok, Err}
use Rattle.answers.specs.declared.Refusal.{Refusal}
use Rattle.range_edit.specs.declared.Changed.{Changed}
use Rattle.pending_acks.specs.declared.Recorded.{Recorded}
use Rattle.range_list.specs.Ranges.{Range, read, sound, well_formed}
use Rattle.range_list.proofs.Sound.{sound_parts, sound_weaker, formed}
use Rattle.range_list.proofs.Kept.{formed_over}
use Rattle.range_list.proofs.Laws.{length_read}
use Rattle.range_edit.specs.Edits.{insert, remove}
use Rattle.range_edit.proofs.Insert.{insert_sound}
use Rattle.range_edit.proofs.Remove.{remove_sound}
use Rattle.pending_acks.specs.Acks.{insert_one, subtract_below}
use Rattle.pending_acks.proofs.Sets.{remove_length, Usable, insert_cases, below_cases}

-- l holds a set of n ranges
pub record Good (l : List ℕ) (n : ℕ) : Type 0 where
  pub few : n ≤ 64
  pub formed : well_formed l n ≡ true

-- what a call that went through leaves is such a set
abbrev InsertGood : Result Recorded Refusal → List ℕ → Type 0
InsertGood (Ok r) m = Good m r.count
InsertGood (Err why) m = Unit {0}

abbrev BelowGood : Result Changed Refusal → List ℕ → Type 0
BelowGood (Ok r) m = Good m r.count
BelowGood (Err why) m = Unit {0}

module _ (l : List ℕ) (n x : ℕ) where
  abbrev with : List Range
  with = insert x (x + 1) (read l 0 n)

  with_sound : Usable l n x → sound 0 with ≡ true
  with_sound g = insert_sound 0 x (x + 1) (read l 0 n) (omega arith) (omega arith) (omega (arith, g.number)) (formed l n g.formed).sound

  insert_good : InsertGood (insert_one l n x).out (insert_one l n x).mem
  insert_good =
      insert_cases l n x (λ d. InsertGood d.out d.mem) tt tt
      (λ g u. record { few = g.few; formed = g.formed })
      (λ g u few room. record { few = few; formed = formed_over with l room (with_sound g) })
      (λ g u r rs q few room.
      let s : sound 0 (r ∷ rs) ≡ true = subst (λ (qs : List Range). sound 0 qs ≡ true) q (with_sound g) in
      record { few = omega arith; formed = formed_over rs l room (sound_weaker 0 (r.hi + 1) rs (omega arith) (sound_parts 0 r rs s).rest) })

  pub insert_keeps : (r : Recorded) → (insert_one l n x).out ≡ Ok r → Good (insert_one l n x).mem r.count
  insert_keeps r e = subst (λ o. InsertGood o (insert_one l n x).mem) e insert_good

  below_good : BelowGood (subtract_below l n x).out (subtract_below l n x).mem
  below_good =
      below_cases l n x (λ d. BelowGood d.out d.mem) tt
      (λ g u. record { few = g.few; formed = g.formed })
      (λ g u.
      let f = remove_length (x + 1) (read l 0 n) in
      let z = length_read l 0 n in
      let w = formed l n g.formed in
      record {
        few = omega (arith, f, z, g.few);
        formed = formed_over (remove 0 (x + 1) (read l 0 n)) l (omega (arith, f, z, w.room)) (remove_sound 0 0 (x + 1) (read l 0 n) (omega arith) w.sound);
      })

  pub below_keeps : (r : Changed) → (subtract_below l n x).out ≡ Ok r → Good (subtract_below l n x).mem r.count
  below_keeps r e = subst (λ o. BelowGood o (subtract_below l n x).mem) e below_good
