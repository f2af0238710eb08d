-- One law for each return. They hold by rewriting the definition with the test and with what the calls promise. Assumes nothing.
use mathlib.Core.Path.{◌≡◌, refl, ◌∙◌}
use mathlib.Core.List.{List, [], ◌∷◌}
use Prim.Native.Nat.{ℕ, suc, ◌+◌, ◌-◌, ◌*◌, ◌/◌, ◌≤◌, ◌<◌}
use native.Mathlib.Numerals.{add-one}
use native.Mathlib.Nat.{sub-zero}
use native.Mathlib.Omega.{arith}
use lib.ListN.{length, get_or, drop, length-drop}
use lib.Seq.{drop-cons}
use borrow.Author.Tests.{eq-eqb, ne_eqb}
use Rattle.std.specs.Prelude.{Result, Ok, Err}
use Rattle.answers.specs.Answers.{OK, number}
use Rattle.answers.specs.declared.Refusal.{Refusal}
use Rattle.answers.specs.declared.Refusal.TheVariants.{Range as OutOfRange}
use Rattle.codes.specs.Codes.{DD_NEW, RS_REPLACE}
use Rattle.dedup.specs.declared.Dedup.{Dedup}
use Rattle.dedup.specs.declared.Inserted.{Inserted}
use Rattle.dedup.specs.Dedup.{fresh, inserted}
use Rattle.range_edit.specs.declared.Changed.{Changed}
use Rattle.range_edit.specs.declared.Replaced.{Replaced}
use Rattle.range_edit.specs.Edits as edits
use Rattle.range_set.specs.declared.Popped.{Popped}
use Rattle.range_set.specs.Set.{insert_range, replace_range, add_set}
use Rattle.said.specs.declared.Said.{Said}
use Rattle.said.specs.Said.{said_plain, said_number, said_two, bit_of}
use Rattle.drive_sets.specs.declared.Noted.{Noted}
use Rattle.drive_sets.specs.declared.Did.{Did}
use Rattle.drive_sets.specs.Sets.{began, note_of, plainly, valued, value_of, told_of, popped_of, replaced_of, became_of, done, both, edit_of, set_of, Made, made, filled, renew_of}

-- ---- dd
pub begin_is : {s : Said} {w : Dedup} → s ≡ said_plain OK → w ≡ fresh → record { said = s; dedup = w } ≡ began
begin_is f g = rw (f, g)

module _ (code n : ℕ) (d : Dedup) where
  pub note_new : {r : Noted} → code ≡ DD_NEW → r ≡ began → r ≡ note_of code n d
  unfolding note_of
  note_new e f = rw (eq-eqb code DD_NEW e) f

  pub note_insert : {r : Result Inserted Refusal} {i : Inserted} {s : Said} {k : ℕ} → (code ≡ DD_NEW → ⊥) → r ≡ inserted d n → r ≡ Ok i
      → k ≡ bit_of i.seen → s ≡ said_number OK k → record { said = s; dedup = i.dedup } ≡ note_of code n d
  unfolding note_of
  note_insert e f v g h = rw (ne_eqb code DD_NEW e, h, g, ← f, v)

  pub note_refused : {r : Result Inserted Refusal} {why : Refusal} {s : Said} {k : ℕ} → (code ≡ DD_NEW → ⊥) → r ≡ inserted d n → r ≡ Err why
      → k ≡ number why → s ≡ said_number k 0 → record { said = s; dedup = d } ≡ note_of code n d
  unfolding note_of
  note_refused e f v g h = rw (ne_eqb code DD_NEW e, h, g, ← f, v)

-- ---- lists of ranges
pub plain_is : (answer n : ℕ) {s : Said} → s ≡ said_plain answer → ◌≡◌ {A = Did} (record { said = s; count = n; parts = 0 }) (plainly answer n)
plain_is answer n e = rw e

pub number_is : (answer x n : ℕ) {s : Said} → s ≡ said_number answer x → ◌≡◌ {A = Did} (record { said = s; count = n; parts = 0 }) (valued answer x n)
number_is answer x n e = rw e

-- ---- the answers of results

module _ {r : Result ℕ Refusal} {d : Did} (n : ℕ) where
  pub value_ok : {x : ℕ} → r ≡ Ok x → d ≡ valued OK x n → d ≡ value_of r n
  value_ok e f = rw (e, f)

  pub value_err : {why : Refusal} {k : ℕ} → r ≡ Err why → k ≡ number why → d ≡ valued k 0 n → d ≡ value_of r n
  value_err e f g = rw (e, g, f)

module _ {r : Result Changed Refusal} {d : Did} (n : ℕ) where
  pub told_ok : {x : Changed} {k : ℕ} → r ≡ Ok x → k ≡ bit_of x.changed → d ≡ valued OK k x.count → d ≡ told_of r n
  told_ok e f g = rw (e, g, f)

  pub told_err : {why : Refusal} {k : ℕ} → r ≡ Err why → k ≡ number why → d ≡ valued k 0 n → d ≡ told_of r n
  told_err e f g = rw (e, g, f)

  pub became_ok : {x : Changed} → r ≡ Ok x → d ≡ plainly OK x.count → d ≡ became_of r n
  became_ok e f = rw (e, f)

  pub became_err : {why : Refusal} {k : ℕ} → r ≡ Err why → k ≡ number why → d ≡ plainly k n → d ≡ became_of r n
  became_err e f g = rw (e, g, f)

module _ {r : Result Popped Refusal} {s : Said} (n : ℕ) where
  pub popped_ok : {x : Popped} → r ≡ Ok x → s ≡ said_two OK x.start x.end → record { said = s; count = x.count; parts = 0 } ≡ popped_of r n
  popped_ok e f = rw (e, f)

  pub popped_err : {why : Refusal} {k : ℕ} → r ≡ Err why → k ≡ number why → s ≡ said_two k 0 0 → record { said = s; count = n; parts = 0 } ≡ popped_of r n
  popped_err e f g = rw (e, g, f)

module _ {r : Result Replaced Refusal} (n : ℕ) where
  pub replaced_ok : {x : Replaced} {d : Did} → r ≡ Ok x → d ≡ plainly OK x.count → record { said = d.said; count = d.count; parts = x.parts } ≡ replaced_of r n
  replaced_ok e f = rw (e, f)

  pub replaced_err : {why : Refusal} {k : ℕ} {d : Did} → r ≡ Err why → k ≡ number why → d ≡ plainly k n → d ≡ replaced_of r n
  replaced_err e f g = rw (e, g, f)

pub ruleset basics = (begin_is, note_new, note_insert, note_refused, plain_is, number_is)

pub ruleset results = (value_ok, value_err, told_ok, told_err, became_ok, became_err, popped_ok, popped_err, replaced_ok, replaced_err)

-- ---- rs: the changes
module _ (code : ℕ) (ws : List ℕ) (w : ℕ) (l : List ℕ) (n : ℕ) (m : List ℕ) where
  pub set_replace : {r : Result Replaced Refusal} {l1 m1 : List ℕ} {d : Did} → code ≡ RS_REPLACE
      → edits.both r l1 m1 ≡ replace_range l n (get_or ws 0 0) (get_or ws 1 0) m → d ≡ replaced_of r n → both d l1 m1 ≡ set_of code ws w l n m
  unfolding set_of
  set_replace t e ed = rw (eq-eqb code RS_REPLACE t, ← e, ed)

  pub set_edit : {r : Did} {l1 : List ℕ} → (code ≡ RS_REPLACE → ⊥) → done r l1 ≡ edit_of code (get_or ws 0 0) (get_or ws 1 0) ws (w / 2) l n → both r l1 m ≡ set_of code ws w l n m
  unfolding set_of
  set_edit t e = rw (ne_eqb code RS_REPLACE t, ← e)

pub ruleset sets = (set_replace, set_edit)

-- ---- rs.new

-- fewer than two words make no range
short_list : (ws : List ℕ) (k : ℕ) (m : List ℕ) (n : ℕ) → length ws < 2 → made (Err OutOfRange) m ≡ filled (suc k) ws m n
unfolding filled
short_list [] k m n h = refl
short_list (a ∷ []) k m n h = refl
short_list (a ∷ b ∷ ws) k m n h = absurd (omega arith)

-- the next range is the next two words
next_pair : (ws : List ℕ) (i : ℕ) → i < length ws / 2 → drop (2 * i) ws ≡ get_or ws (2 * i) 0 ∷ get_or ws (2 * i + 1) 0 ∷ drop (2 * (i + 1)) ws
next_pair ws i h =
    let e : 2 * (i + 1) ≡ suc (2 * i + 1) = omega arith in
    rw (drop-cons ws (2 * i) 0 (omega arith), ← add-one (2 * i), drop-cons ws (2 * i + 1) 0 (omega arith), e)

pub fill_start : (ws : List ℕ) (k : ℕ) (m : List ℕ) → filled (k - 0) (drop (2 * 0) ws) m 0 ≡ filled k ws m 0
fill_start ws k m = rw sub-zero

-- what is left of the ranges makes the same set of what is there already as all of them of the empty set; `all` is that
module _ (ws : List ℕ) (k i : ℕ) (m : List ℕ) (n : ℕ) {all : Made} (left : filled (k - i) (drop (2 * i) ws) m n ≡ all) where
  pub fill_end : i ≡ k → made (Ok n) m ≡ all
  unfolding filled
  fill_end u =
      let z : k - i ≡ 0 = omega arith in
      rw z at left

  module _ (more : i < k) where
    some : k - i ≡ suc (k - (i + 1))
    some = omega arith

    pub fill_short : length ws / 2 ≤ i → made (Err OutOfRange) m ≡ all
    fill_short h =
        let z : length (drop (2 * i) ws) < 2 = rw length-drop (omega arith) in
        short_list (drop (2 * i) ws) (k - (i + 1)) m n z ∙ (rw some at left)

    module _ (h : i < length ws / 2) where
      pub fill_refused : {why : Refusal} {m1 : List ℕ} → edits.done (Err why) m1 ≡ insert_range m n (get_or ws (2 * i) 0) (get_or ws (2 * i + 1) 0) → made (Err why) m1 ≡ all
      unfolding filled
      fill_refused e = rw (some, next_pair ws i h, ← e) at left

      pub fill_next : {r : Changed} {m1 : List ℕ} → edits.done (Ok r) m1 ≡ insert_range m n (get_or ws (2 * i) 0) (get_or ws (2 * i + 1) 0)
          → filled (k - (i + 1)) (drop (2 * (i + 1)) ws) m1 r.count ≡ all
      unfolding filled
      fill_next e = rw (some, next_pair ws i h, ← e) at left

module _ (ws : List ℕ) (w : ℕ) (l : List ℕ) (n : ℕ) (m : List ℕ) {m1 : List ℕ} where
  pub renew_refused : {why : Refusal} {k : ℕ} {d : Did} → made (Err why) m1 ≡ filled (w / 2) ws m 0 → k ≡ number why → d ≡ plainly k n → both d l m1 ≡ renew_of ws w l n m
  unfolding renew_of
  renew_refused e f g = rw (← e, g, f)

  pub renew_made : {k : ℕ} {r : Result Changed Refusal} {l1 : List ℕ} {d : Did} → made (Ok k) m1 ≡ filled (w / 2) ws m 0 → edits.done r l1 ≡ add_set l 0 m1 k
      → d ≡ became_of r n → both d l1 m1 ≡ renew_of ws w l n m
  unfolding renew_of
  renew_made e f g = rw (← e, ← f, g)
