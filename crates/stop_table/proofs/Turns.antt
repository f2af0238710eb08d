-- The pass over the places: a turn takes one place, and what is left of the pass comes to the whole.
-- Assumes nothing.
use mathlib.Core.Path.{◌≡◌, ap, sym, ◌∙◌}
use mathlib.Core.Bool.{◌&&◌}
use mathlib.Core.List.{List}
use Prim.Native.Nat.{ℕ, suc, ◌+◌, ◌-◌, ◌≤◌, ◌<◌}
use native.Mathlib.Numerals.{add-one}
use native.Mathlib.Omega.{arith}
use lib.Dec.{leb}
use lib.ListN.{length, get_or}
use borrow.Author.Tests.{leb-true}
use Rattle.stream_record.specs.declared.Stream.{Stream}
use Rattle.stream_record.specs.Record.{none}
use Rattle.stream_conn.specs.declared.Conn.{Conn}
use Rattle.stream_table.proofs.Tables.{by_cond, and_right}
use Rattle.stop_table.specs.declared.Pass.{Pass}
use Rattle.std.specs.Prelude.{Result}
use Rattle.answers.specs.declared.Refusal.{Refusal}
use Rattle.stop_table.specs.declared.Verdict.{Verdict}
use Rattle.stop_table.specs.Passing.{lent_places, started, pass_next, pass_on, verdict_of, judged}

-- no place is gone through that is not lent
pub lent_below : (len n : ℕ) → lent_places len n ≤ len
unfolding lent_places
lent_below len n = by_cond (λ (m : ℕ). m ≤ len) (leb n 256 && leb n len) n 0 (λ h. leb-true n len (and_right (leb n 256) _ h)) (λ _. omega arith)

module _ (c : Conn) (id : ℕ) (ys : List Stream) where
  pub pass_turn : (i m : ℕ) (a : Pass) → i < m → pass_on c id ys i (m - i) a ≡ pass_on c id ys (i + 1) (m - (i + 1)) (pass_next c id i (get_or ys i none) a)
  pass_turn i m a h =
      let e : m - i ≡ suc (m - (i + 1)) = omega arith in
      ap (λ (k : ℕ). pass_on c id ys i k a) e ∙ ap (λ (j : ℕ). pass_on c id ys j (m - (i + 1)) (pass_next c id i (get_or ys i none) a)) (sym (add-one i))

  pub pass_end : (i m : ℕ) (a : Pass) → m ≤ i → pass_on c id ys i (m - i) a ≡ a
  pass_end i m a h =
      let e : m - i ≡ 0 = omega arith in
      ap (λ (k : ℕ). pass_on c id ys i k a) e

pub judge_is : (c : Conn) (ys : List Stream) (count id : ℕ) {n : ℕ} {a : Pass} {r : Result Verdict Refusal} → n ≡ lent_places (length ys) count → a ≡ started c (length ys) count
    → r ≡ verdict_of c id (pass_on c id ys 0 n a) → r ≡ judged c ys count id
unfolding judged
judge_is c ys count id {n} {a} en ea er =
    er
    ∙ ap (λ (m : ℕ). verdict_of c id (pass_on c id ys 0 m a)) en
    ∙ ap (λ (p : Pass). verdict_of c id (pass_on c id ys 0 (lent_places (length ys) count) p)) ea
