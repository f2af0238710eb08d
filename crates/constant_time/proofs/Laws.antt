-- The OR of the XORs is 0 exactly when the strings agree: an OR is 0 where both sides are, and an XOR where both sides are one number.
use Prim.Native.Nat.{ℕ, zero, suc, ◌+◌, ◌<◌}
use mathlib.Core.Path.{◌≡◌, refl, ap, sym}
use mathlib.Core.Bool.{Bool, true, false}
use mathlib.Core.List.{List, [], ◌∷◌}
use native.Mathlib.Omega.{arith}
use native.Mathlib.Numerals.{add-one}
use borrow.Author.Count.{below_more}
use lib.ListN.{length, get_or}
use lib.Seq.{ext_get_or}
use lib.Dec.{eqb}
use lib.Bits.{bit_or, bit_xor, or_add_and, and_le_l, and_le_r, xor_add_and, xor_self}
use borrow.Author.Tests.{eq-eqb, eqb-true}
use Rattle.constant_time.specs.Agree.{agree, bits_of, turns_of, differs}
use Rattle.constant_time.specs.declared.Difference.{Difference}

or_left : (a b : ℕ) → bit_or a b ≡ 0 → a ≡ 0
or_left a b h = omega (arith, or_add_and a b, and_le_r a b)

or_right : (a b : ℕ) → bit_or a b ≡ 0 → b ≡ 0
or_right a b h = omega (arith, or_add_and a b, and_le_l a b)

xor_eq : (a b : ℕ) → bit_xor a b ≡ 0 → a ≡ b
xor_eq a b h = omega (arith, xor_add_and a b, and_le_l a b, and_le_r a b)

-- no bit differs: each byte is the same
pub bits_each : (a b : List ℕ) (n : ℕ) → bits_of a b n ≡ 0 → (k : ℕ) → k < n → get_or a k 0 ≡ get_or b k 0
unfolding bits_of
bits_each a b zero z k h = let y : ⊥ = omega arith in absurd y
bits_each a b (suc n) z k h =
    let x = bit_xor (get_or a n 0) (get_or b n 0) in
    below_more (λ (j : ℕ). get_or a j 0 ≡ get_or b j 0) n (bits_each a b n (or_left (bits_of a b n) x z)) (xor_eq (get_or a n 0) (get_or b n 0) (or_right (bits_of a b n) x z)) k (omega arith)

pub bits_none : (a : List ℕ) (n : ℕ) → bits_of a a n ≡ 0
unfolding bits_of
bits_none a zero = refl
bits_none a (suc n) = rw (bits_none a n, xor_self)

-- before the first turn, one turn of the pass, and its end
pub bits_none_yet : (a b : List ℕ) → 0 ≡ bits_of a b 0
unfolding bits_of
bits_none_yet a b = refl

bits_on : (a b : List ℕ) (n : ℕ) → bit_or (bits_of a b n) (bit_xor (get_or a n 0) (get_or b n 0)) ≡ bits_of a b (n + 1)
unfolding bits_of
bits_on a b n = rw (add-one n)

pub bits_more : (a b : List ℕ) (n : ℕ) {m d x y : ℕ} → m ≡ n + 1 → d ≡ bits_of a b n → x ≡ get_or a n 0 → y ≡ get_or b n 0
    → bit_or d (bit_xor x y) ≡ bits_of a b m
bits_more a b n e f g h = rw (e, f, g, h) (bits_on a b n)

pub passed : (a b : List ℕ) {d n : ℕ} → d ≡ bits_of a b n → n ≡ length a → record { bits = d; turns = n } ≡ differs a b
unfolding turns_of
passed a b e q = rw (e, q)

never : {A : Type 0} → false ≡ true → A
never e = let z : ◌≡◌ {A = ℕ} 0 1 = cc in let y : ⊥ = omega arith in absurd y

pub agree_equal : (a b : List ℕ) → agree a b ≡ true → a ≡ b
unfolding agree
agree_equal [] [] e = refl
agree_equal [] (y ∷ b) e = never e
agree_equal (x ∷ a) [] e = never e
agree_equal (x ∷ a) (y ∷ b) e = first (agree_equal a b) (eqb x y) refl where
  first : (agree a b ≡ true → a ≡ b) → (t : Bool) → eqb x y ≡ t → (x ∷ a) ≡ (y ∷ b)
  first ih true q =
      let i : x ≡ y = eqb-true x y q in
      let j : a ≡ b = ih (rw q at e) in
      cc
  first ih false q = never (rw q at e)

pub equal_agree : (a : List ℕ) → agree a a ≡ true
unfolding agree
equal_agree [] = refl
equal_agree (x ∷ a) = rw (eq-eqb x x refl) (equal_agree a)

-- two tests of one fact are the same
same_test : {P : Type 0} (x y : Bool) → (x ≡ true → P) → (P → x ≡ true) → (y ≡ true → P) → (P → y ≡ true) → x ≡ y
same_test true y p p' q q' = sym (q' (p refl))
same_test false true p p' q q' = p' (q refl)
same_test false false p p' q q' = refl

-- what `eq` answers, in each of its two cases
module _ (a b : List ℕ) where
  pub lengths_differ : (length a ≡ length b → ⊥) → false ≡ agree a b
  lengths_differ h = by_answer (agree a b) refl where
    by_answer : (t : Bool) → agree a b ≡ t → false ≡ t
    by_answer true e = absurd (h (ap length (agree_equal a b e)))
    by_answer false e = refl

  bits_agree : length a ≡ length b → eqb (bits_of a b (length a)) 0 ≡ agree a b
  bits_agree l =
      same_test {P = a ≡ b} (eqb (bits_of a b (length a)) 0) (agree a b)
      (λ t. ext_get_or 0 a b l (bits_each a b (length a) (eqb-true (bits_of a b (length a)) 0 t)))
      (λ e. eq-eqb (bits_of a b (length a)) 0 (rw (sym e) (bits_none a (length a))))
      (agree_equal a b)
      (λ e. rw (sym e) (equal_agree a))

  pub found : {d : Difference} → length a ≡ length b → d ≡ differs a b → eqb d.bits 0 ≡ agree a b
  found {d} l e = rw e (bits_agree l)
