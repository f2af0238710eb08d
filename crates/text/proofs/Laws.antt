-- Laws of words, numbers and byte strings: a step of a loop each, and one for each return. They hold by unfolding the definition at the front of what is left.
use mathlib.Core.Path.{◌≡◌, refl, sym, ap, ◌∙◌}
use mathlib.Core.Logic.{⊎_elim}
use mathlib.Core.List.{List, [], ◌∷◌}
use mathlib.Core.Bool.{Bool, true, false, cond, not, ◌&&◌}
use Prim.Native.Nat.{ℕ, suc, ◌+◌, ◌-◌, ◌*◌, ◌/◌, ◌%◌, ◌≤◌, ◌<◌}
use native.Mathlib.Omega.{arith}
use native.Mathlib.Numerals.{add-one}
use lib.ListN.{length, drop, get_or, take, set, length-drop, drop_of_length-le}
use lib.Seq.{drop-cons, sets}
use lib.Dec.{ltb, leb}
use borrow.Author.Tests.{lt-ltb, le-ltb, le-leb, lt-leb, eq-eqb, ne_eqb, not-true, not-false}
use Rattle.std.specs.Prelude.{Option, Some, None, Result, Ok, Err}
use Rattle.std.specs.List.{take_while}
use Rattle.std.specs.Option.{is_some, IsSome, unwrap_or}
use Rattle.std.proofs.lemmas.Bool.Decides.{nat_tests}
use Rattle.std.proofs.lemmas.List.{take_rest}
use Rattle.std.proofs.lemmas.List.Sums.{take_while-cons}
use Rattle.answers.proofs.Tests.{split}
use Rattle.text.specs.declared.Word.{Word}
use Rattle.text.specs.Words.{front, blank, solid, plain, skipped, ended, word_at, unnoted, spelt, same}
use Rattle.text.specs.declared.NoBytes.{NoBytes}
use Rattle.text.specs.declared.NoBytes.TheVariants.{NotHex, NoRoom}
use Rattle.text.specs.Bytes.{hex_value, hex_digit, all_hex, is_hex, unhexed, unhex_at, bytes_in, bytes_at, digits_of, done}
use Rattle.text.specs.Numbers.{number_from, number_of, number_in, number_at}

pub clash : false ≡ true → ⊥
clash e = let z : ◌≡◌ {A = ℕ} 0 1 = cc in omega arith

-- ---- the front of a line

pub front_is : (p : ℕ → Bool) (s : List ℕ) → length (take_while p s) ≡ front p s
front_is p [] = refl
front_is p (b ∷ s) = rw take_while-cons (by_test (p b) (take_while p s) (front_is p s)) where
  by_test : (x : Bool) (m : List ℕ) {n : ℕ} → length m ≡ n → length (cond x (b ∷ m) []) ≡ cond x (suc n) 0
  by_test true m e = ap suc e
  by_test false m e = refl

pub line_is : (s : List ℕ) {n : ℕ} → n ≡ length (take_while plain s) → take n s ≡ unnoted s
unfolding unnoted
line_is s e = rw (e, front_is plain s)

-- the word behind the blanks
pub word_is : (s : List ℕ) (at : ℕ) {n m : ℕ} → at ≤ length s → n ≡ length (take_while blank (take (length s - at) (drop at s)))
    → m ≡ length (take_while solid (take (length s - (at + n)) (drop (at + n) s)))
    → record { start = at + n; end = at + n + m } ≡ word_at s at
unfolding word_at skipped ended
word_is s at {n} {m} h e f =
    let p : n ≡ front blank (drop at s) = e ∙ rw (take_rest s at) (front_is blank (drop at s)) in
    let q : m ≡ front solid (drop (at + n) s) = f ∙ rw (take_rest s (at + n)) (front_is solid (drop (at + n) s)) in
    rw (le-ltb _ _ h, q, p)

-- ---- decimal numbers

pub number_over : (s : List ℕ) (i v : ℕ) → i < length s → 18446744073709551616 ≤ v * 10 → number_from v (drop i s) ≡ None
number_over s i v h o =
    rw (drop-cons s i 0 h, le-ltb (v * 10 + (get_or s i 0 - 48)) 18446744073709551616 (omega arith)) (by_tests (ltb (get_or s i 0) 48) (ltb 57 (get_or s i 0))) where
      by_tests : (x y : Bool) → ◌≡◌ {A = Option ℕ} (cond x None (cond y None None)) None
      by_tests true y = refl
      by_tests false true = refl
      by_tests false false = refl

pub number_end : (v : ℕ) (s : List ℕ) (i : ℕ) → length s ≤ i → number_from v (drop i s) ≡ Some v
number_end v s i h = rw (drop_of_length-le s {i = i} h)

pub number_start : (s : List ℕ) → 0 < length s → number_of s ≡ number_from 0 s
number_start [] h = absurd (omega arith)
number_start (b ∷ s) h = refl

pub number_none : (s : List ℕ) → length s ≡ 0 → None ≡ number_of s
number_none [] h = refl
number_none (b ∷ s) h = absurd (omega arith)

pub number_is : (s : List ℕ) (at : ℕ) {w : Word} {d g : Option ℕ} → w ≡ word_at s at → d ≡ number_of (spelt s w) → d ≡ g → number_in w g ≡ number_at s at
unfolding number_at
number_is s at e f k = rw (← e, ← f, k)

-- ---- byte strings

-- the value of a digit, or 16: what the code and the definitions say of a byte
pub value_is : (b : ℕ) → hex_value b ≡ unwrap_or (hex_digit b) 16
unfolding hex_value
value_is b =
    let none : Option ℕ = None in
    by_test (ltb b 48) none _ refl
    (by_test (leb b 57) (Some (b - 48)) _ refl
    (by_test (ltb b 65) none _ refl (by_test (leb b 70) (Some (b - 55)) _ refl (by_test (ltb b 97) none _ refl (by_test (leb b 102) (Some (b - 87)) none refl refl))))) where
      by_test : (t : Bool) (x y : Option ℕ) {m n : ℕ} → m ≡ unwrap_or x 16 → n ≡ unwrap_or y 16 → cond t m n ≡ unwrap_or (cond t x y) 16
      by_test true x y e f = e
      by_test false x y e f = f

pub digit_low : (b v : ℕ) → hex_digit b ≡ Some v → v < 16
digit_low b v e = grind (arith, nat_tests)

-- a byte is a digit where its value is below 16
pub digit_test : (b : ℕ) → is_some (hex_digit b) ≡ ltb (hex_value b) 16
digit_test b = grind (arith, nat_tests, value_is)

pub drop_two : (s : List ℕ) (i : ℕ) → i + 1 < length s → drop i s ≡ get_or s i 0 ∷ get_or s (i + 1) 0 ∷ drop (i + 2) s
drop_two s i h =
    let e : i + 2 ≡ suc (suc i) = omega arith in
    rw (e, add-one, drop-cons s i 0 (omega arith), drop-cons s (suc i) 0 (omega arith))

module _ (s : List ℕ) (i : ℕ) (h : i + 1 < length s) where
  pub hex_high : 16 ≤ hex_value (get_or s i 0) → is_hex (drop i s) ≡ false
  unfolding is_hex
  hex_high e = rw (drop_two s i h, le-ltb _ _ e)

  pub hex_low : hex_value (get_or s i 0) < 16 → 16 ≤ hex_value (get_or s (i + 1) 0) → is_hex (drop i s) ≡ false
  unfolding is_hex
  hex_low d e = rw (drop_two s i h, lt-ltb _ _ d, le-ltb _ _ e)

  pub hex_on : hex_value (get_or s i 0) < 16 → hex_value (get_or s (i + 1) 0) < 16 → is_hex (drop i s) ≡ is_hex (drop (i + 2) s)
  unfolding is_hex
  hex_on d e = rw (drop_two s i h, lt-ltb _ _ d, lt-ltb _ _ e)

  pub unhex_on : unhexed (drop i s) ≡ (hex_value (get_or s i 0) * 16 + hex_value (get_or s (i + 1) 0)) ∷ unhexed (drop (i + 2) s)
  unfolding unhexed
  unhex_on = rw (drop_two s i h)

pub digit_some : (b : ℕ) {o : Option ℕ} → o ≡ hex_digit b → hex_value b < 16 → IsSome o
digit_some b e h = grind (arith, nat_tests, digit_test)

pub digit_is : (b : ℕ) {o : Option ℕ} {v : ℕ} → o ≡ hex_digit b → o ≡ Some v → v ≡ hex_value b
digit_is b e f = rw (value_is b, ← e, f)

-- an even number of digits, and of such as are none, in pairs
pub even_hex : (s : List ℕ) → length s % 2 ≡ 0 → all_hex s ≡ is_hex s
unfolding is_hex
even_hex [] h = refl
even_hex (a ∷ []) h = absurd (omega arith)
even_hex (a ∷ b ∷ s) h = rw (digit_test a, digit_test b, even_hex s (omega arith))

pub odd_hex : (s : List ℕ) → (length s % 2 ≡ 0 → ⊥) → false ≡ is_hex s
unfolding is_hex
odd_hex [] h = absurd (h refl)
odd_hex (a ∷ []) h = refl
odd_hex (a ∷ b ∷ s) h = by_tests (ltb (hex_value a) 16) (ltb (hex_value b) 16) (odd_hex s (λ e. h (omega arith))) where
  by_tests : (x y : Bool) {z : Bool} → false ≡ z → false ≡ (x && (y && z))
  by_tests true true e = e
  by_tests true false e = refl
  by_tests false y e = refl

-- a string of digits has twice as many as bytes
pub unhexed_length : (s : List ℕ) → length (unhexed s) ≡ length s / 2
unfolding unhexed
unhexed_length [] = refl
unhexed_length (a ∷ []) = refl
unhexed_length (a ∷ b ∷ s) = let e : length (unhexed s) ≡ length s / 2 = unhexed_length s in omega arith

-- what is_hex says of the pair at its front
pub record PairAt (s : List ℕ) (i : ℕ) : Type 0 where
  pub high : hex_value (get_or s i 0) < 16
  pub low : hex_value (get_or s (i + 1) 0) < 16
  pub rest : is_hex (drop (i + 2) s) ≡ true

pub pair_at : (s : List ℕ) (i : ℕ) → i + 1 < length s → is_hex (drop i s) ≡ true → PairAt s i
pair_at s i h e =
    ⊎_elim
    (λ a. ⊎_elim
    (λ b. record { high = a; low = b; rest = sym (hex_on s i h a b) ∙ e })
    (λ b. absurd (clash (sym (hex_low s i h a b) ∙ e)))
    (split (hex_value (get_or s (i + 1) 0)) 16))
    (λ a. absurd (clash (sym (hex_high s i h a) ∙ e)))
    (split (hex_value (get_or s i 0)) 16)

module _ (out s : List ℕ) (at i : ℕ) where
  pub fill_on : (a b : ℕ) → 2 * i + 1 < length s → a ≡ hex_value (get_or s (2 * i) 0) → b ≡ hex_value (get_or s (2 * i + 1) 0)
      → sets (set out (at + i) (a * 16 + b)) (at + (i + 1)) (unhexed (drop (2 * (i + 1)) s)) ≡ sets out (at + i) (unhexed (drop (2 * i) s))
  fill_on a b h ea eb =
      let k : at + (i + 1) ≡ suc (at + i) = omega arith in
      let m : 2 * (i + 1) ≡ 2 * i + 2 = omega arith in
      rw (k, m, ea, eb, unhex_on s (2 * i) h)

  pub fill_end : length s < 2 * i + 2 → sets out (at + i) (unhexed (drop (2 * i) s)) ≡ out
  fill_end h = none (unhexed (drop (2 * i) s)) (unhexed_length (drop (2 * i) s)) where
    none : (l : List ℕ) → length l ≡ length (drop (2 * i) s) / 2 → sets out (at + i) l ≡ out
    none [] e = refl
    none (x ∷ l) e = absurd (omega (arith, length-drop (2 * i) s))

-- ---- one law for each return of unhex and bytes_at

module _ (s out : List ℕ) (at : ℕ) {t : Bool} (e : t ≡ is_hex s) where
  pub unhex_not : not t ≡ true → done (Err NotHex) out ≡ unhex_at s out at
  unfolding unhex_at
  unhex_not f = rw (← e, not-true t f)

  pub unhex_outside : not t ≡ false → length out < at → done (Err NoRoom) out ≡ unhex_at s out at
  unfolding unhex_at
  unhex_outside f h = rw (← e, not-false t f, lt-leb (at + length (unhexed s)) (length out) (omega arith))

  pub unhex_room : not t ≡ false → at ≤ length out → length out - at < length s / 2 → done (Err NoRoom) out ≡ unhex_at s out at
  unfolding unhex_at
  unhex_room f h k = rw (← e, not-false t f, lt-leb (at + length (unhexed s)) (length out) (omega (arith, unhexed_length s)))

  pub unhex_len : {m : List ℕ} → not t ≡ false → at ≤ length out → length s / 2 ≤ length out - at → m ≡ sets out at (unhexed s)
      → done (Ok (at + length s / 2)) m ≡ unhex_at s out at
  unfolding unhex_at
  unhex_len f h k g = rw (← e, not-false t f, le-leb (at + length (unhexed s)) (length out) (omega (arith, unhexed_length s)), g, unhexed_length s)

module _ (s out : List ℕ) (at to : ℕ) {w : Word} (e : w ≡ word_at s at) where
  pub bytes_none : w.start ≡ w.end → done (record { end = None; next = w.start }) out ≡ bytes_at s at out to
  unfolding bytes_at
  bytes_none f = rw (← e, eq-eqb _ _ f)

  pub bytes_are : {d m : List ℕ} {h g : Result ℕ NoBytes} → (w.start ≡ w.end → ⊥) → d ≡ digits_of (spelt s w) → done h m ≡ unhex_at d out to → h ≡ g
      → bytes_in w (done g m) ≡ bytes_at s at out to
  unfolding bytes_at
  bytes_are f k u q = rw (← e, ne_eqb _ _ f, ← k, ← u, q)

pub digits_none : (s : List ℕ) {t : Bool} → t ≡ same s (45 ∷ []) → t ≡ true → [] ≡ digits_of s
digits_none s e f = rw (← e, f)

pub digits_all : (s : List ℕ) {t : Bool} → t ≡ same s (45 ∷ []) → t ≡ false → s ≡ digits_of s
digits_all s e f = rw (← e, f)

pub ruleset unhex_laws = (unhex_not, unhex_outside, unhex_room, unhex_len)
