-- What is printed is read back: a number below 2^64 by its decimal digits, and bytes by their hexadecimal ones. By induction on the digits, and on the bytes.
-- Assumes nothing.
use mathlib.Core.Path.{◌≡◌, refl, ◌∙◌}
use mathlib.Core.Logic.{⊎_elim}
use mathlib.Core.List.{List, [], ◌∷◌}
use mathlib.Core.Bool.{true}
use Prim.Native.Nat.{ℕ, zero, suc, ◌+◌, ◌-◌, ◌*◌, ◌/◌, ◌%◌, ◌^◌, ◌≤◌, ◌<◌}
use native.Mathlib.Omega.{arith}
use native.Mathlib.Nat.{pow-suc}
use lib.ListN.{length}
use borrow.Author.Tests.{lt-ltb, le-ltb, le-leb, lt-leb}
use Rattle.answers.proofs.Tests.{split}
use Rattle.std.specs.Prelude.{Some}
use Rattle.text.specs.Numbers.{number_from, number_of}
use Rattle.text.specs.Bytes.{hex_value, is_hex, unhexed}
use Rattle.text.proofs.Laws.{number_start}
use Rattle.print.specs.Print.{glyph, decimal_onto, decimal, hexed}

-- a digit that is read goes behind the number so far
digit_read : (v d : ℕ) (rest : List ℕ) → d ≤ 9 → v * 10 + d < 18446744073709551616 → number_from v (glyph d ∷ rest) ≡ number_from (v * 10 + d) rest
digit_read v d rest h k =
    let m : 48 + d - 48 ≡ d = omega arith in
    rw (lt-ltb d 10 (omega arith), le-ltb (48 + d) 48 (omega arith), le-ltb 57 (48 + d) (omega arith), m, lt-ltb (v * 10 + d) 18446744073709551616 k)

abbrev OntoRead : ℕ → ℕ → List ℕ → Type 0
OntoRead k n rest = number_from 0 (decimal_onto (suc k) n rest) ≡ number_from n rest

onto_low : (k n : ℕ) (rest : List ℕ) → n < 18446744073709551616 → n ≤ 9 → OntoRead k n rest
unfolding decimal_onto
onto_low k n rest b l = let z : 0 * 10 + n ≡ n = omega arith in rw (le-ltb 9 n l, digit_read 0 n rest l (omega arith), z)

onto_high : (k n : ℕ) (rest : List ℕ) → n < 10 ^ suc (suc k) → n < 18446744073709551616
    → ((m : ℕ) (t : List ℕ) → m < 10 ^ suc k → m < 18446744073709551616 → OntoRead k m t) → 9 < n → OntoRead (suc k) n rest
unfolding decimal_onto
onto_high k n rest h b again g =
    let e : n / 10 * 10 + n % 10 ≡ n = omega arith in
    let p : 10 ^ suc (suc k) ≡ 10 ^ suc k * 10 = pow-suc 10 (suc k) in
    let q : n / 10 < 10 ^ suc k = omega arith in
    let r : n % 10 ≤ 9 = omega arith in
    rw (lt-ltb 9 n g, again (n / 10) (glyph (n % 10) ∷ rest) q (omega arith), digit_read (n / 10) (n % 10) rest r (omega arith), e)

onto_read : (k n : ℕ) (rest : List ℕ) → n < 10 ^ suc k → n < 18446744073709551616 → OntoRead k n rest
onto_read zero n rest h b = onto_low zero n rest b (omega arith)
onto_read (suc k) n rest h b = ⊎_elim (onto_high k n rest h b (onto_read k)) (onto_low (suc k) n rest b) (split 9 n)

onto_some : (k n : ℕ) (rest : List ℕ) → 0 < length (decimal_onto (suc k) n rest)
unfolding decimal_onto
onto_some zero n rest = ⊎_elim (λ g. rw (lt-ltb 9 n g) (omega arith)) (λ l. rw (le-ltb 9 n l) (omega arith)) (split 9 n)
onto_some (suc k) n rest = ⊎_elim (λ g. rw (lt-ltb 9 n g) (onto_some k (n / 10) (glyph (n % 10) ∷ rest))) (λ l. rw (le-ltb 9 n l) (omega arith)) (split 9 n)

-- what is printed for a number, parsed, is the number
pub number_back : (n : ℕ) → n < 18446744073709551616 → number_of (decimal n) ≡ Some n
unfolding decimal
number_back n h = number_start (decimal_onto 20 n []) (onto_some 19 n []) ∙ onto_read 19 n [] (omega arith) h

value_low : (b : ℕ) → 48 ≤ b → b ≤ 57 → hex_value b ≡ b - 48
unfolding hex_value
value_low b h k = rw (le-ltb b 48 h, le-leb b 57 k)

value_high : (b : ℕ) → 97 ≤ b → b ≤ 102 → hex_value b ≡ b - 87
unfolding hex_value
value_high b h k =
    rw (le-ltb b 48 (omega arith), lt-leb b 57 (omega arith), le-ltb b 65 (omega arith), lt-leb b 70 (omega arith), le-ltb b 97 h, le-leb b 102 k)

glyph_low : (d : ℕ) → d < 10 → hex_value (glyph d) ≡ d
glyph_low d l = let m : 48 + d - 48 ≡ d = omega arith in rw (lt-ltb d 10 l) (value_low (48 + d) (omega arith) (omega arith) ∙ m)

glyph_high : (d : ℕ) → d < 16 → 10 ≤ d → hex_value (glyph d) ≡ d
glyph_high d h g = let m : 87 + d - 87 ≡ d = omega arith in rw (le-ltb d 10 g) (value_high (87 + d) (omega arith) (omega arith) ∙ m)

glyph_value : (d : ℕ) → d < 16 → hex_value (glyph d) ≡ d
glyph_value d h = ⊎_elim (glyph_low d) (glyph_high d h) (split d 10)

-- every element is a byte
abbrev pub Bytes : List ℕ → Type 0
Bytes [] = Unit
Bytes (b ∷ s) = (b < 256) × Bytes s

-- what is printed for a byte string is digits only, and, parsed, is the byte string
pub hex_back : (s : List ℕ) → Bytes s → (is_hex (hexed s) ≡ true) × (unhexed (hexed s) ≡ s)
unfolding is_hex unhexed hexed
hex_back [] h = (refl, refl)
hex_back (b ∷ s) h =
    let a = glyph_value (b / 16) (omega arith) in
    let c = glyph_value (b % 16) (omega arith) in
    let r = hex_back s h.1 in
    let e : b / 16 * 16 + b % 16 ≡ b = omega arith in
    (rw (a, c, lt-ltb (b / 16) 16 (omega arith), lt-ltb (b % 16) 16 (omega arith)) r.0, rw (a, c, e, r.1))
