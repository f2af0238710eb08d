-- What is read of what was written, whatever follows it, and what was written of what is read in its shortest form: each length by itself,
-- and an induction over the bytes.
use Prim.Native.Nat.{ℕ, zero, suc, ◌+◌, ◌-◌, ◌*◌, ◌/◌, ◌%◌, ◌^◌, ◌<◌, ◌≤◌}
use mathlib.Core.Path.{◌≡◌, refl, ap, sym, ◌∙◌}
use mathlib.Core.Logic.{⊎_elim}
use mathlib.Core.List.{List, [], ◌∷◌, ◌++◌, append_assoc}
use native.Mathlib.Omega.{arith}
use native.Mathlib.Nat.{zero-add, pow-suc, one-le-pow}
use lib.Dec.{lit<}
use lib.ListN.{get_or, length, take, drop}
use lib.Seq.{get_or_at, take-suc}
use lib.Arith.{mod-mul}
use lib.Pow.{pow-lt}
use Rattle.std.specs.Prelude.{Ok}
use Rattle.answers.proofs.Tests.{split}
use Rattle.big_endian.specs.Bytes.{bytes}
use Rattle.big_endian.proofs.Laws.{length_bytes}
use Rattle.varint.specs.Varint.{width, digits, log_of, read_varint, len_of, form, Fits, encode, write_varint, decoded}
use Rattle.varint.proofs.Laws.{width_1, width_2, width_4, width_8, digits_lt, reads_value, writes_len, size_fits, reads_short, log_0, log_1, log_2, log_3}

pub length_form : (k v : ℕ) → length (form k v) ≡ 2 ^ k
unfolding form
length_form k v = length_bytes (2 ^ k) (k * 2 ^ (8 * 2 ^ k - 2) + v)

pub length_encode : (v : ℕ) → length (encode v) ≡ len_of v
unfolding encode
length_encode v = length_form (log_of v) v

-- What write leaves, where there is room.
pub leaves : (v : ℕ) (out : List ℕ) → v < 2 ^ 62 → len_of v ≤ length out → (write_varint out v).mem ≡ encode v ++ drop (len_of v) out
unfolding encode form
leaves v out h l = let e = size_fits v h in sym (ap (λ d. d.mem) (writes_len v out h (sym e) l))

-- The digits of n + 1 bytes are the number that the bytes hold, without its top two bits.
pub digits_bytes : (n x : ℕ) (rest : List ℕ) → digits (bytes (suc n) x ++ rest) n ≡ x % (64 * 256 ^ n)
digits_bytes zero x rest = omega arith
digits_bytes (suc n) x rest =
    let e : 64 * 256 ^ suc n ≡ 64 * 256 ^ n * 256 = rw (pow-suc 256 n) (omega arith) in
    let a : bytes (suc (suc n)) x ++ rest ≡ bytes (suc n) (x / 256) ++ (x % 256 ∷ rest) = append_assoc (bytes (suc n) (x / 256)) (x % 256 ∷ []) rest in
    let i : digits (bytes (suc (suc n)) x ++ rest) n ≡ x / 256 % (64 * 256 ^ n) = ap (λ (s : List ℕ). digits s n) a ∙ digits_bytes n (x / 256) (x % 256 ∷ rest) in
    let g : get_or (bytes (suc (suc n)) x ++ rest) (suc n) 0 ≡ x % 256 =
    ap (λ (s : List ℕ). get_or s (suc n) 0) a ∙ get_or_at (bytes (suc n) (x / 256)) (x % 256) rest 0 (suc n) (length_bytes (suc n) (x / 256)) in
    let m : x % (64 * 256 ^ n * 256) ≡ x / 256 % (64 * 256 ^ n) * 256 + x % 256 = mod-mul x {m = 64 * 256 ^ n} {c = 256} (omega (arith, one-le-pow n 256 (lit< tt))) (lit< tt) in
    ap (λ (d : ℕ). d * 256 + get_or (bytes (suc (suc n)) x ++ rest) (suc n) 0) i ∙ ap (λ (d : ℕ). x / 256 % (64 * 256 ^ n) * 256 + d) g ∙ sym (ap (λ (d : ℕ). x % d) e ∙ m)

round_1 : (v : ℕ) (rest : List ℕ) → v < 64 → read_varint (bytes 1 v ++ rest) ≡ Ok (decoded v 1)
round_1 v rest h =
    let w = width_1 (v % 256) (omega arith) in
    let d : digits (bytes 1 v ++ rest) 0 ≡ v = rw (digits_bytes 0 v rest) (omega arith) in
    rw (reads_value (bytes 1 v ++ rest) (rw w (omega arith)), w, d)

round_2 : (v : ℕ) (rest : List ℕ) → v < 16384 → read_varint (bytes 2 (16384 + v) ++ rest) ≡ Ok (decoded v 2)
round_2 v rest h =
    let w = width_2 ((16384 + v) / 256 % 256) (omega arith) (omega arith) in
    let d : digits (bytes 2 (16384 + v) ++ rest) 1 ≡ v = rw (digits_bytes 1 (16384 + v) rest) (omega arith) in
    rw (reads_value (bytes 2 (16384 + v) ++ rest) (rw w (omega arith)), w, d)

round_4 : (v : ℕ) (rest : List ℕ) → v < 1073741824 → read_varint (bytes 4 (2147483648 + v) ++ rest) ≡ Ok (decoded v 4)
round_4 v rest h =
    let w = width_4 ((2147483648 + v) / 256 / 256 / 256 % 256) (omega arith) (omega arith) in
    let d : digits (bytes 4 (2147483648 + v) ++ rest) 3 ≡ v = rw (digits_bytes 3 (2147483648 + v) rest) (omega arith) in
    rw (reads_value (bytes 4 (2147483648 + v) ++ rest) (rw w (omega arith)), w, d)

round_8 : (v : ℕ) (rest : List ℕ) → v < 4611686018427387904 → read_varint (bytes 8 (13835058055282163712 + v) ++ rest) ≡ Ok (decoded v 8)
round_8 v rest h =
    let w = width_8 ((13835058055282163712 + v) / 256 / 256 / 256 / 256 / 256 / 256 / 256 % 256) (omega arith) (omega arith) in
    let d : digits (bytes 8 (13835058055282163712 + v) ++ rest) 7 ≡ v = rw (digits_bytes 7 (13835058055282163712 + v) rest) (omega arith) in
    rw (reads_value (bytes 8 (13835058055282163712 + v) ++ rest) (rw w (omega arith)), w, d)

-- A number in any length that it fits is read, whatever follows.
pub reads_form : (k v : ℕ) (rest : List ℕ) → Fits k v → read_varint (form k v ++ rest) ≡ Ok (decoded v (2 ^ k))
unfolding form
reads_form zero v rest h = rw (zero-add v) (round_1 v rest h.1)
reads_form (suc zero) v rest h = round_2 v rest h.1
reads_form (suc (suc zero)) v rest h = round_4 v rest h.1
reads_form (suc (suc (suc zero))) v rest h = round_8 v rest h.1
reads_form (suc (suc (suc (suc k)))) v rest h = let z : ⊥ = omega arith in absurd z

-- A varint fits its shortest length.
pub short_fits : (v : ℕ) → v < 2 ^ 62 → Fits (log_of v) v
short_fits v h =
    ⊎_elim
    (λ l. rw (log_0 v l) (omega arith, omega arith))
    (λ g. ⊎_elim
    (λ l. rw (log_1 v g l) (omega arith, omega arith))
    (λ g. ⊎_elim
    (λ l. rw (log_2 v g l) (omega arith, omega arith))
    (λ g. rw (log_3 v g) (omega arith, h))
    (split v 1073741824))
    (split v 16384))
    (split v 64)

-- What is written is read back, whatever follows.
pub round : (v : ℕ) (rest : List ℕ) → v < 2 ^ 62 → read_varint (encode v ++ rest) ≡ Ok (decoded v (len_of v))
unfolding encode
round v rest h = reads_form (log_of v) v rest (short_fits v h)

-- Powers of two are different where their exponents are.
same_power : (i j : ℕ) → 2 ^ i ≡ 2 ^ j → i ≡ j
same_power i j e =
    ⊎_elim
    (λ l. let z : ⊥ = omega (arith, pow-lt l) in absurd z)
    (λ l. ⊎_elim (λ k. let z : ⊥ = omega (arith, pow-lt k) in absurd z) (λ k. omega arith) (split j i))
    (split i j)

-- The number that n + 1 bytes hold, top two bits and all.
abbrev num : List ℕ → ℕ → ℕ
num s zero = get_or s 0 0
num s (suc n) = num s n * 256 + get_or s (suc n) 0

module _ (s : List ℕ) (h : (k : ℕ) → get_or s k 0 < 256) where
  bytes_num : (n : ℕ) → suc n ≤ length s → bytes (suc n) (num s n) ≡ take (suc n) s
  bytes_num zero l =
      let e : get_or s 0 0 % 256 ≡ get_or s 0 0 = omega (arith, h 0) in
      rw (take-suc s 0 0 l, e)
  bytes_num (suc n) l =
      let q : (num s n * 256 + get_or s (suc n) 0) / 256 ≡ num s n = omega (arith, h (suc n)) in
      let r : (num s n * 256 + get_or s (suc n) 0) % 256 ≡ get_or s (suc n) 0 = omega (arith, h (suc n)) in
      let m : suc n ≤ length s = omega arith in
      rw (take-suc s (suc n) 0 l, q, r, bytes_num n m)

  -- The bytes that were read are a form of the number, which fits it.
  form_of : (k : ℕ) → get_or s 0 0 / 64 ≡ k → 2 ^ k ≤ length s → Fits k (digits s (2 ^ k - 1)) × (take (2 ^ k) s ≡ form k (digits s (2 ^ k - 1)))
  unfolding form
  form_of zero e l =
      let q : 0 * 2 ^ 6 + digits s 0 ≡ num s 0 = omega (arith, h 0) in
      ((omega arith, digits_lt s h 0), rw q (sym (bytes_num 0 l)))
  form_of (suc zero) e l =
      let q : 1 * 2 ^ 14 + digits s 1 ≡ num s 1 = omega (arith, h 0) in
      ((omega arith, digits_lt s h 1), rw q (sym (bytes_num 1 l)))
  form_of (suc (suc zero)) e l =
      let q : 2 * 2 ^ 30 + digits s 3 ≡ num s 3 = omega (arith, h 0) in
      ((omega arith, digits_lt s h 3), rw q (sym (bytes_num 3 l)))
  form_of (suc (suc (suc zero))) e l =
      let q : 3 * 2 ^ 62 + digits s 7 ≡ num s 7 = omega (arith, h 0) in
      ((omega arith, digits_lt s h 7), rw q (sym (bytes_num 7 l)))
  form_of (suc (suc (suc (suc k)))) e l = let z : ⊥ = omega (arith, h 0) in absurd z

  -- What is read is a form of the value: its length is a power of two, and its bytes are that form.
  pub read_form : (v n : ℕ) → read_varint s ≡ Ok (decoded v n) → (k : ℕ) × (Fits k v × ((n ≡ 2 ^ k) × (take n s ≡ form k v)))
  unfolding width
  read_form v n e =
      ⊎_elim
      (λ l. let y : ◌≡◌ {A = ℕ} 0 1 = cc (reads_short s l) in let z : ⊥ = omega arith in absurd z)
      (λ l.
      let k = get_or s 0 0 / 64 in
      let r : decoded v n ≡ decoded (digits s (2 ^ k - 1)) (2 ^ k) = cc (reads_value s l) in
      let w : n ≡ 2 ^ k = ap (λ d. d.len) r in
      let d : v ≡ digits s (2 ^ k - 1) = ap (λ d. d.value) r in
      let f = form_of k refl l in
      (k, (rw d f.0, (w, rw (w, d) f.1))))
      (split (length s) (width (get_or s 0 0)))

  -- What is read in its shortest length is what is written.
  pub shortest : (v n : ℕ) → read_varint s ≡ Ok (decoded v n) → n ≡ len_of v → take n s ≡ encode v
  unfolding encode
  shortest v n e m =
      let f = read_form v n e in
      f.1.1.1 ∙ ap (λ (k : ℕ). form k v) (same_power f.0 (log_of v) (sym f.1.1.0 ∙ m))
