-- Laws of a varint: its width by the first byte, how large its digits are, its shortest length, and what is left in a buffer.
use Prim.Native.Nat.{ℕ, zero, suc, ◌+◌, ◌-◌, ◌*◌, ◌/◌, ◌%◌, ◌^◌, ◌<◌, ◌≤◌}
use mathlib.Core.Path.{◌≡◌, refl, ap, sym, ◌∙◌, subst}
use mathlib.Core.List.{List, ◌++◌}
use native.Mathlib.Omega.{arith}
use native.Mathlib.Nat.{pow-suc, pow-le-pow_right, one-le-pow, le_refl}
use lib.Seq.{take_all}
use lib.ListN.{get_or, length, take, drop, length-drop}
use lib.Dec.{lit<}
use lib.Arith.{mod-mul}
use lib.Pow.{pow_mono, pow_pos, pow-lt}
use borrow.Author.Tests.{lt-ltb, le-ltb, le-leb, lt-leb}
use Rattle.std.specs.Prelude.{Result, Ok, Err, Some, None}
use Rattle.answers.specs.declared.Refusal.{Refusal}
use Rattle.answers.specs.declared.Refusal.TheVariants.{Short, Range, Room}
use Rattle.big_endian.specs.Bytes.{bytes, put_bytes, number_of, get_bytes}
use Rattle.big_endian.proofs.Laws.{put_all, nothing_got, number_got}
use mir.Val.{Fits}
use mir.Syntax.{w8}
use Rattle.std.specs.Int.Bits.{bit_and}
use Rattle.std.proofs.lemmas.Nat.{and_mask}
use Rattle.varint.specs.Varint.{width, digits, log_of, read_varint, read_at, sound, sound_at, len_of, size_of, marked, form, encode, done, write_varint, decoded}
use Rattle.varint.specs.declared.Decoded.{Decoded}

pub width_1 : (b : ℕ) → b < 64 → width b ≡ 1
unfolding width
width_1 b h = let e : b / 64 ≡ 0 = omega arith in rw e

pub width_2 : (b : ℕ) → 64 ≤ b → b < 128 → width b ≡ 2
unfolding width
width_2 b g h = let e : b / 64 ≡ 1 = omega arith in rw e

pub width_4 : (b : ℕ) → 128 ≤ b → b < 192 → width b ≡ 4
unfolding width
width_4 b g h = let e : b / 64 ≡ 2 = omega arith in rw e

pub width_8 : (b : ℕ) → 192 ≤ b → b < 256 → width b ≡ 8
unfolding width
width_8 b g h = let e : b / 64 ≡ 3 = omega arith in rw e

pub width_pos : (b : ℕ) → 1 ≤ width b
unfolding width
width_pos b = pow_pos (b / 64)

pub width_le : (b : ℕ) → b < 256 → width b ≤ 8
unfolding width
width_le b h = pow_mono {i = b / 64} {j = 3} (omega arith)

pub reads_short : (s : List ℕ) → length s < width (get_or s 0 0) → read_varint s ≡ Err Short
unfolding read_varint
reads_short s h = rw (lt-leb _ _ h)

pub reads_value : (s : List ℕ) → width (get_or s 0 0) ≤ length s → read_varint s ≡ Ok (decoded (digits s (width (get_or s 0 0) - 1)) (width (get_or s 0 0)))
unfolding read_varint
reads_value s h = rw (le-leb _ _ h)

-- n bytes after the first six bits
pub digits_lt : (s : List ℕ) → ((k : ℕ) → get_or s k 0 < 256) → (n : ℕ) → digits s n < 64 * 256 ^ n
digits_lt s h zero = omega (arith, h 0)
digits_lt s h (suc n) = let e : 256 ^ suc n ≡ 256 ^ n * 256 = pow-suc 256 n in rw e (omega (arith, digits_lt s h n, h (suc n)))

-- up to eight bytes in all hold no more than 62 bits
pub digits_fit : (s : List ℕ) → ((k : ℕ) → get_or s k 0 < 256) → (i : ℕ) → i ≤ 8 → digits s (i - 1) < 2 ^ 62
digits_fit s h i l =
    let m : i - 1 ≤ 7 = omega arith in
    omega (arith, digits_lt s h (i - 1), pow-le-pow_right (lit< {m = 0} {n = 256} tt) m)

-- the number that n + 1 bytes are, without its top two bits
pub digits_number : (s : List ℕ) → ((k : ℕ) → get_or s k 0 < 256) → (n : ℕ) → number_of s (suc n) % (64 * 256 ^ n) ≡ digits s n
digits_number s h zero = omega arith
digits_number s h (suc n) =
    let b = get_or s (suc n) 0 in
    let x = number_of s (suc n) * 256 + b in
    let e : 64 * 256 ^ suc n ≡ 64 * 256 ^ n * 256 = rw (pow-suc 256 n) (omega arith) in
    let q : x / 256 ≡ number_of s (suc n) = omega (arith, h (suc n)) in
    let r : x % 256 ≡ b = omega (arith, h (suc n)) in
    let m : x % (64 * 256 ^ n * 256) ≡ x / 256 % (64 * 256 ^ n) * 256 + x % 256 = mod-mul x {m = 64 * 256 ^ n} {c = 256} (omega (arith, one-le-pow n 256 (lit< tt))) (lit< tt) in
    rw (e, m, q, r, digits_number s h n)

-- the shifts of a reader: a length by its logarithm, and the mask of what is usable in that length
usable : (k : ℕ) → k < 4 → 2 ^ (8 * 2 ^ k - 2) ≡ 64 * 256 ^ (2 ^ k - 1)
usable zero h = refl
usable (suc zero) h = refl
usable (suc (suc zero)) h = refl
usable (suc (suc (suc zero))) h = refl
usable (suc (suc (suc (suc k)))) h = let z : ⊥ = omega arith in absurd z

shifted : (k : ℕ) → k < 64 → 1 * 2 ^ k % 2 ^ 64 ≡ 2 ^ k
shifted k h = let p : 2 ^ k < 2 ^ 64 = pow-lt h in omega arith

pub width_shift : (b : ℕ) → b < 256 → 1 * 2 ^ (b / 64) % 2 ^ 64 ≡ width b
unfolding width
width_shift b h = shifted (b / 64) (omega arith)

module _ (s : List ℕ) (bytes_fit : (k : ℕ) → Fits w8 (get_or s k 0)) {n : ℕ} (e : n ≡ width (get_or s 0 0)) where
  h : (k : ℕ) → get_or s k 0 < 256
  h k = omega (arith, bytes_fit k)

  pub len_low : 1 ≤ n
  len_low = omega (arith, width_pos (get_or s 0 0))

  pub len_high : n ≤ 8
  len_high = omega (arith, width_le (get_or s 0 0) (h 0))

  pub mask_low : 1 ≤ 1 * 2 ^ (8 * n - 2) % 2 ^ 64
  mask_low =
      let a = len_low in
      let b = len_high in
      let l : 8 * n - 2 < 64 = omega arith in
      rw (shifted (8 * n - 2) l) (pow_pos (8 * n - 2))

  masked : bit_and (number_of s n) (1 * 2 ^ (8 * n - 2) % 2 ^ 64 - 1) ≡ digits s (n - 1)
  unfolding width
  masked =
      let a = len_low in
      let b = len_high in
      let l : 8 * n - 2 < 64 = omega arith in
      let k : get_or s 0 0 / 64 < 4 = omega (arith, h 0) in
      let u : 2 ^ (8 * n - 2) ≡ 64 * 256 ^ (n - 1) = rw e (usable (get_or s 0 0 / 64) k) in
      let m : n ≡ suc (n - 1) = omega arith in
      rw (shifted (8 * n - 2) l, and_mask, u) (ap (λ (i : ℕ). number_of s i % (64 * 256 ^ (n - 1))) m ∙ digits_number s h (n - 1))

  -- what `read` answers after `get`
  pub reads_none : None ≡ get_bytes n s → Err Short ≡ read_varint s
  reads_none g =
      let l : length s < n = nothing_got n s len_high g in
      sym (reads_short s (omega arith))

  module _ {x : ℕ} (g : Some x ≡ get_bytes n s) where
    value_is : bit_and x (1 * 2 ^ (8 * n - 2) % 2 ^ 64 - 1) ≡ digits s (n - 1)
    value_is = rw (number_got n s g).1 masked

    pub reads_some : Ok (decoded (bit_and x (1 * 2 ^ (8 * n - 2) % 2 ^ 64 - 1)) n) ≡ read_varint s
    reads_some =
        let l : n ≤ length s = (number_got n s g).0 in
        rw (value_is, e) (sym (reads_value s (omega arith)))

    pub reads_sound : sound s (Ok (decoded (bit_and x (1 * 2 ^ (8 * n - 2) % 2 ^ 64 - 1)) n))
    reads_sound = (rw value_is (digits_fit s h n len_high), (len_low, (number_got n s g).0))

pub log_0 : (v : ℕ) → v < 64 → log_of v ≡ 0
unfolding log_of
log_0 v h = rw (lt-ltb v 64 h)

pub log_1 : (v : ℕ) → 64 ≤ v → v < 16384 → log_of v ≡ 1
unfolding log_of
log_1 v g h = rw (le-ltb v 64 g, lt-ltb v 16384 h)

pub log_2 : (v : ℕ) → 16384 ≤ v → v < 1073741824 → log_of v ≡ 2
unfolding log_of
log_2 v g h = rw (le-ltb v 64 (omega arith), le-ltb v 16384 g, lt-ltb v 1073741824 h)

pub log_3 : (v : ℕ) → 1073741824 ≤ v → log_of v ≡ 3
unfolding log_of
log_3 v g = rw (le-ltb v 64 (omega arith), le-ltb v 16384 (omega arith), le-ltb v 1073741824 g)

-- the size of a number that is a varint, and of one that is none
pub size_fits : (v : ℕ) → v < 2 ^ 62 → size_of v ≡ len_of v
unfolding size_of
size_fits v h = rw (lt-ltb v (2 ^ 62) h)

pub size_none : (v : ℕ) → 2 ^ 62 ≤ v → size_of v ≡ 0
unfolding size_of
size_none v h = rw (le-ltb v (2 ^ 62) h)

pub size_1 : (v : ℕ) → v < 64 → 1 ≡ size_of v
size_1 v h = rw (size_fits v (omega arith), log_0 v h)

pub size_2 : (v : ℕ) → 64 ≤ v → v < 16384 → 2 ≡ size_of v
size_2 v g h = rw (size_fits v (omega arith), log_1 v g h)

pub size_4 : (v : ℕ) → 16384 ≤ v → v < 1073741824 → 4 ≡ size_of v
size_4 v g h = rw (size_fits v (omega arith), log_2 v g h)

pub size_8 : (v : ℕ) → 1073741824 ≤ v → v < 2 ^ 62 → 8 ≡ size_of v
size_8 v g h = rw (size_fits v h, log_3 v g)

-- what write answers and leaves, in each of its three cases, n being what `size` says
module _ (v : ℕ) (out : List ℕ) where
  pub writes_range : 2 ^ 62 ≤ v → done (Err Range) out ≡ write_varint out v
  unfolding write_varint
  writes_range h = rw (le-ltb v (2 ^ 62) h)

  module _ {n : ℕ} (h : v < 2 ^ 62) (z : n ≡ size_of v) where
    pub writes_room : length out < n → done (Err Room) out ≡ write_varint out v
    unfolding write_varint
    writes_room g =
        let e = size_fits v h in
        rw (lt-ltb v (2 ^ 62) h, lt-leb (len_of v) (length out) (omega arith))

    pub writes_len : n ≤ length out → done (Ok n) (bytes n (marked v) ++ drop n out) ≡ write_varint out v
    unfolding write_varint encode form
    writes_len g =
        let e = size_fits v h in
        rw (lt-ltb v (2 ^ 62) h, le-leb (len_of v) (length out) (omega arith), z, e)

    pub writes_put : {m : ℕ} {left : List ℕ} → n ≤ length out → m ≡ marked v → left ≡ put_bytes n m out → done (Ok n) left ≡ write_varint out v
    writes_put g em el = rw (el, em, put_all n (marked v) out g) (writes_len g)

-- the part `&s[at..]` is what is left from there
pub rest : (s : List ℕ) (at : ℕ) → take (length s - at) (drop at s) ≡ drop at s
rest s at = take_all (length s - at) (drop at s) (rw (length-drop at s) (le_refl _))

-- what is read at a position: past the end, and within
module _ (s : List ℕ) (at : ℕ) where
  pub at_past : length s < at → Err Short ≡ read_at s at
  unfolding read_at
  at_past h =
      let d = length-drop at s in
      let w = width_pos (get_or (drop at s) 0 0) in
      sym (reads_short (drop at s) (omega arith))

  pub at_is : {r : Result Decoded Refusal} → r ≡ read_varint (take (length s - at) (drop at s)) → r ≡ read_at s at
  unfolding read_at
  at_is e = e ∙ ap read_varint (rest s at)

  pub at_sound : (r : Result Decoded Refusal) → at ≤ length s → sound (take (length s - at) (drop at s)) r → sound_at s at r
  at_sound (Ok r) h o =
      let t : sound (drop at s) (Ok r) = subst (λ (l : List ℕ). sound l (Ok r)) (rest s at) o in
      let d = length-drop at s in
      (t.0, (t.1.0, omega arith))
  at_sound (Err w) h o = tt
