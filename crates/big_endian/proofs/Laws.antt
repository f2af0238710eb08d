-- Laws of the bytes of a number: how many they are, one of them stored, what `put` leaves, and the number that bytes are. Assumes nothing.
use Prim.Native.Nat.{ℕ, zero, suc, ◌-◌, ◌/◌, ◌%◌, ◌*◌, ◌^◌, ◌<◌, ◌≤◌}
use mathlib.Core.Path.{◌≡◌, refl}
use mathlib.Core.List.{List, ◌++◌, append_assoc}
use mathlib.Core.Logic.{⊎_elim}
use native.Mathlib.Omega.{arith}
use native.Mathlib.Nat.{pow-suc, pow-le-pow_right}
use lib.Dec.{lit<}
use Rattle.answers.proofs.Tests.{split}
use lib.Seq.{drop-cons, get_or-set_same, drop-set-lt}
use lib.ListN.{get_or, length, drop, set, length-set, length-append}
use borrow.Author.Tests.{le-leb, lt-leb}
use Rattle.std.specs.Prelude.{Some, None}
use Rattle.big_endian.specs.Bytes.{bytes, put_bytes, number_of, get_bytes}

pub length_bytes : (n x : ℕ) → length (bytes n x) ≡ n
length_bytes zero x = refl
length_bytes (suc n) x = simp (length-append, length_bytes n (x / 256)) (omega arith)

-- the last of i bytes is stored, and what is left of x goes before it
pub bytes_step : (i x : ℕ) (out : List ℕ) → 0 < i → i ≤ length out →
    bytes (i - 1) (x / 256) ++ drop (i - 1) (set out (i - 1) (x % 256)) ≡ bytes i x ++ drop i out
bytes_step zero x out p h = let z : ⊥ = omega arith in absurd z
bytes_step (suc m) x out p h =
    let e : suc m - 1 ≡ m = omega arith in
    rw (e, drop-cons (set out m (x % 256)) m 0 (simp length-set h), get_or-set_same out m (x % 256) 0 h, drop-set-lt (suc m) out m (x % 256) (omega arith), append_assoc)

-- where there is room
pub put_all : (n x : ℕ) (out : List ℕ) → n ≤ length out → put_bytes n x out ≡ bytes n x ++ drop n out
unfolding put_bytes
put_all n x out h = rw (le-leb n (length out) h)

-- the two returns of `put`
pub puts_none : (n x : ℕ) (out : List ℕ) → length out < n → out ≡ put_bytes n x out
unfolding put_bytes
puts_none n x out h = rw (lt-leb n (length out) h)

pub puts_all : (n x : ℕ) (out : List ℕ) {left : List ℕ} → n ≤ length out → left ≡ bytes n x ++ drop n out → left ≡ put_bytes n x out
puts_all n x out h e = rw (put_all n x out h) e

-- the three returns of `get`
pub gets_short : (n : ℕ) (s : List ℕ) → length s < n → None ≡ get_bytes n s
unfolding get_bytes
gets_short n s h = rw (lt-leb n (length s) h)

pub gets_long : (n : ℕ) (s : List ℕ) → 8 < n → None ≡ get_bytes n s
unfolding get_bytes
gets_long n s h = ⊎_elim
    (λ l. rw (lt-leb n (length s) l))
    (λ l. rw (le-leb n (length s) l, lt-leb n 8 h))
    (split (length s) n)

-- where s has so many
pub get_all : (n : ℕ) (s : List ℕ) → n ≤ length s → n ≤ 8 → get_bytes n s ≡ Some (number_of s n)
unfolding get_bytes
get_all n s h l = rw (le-leb n (length s) h, le-leb n 8 l)

pub gets_all : (n : ℕ) (s : List ℕ) {i x : ℕ} → n ≤ length s → n ≤ 8 → x ≡ number_of s i → i ≡ n → Some x ≡ get_bytes n s
gets_all n s h l e z = rw (get_all n s h l, e, z)

-- what a caller learns of each answer
pub nothing_got : (n : ℕ) (s : List ℕ) → n ≤ 8 → None ≡ get_bytes n s → length s < n
nothing_got n s l e = ⊎_elim (λ h. h) (λ h. let y : ◌≡◌ {A = ℕ} 0 1 = cc (get_all n s h l) in absurd (omega arith)) (split (length s) n)

pub number_got : (n : ℕ) (s : List ℕ) {x : ℕ} → Some x ≡ get_bytes n s → (n ≤ length s) × (x ≡ number_of s n)
number_got n s {x} e =
    ⊎_elim
    (λ h. let y : ◌≡◌ {A = ℕ} 0 1 = cc (gets_short n s h) in absurd (omega arith))
    (λ h. ⊎_elim
    (λ l. let y : ◌≡◌ {A = ℕ} 0 1 = cc (gets_long n s l) in absurd (omega arith))
    (λ l. (h, let f : x ≡ number_of s n = cc (get_all n s h l) in f))
    (split 8 n))
    (split (length s) n)

-- bytes are below 256, so n of them are a number below 256 ^ n
pub number_lt : (s : List ℕ) → ((k : ℕ) → get_or s k 0 < 256) → (n : ℕ) → number_of s n < 256 ^ n
number_lt s h zero = omega arith
number_lt s h (suc n) = let e : 256 ^ suc n ≡ 256 ^ n * 256 = pow-suc 256 n in rw e (omega (arith, number_lt s h n, h n))

-- fewer than eight bytes leave room for one more
pub number_room : (s : List ℕ) → ((k : ℕ) → get_or s k 0 < 256) → (n : ℕ) → n < 8 → number_of s n < 2 ^ 56
number_room s h n l =
    let m : n ≤ 7 = omega arith in
    omega (arith, number_lt s h n, pow-le-pow_right (lit< {m = 0} {n = 256} tt) m)
