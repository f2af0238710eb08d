-- Laws of the bits of a word.
-- Assumes nothing.
use mathlib.Core.Path.{◌≡◌, refl, ap, sym, ◌∙◌, subst}
use mathlib.Core.Bool.{Bool, false, ◌||◌}
use Prim.Native.Nat.{ℕ, zero, suc, ◌+◌, ◌-◌, ◌*◌, ◌/◌, ◌%◌, ◌^◌, ◌≤◌, ◌<◌}
use native.Mathlib.Omega.{arith}
use native.Mathlib.Nat.{mod-lt, div-eq_of_lt, add_comm, mul_assoc}
use native.Mathlib.Numerals.{add-one}
use lib.Dec.{eqb}
use lib.Pow.{field, mod-mod-pow, shl-shr, shr-shr, pow-add, pow_pos, split, shr_lt}
use lib.Bits.{bit_or, or_shr, or_mod, shifted_even}
use Rattle.dedup.specs.Bits.{bit, pack, num}

-- a shift right
pub bit_shr : (a s i : ℕ) → bit (a / 2 ^ s) i ≡ bit a (s + i)
unfolding bit
bit_shr a s i = rw shr-shr

-- the first bits are those of the whole
bit_mod' : (a j i : ℕ) → bit (a % 2 ^ ((j + 1) + i)) i ≡ bit a i
unfolding bit
bit_mod' a j i = rw (field a (j + 1) i, mod-mod-pow (a / 2 ^ i) j 1)

pub bit_mod : (a k i : ℕ) → i < k → bit (a % 2 ^ k) i ≡ bit a i
bit_mod a k i h =
    let e : ((k - 1 - i) + 1) + i ≡ k = omega arith in
    subst (λ (m : ℕ). bit (a % 2 ^ m) i ≡ bit a i) e (bit_mod' a (k - 1 - i) i)

pub bit_small : (a i : ℕ) → a < 2 ^ i → bit a i ≡ false
unfolding bit
bit_small a i h = rw (div-eq_of_lt h)

-- a shift left
bit_up : (a s t : ℕ) → bit (a * 2 ^ s) (s + t) ≡ bit a t
bit_up a s t = sym (bit_shr (a * 2 ^ s) s t) ∙ rw shl-shr

bit_below : (a t i : ℕ) → bit (a * 2 ^ ((t + 1) + i)) i ≡ false
unfolding bit
bit_below a t i = rw (pow-add 2 (t + 1) i, ← mul_assoc, shl-shr, add-one, shifted_even)

pub bit_shl : (a s k i : ℕ) → i < k → s ≤ i → bit (a * 2 ^ s % 2 ^ k) i ≡ bit a (i - s)
bit_shl a s k i h l =
    let e : s + (i - s) ≡ i = omega arith in
    bit_mod (a * 2 ^ s) k i h ∙ subst (λ (m : ℕ). bit (a * 2 ^ s) m ≡ bit a (i - s)) e (bit_up a s (i - s))

pub bit_shl_below : (a s k i : ℕ) → i < k → i < s → bit (a * 2 ^ s % 2 ^ k) i ≡ false
bit_shl_below a s k i h l =
    let e : ((s - 1 - i) + 1) + i ≡ s = omega arith in
    bit_mod (a * 2 ^ s) k i h ∙ subst (λ (m : ℕ). bit (a * 2 ^ m) i ≡ false) e (bit_below a (s - 1 - i) i)

-- the or of two words
or_one : (u v : ℕ) → u < 2 → v < 2 → eqb (bit_or u v) 1 ≡ (eqb u 1 || eqb v 1)
or_one zero zero hu hv = refl
or_one zero (suc zero) hu hv = refl
or_one zero (suc (suc v)) hu hv = absurd (omega arith)
or_one (suc zero) zero hu hv = refl
or_one (suc zero) (suc zero) hu hv = refl
or_one (suc zero) (suc (suc v)) hu hv = absurd (omega arith)
or_one (suc (suc u)) v hu hv = absurd (omega arith)

pub bit_or_law : (a b i : ℕ) → bit (bit_or a b) i ≡ (bit a i || bit b i)
unfolding bit
bit_or_law a b i =
    let x = a / 2 ^ i in
    let y = b / 2 ^ i in
    ap (λ (m : ℕ). eqb (m % 2) 1) (or_shr a b i) ∙ ap (λ (m : ℕ). eqb m 1) (or_mod x y 1)
    ∙ or_one (x % 2) (y % 2) (omega arith) (omega arith)

-- a word is what its bits make of it
top : (u : ℕ) (b : Bool) → u < 2 → eqb (u % 2) 1 ≡ b → num b ≡ u
top zero b h e = ap num (sym e)
top (suc zero) b h e = ap num (sym e)
top (suc (suc u)) b h e = absurd (omega arith)

pub pack_bits : (k w : ℕ) (f : ℕ → Bool) → w < 2 ^ k → ((i : ℕ) → i < k → bit w i ≡ f i) → w ≡ pack k f
unfolding bit pack
pack_bits zero w f h b = omega arith
pack_bits (suc k) w f h b =
    let t : num (f k) ≡ w / 2 ^ k = top (w / 2 ^ k) (f k) (shr_lt 1 k (rw (add_comm, add-one) h)) (b k (omega arith)) in
    let r : w % 2 ^ k ≡ pack k f =
    pack_bits k (w % 2 ^ k) f (mod-lt w (pow_pos k)) (λ i l. bit_mod w k i l ∙ b i (omega arith))
    in
    sym (split w k) ∙ rw (← t, ← r)

pub bit_zero : (i : ℕ) → bit 0 i ≡ false
bit_zero i = bit_small 0 i (pow_pos i)
