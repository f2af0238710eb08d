-- What noting a number does to the words, and that it is what `inserted` says: bit by bit, each place holds the mark that its new number had.
-- Assumes nothing.
use mathlib.Core.Path.{◌≡◌, refl, ap, sym, ◌∙◌}
use mathlib.Core.Bool.{Bool, true, false, ◌||◌, or-true, or-false}
use Prim.Native.Nat.{ℕ, ◌+◌, ◌-◌, ◌*◌, ◌/◌, ◌%◌, ◌^◌, ◌≤◌, ◌<◌, max}
use native.Mathlib.Omega.{arith}
use native.Mathlib.Nat.{max-eq_left, max-eq_right, lt_of_lt_of_le, lt_of_le_of_lt, mod-lt}
use native.Mathlib.Decide.{dec_lt}
use lib.Dec.{eqb, lit<, lit≤}
use lib.Pow.{pow_mono, pow-lt, shr_le}
use lib.Bits.{bit_or, or_lt}
use borrow.Author.Tests.{lt-ltb, le-ltb, le-leb, lt-leb, eq-eqb, ne_eqb}
use Rattle.std.specs.Prelude.{Err}
use Rattle.answers.specs.declared.Refusal.TheVariants.{Range}
use Rattle.dedup.specs.declared.Dedup.{Dedup}
use Rattle.dedup.specs.Bits.{bit}
use Rattle.dedup.specs.Dedup.{place, recorded, with_number, seen, holding, told, inserted}
use Rattle.dedup.proofs.BitLaws.{bit_shr, bit_shl, bit_shl_below, bit_or_law, bit_small, bit_zero, pack_bits}

-- a bit past a word's end
past : (a i : ℕ) → a < 2 ^ 64 → 64 ≤ i → bit a i ≡ false
past a i h l = bit_small a i (lt_of_lt_of_le h (pow_mono l))

-- the bits of 1
one_zero : bit 1 0 ≡ true
unfolding bit
one_zero = refl

one_more : (i : ℕ) → 0 < i → bit 1 i ≡ false
one_more i h = bit_small 1 i (pow-lt h)

-- a number is below another, is it, or is above it
three' : {X : Type 0} (p s : ℕ) → Dec (p < s) → Dec (s < p) → (p < s → X) → (p ≡ s → X) → (s < p → X) → X
three' p s (yes h) d a b c = a h
three' p s (no h) (yes k) a b c = c k
three' p s (no h) (no k) a b c = b (omega arith)

pub three : {X : Type 0} (p s : ℕ) → (p < s → X) → (p ≡ s → X) → (s < p → X) → X
three p s a b c = three' p s (dec_lt p s) (dec_lt s p) a b c

-- ((a << 1) | 1) << s
spread_below : (a s p : ℕ) → p < 64 → p < s → bit (bit_or (a * 2 % 2 ^ 64) 1 * 2 ^ s % 2 ^ 64) p ≡ false
spread_below a s p h l = bit_shl_below (bit_or (a * 2 % 2 ^ 64) 1) s 64 p h l

spread_at : (a s p : ℕ) → p < 64 → p ≡ s → bit (bit_or (a * 2 % 2 ^ 64) 1 * 2 ^ s % 2 ^ 64) p ≡ true
spread_at a s p h e =
    let z : p - s ≡ 0 = omega arith in
    bit_shl (bit_or (a * 2 % 2 ^ 64) 1) s 64 p h (omega arith) ∙ ap (bit (bit_or (a * 2 % 2 ^ 64) 1)) z
    ∙ bit_or_law (a * 2 % 2 ^ 64) 1 0 ∙ ap (λ (b : Bool). bit (a * 2 % 2 ^ 64) 0 || b) one_zero ∙ or-true (bit (a * 2 % 2 ^ 64) 0)

spread_above : (a s p : ℕ) → p < 64 → s < p → bit (bit_or (a * 2 % 2 ^ 64) 1 * 2 ^ s % 2 ^ 64) p ≡ bit a (p - s - 1)
spread_above a s p h l =
    bit_shl (bit_or (a * 2 % 2 ^ 64) 1) s 64 p h (omega arith) ∙ bit_or_law (a * 2 % 2 ^ 64) 1 (p - s)
    ∙ ap (λ (b : Bool). bit (a * 2 % 2 ^ 64) (p - s) || b) (one_more (p - s) (omega arith)) ∙ or-false _
    ∙ bit_shl a 1 64 (p - s) (omega arith) (omega arith)

-- ((a << 1) << s) | (b >> (63 - s))
carry_below : (a b s p : ℕ) → p < 64 → p ≤ s → s < 64
    → bit (bit_or (a * 2 % 2 ^ 64 * 2 ^ s % 2 ^ 64) (b / 2 ^ (63 - s))) p ≡ bit b ((63 - s) + p)
carry_below a b s p h l k =
    let x = a * 2 % 2 ^ 64 in
    let z : bit (x * 2 ^ s % 2 ^ 64) p ≡ false =
    three p s
    (λ m. bit_shl_below x s 64 p h m)
    (λ e.
    let o : p - s ≡ 0 = omega arith in
    bit_shl x s 64 p h (omega arith) ∙ ap (bit x) o ∙ bit_shl_below a 1 64 0 (lit< tt) (lit< tt))
    (λ m. absurd (omega arith))
    in
    bit_or_law (x * 2 ^ s % 2 ^ 64) (b / 2 ^ (63 - s)) p ∙ ap (λ (y : Bool). y || bit (b / 2 ^ (63 - s)) p) z ∙ bit_shr b (63 - s) p

carry_above : (a b s p : ℕ) → b < 2 ^ 64 → p < 64 → s < p → s < 64
    → bit (bit_or (a * 2 % 2 ^ 64 * 2 ^ s % 2 ^ 64) (b / 2 ^ (63 - s))) p ≡ bit a (p - s - 1)
carry_above a b s p hb h l k =
    bit_or_law (a * 2 % 2 ^ 64 * 2 ^ s % 2 ^ 64) (b / 2 ^ (63 - s)) p
    ∙ ap (λ (x : Bool). bit (a * 2 % 2 ^ 64 * 2 ^ s % 2 ^ 64) p || x) (bit_shr b (63 - s) p ∙ past b ((63 - s) + p) hb (omega arith))
    ∙ or-false _ ∙ bit_shl (a * 2 % 2 ^ 64) s 64 p h (omega arith) ∙ bit_shl a 1 64 (p - s) (omega arith) (omega arith)

-- 1 << s
mark_bit : (s p : ℕ) → p < 64 → bit (1 * 2 ^ s % 2 ^ 64) p ≡ eqb p s
mark_bit s p h =
    three p s
    (λ l. bit_shl_below 1 s 64 p h l ∙ sym (ne_eqb p s (λ e. omega arith)))
    (λ e.
    let z : p - s ≡ 0 = omega arith in
    bit_shl 1 s 64 p h (omega arith) ∙ ap (bit 1) z ∙ one_zero ∙ sym (eq-eqb p s e))
    (λ l. bit_shl 1 s 64 p h (omega arith) ∙ one_more (p - s) (omega arith) ∙ sym (ne_eqb p s (λ e. omega arith)))

-- two tests that agree
pub same_test : (a b c d : ℕ) → (a ≡ b → c ≡ d) → (c ≡ d → a ≡ b) → eqb a b ≡ eqb c d
same_test a b c d f g =
    three a b (λ l. ne_eqb a b (λ e. omega arith) ∙ sym (ne_eqb c d (λ e. let z = g e in omega arith))) (λ e. eq-eqb a b e ∙ sym (eq-eqb c d (f e)))
    (λ l. ne_eqb a b (λ e. omega arith) ∙ sym (ne_eqb c d (λ e. let z = g e in omega arith)))

-- places and marks
pub place_low : (a b p : ℕ) → p < 64 → place a b p ≡ bit a p
unfolding place
place_low a b p h = rw (lt-ltb p 64 h)

pub place_high : (a b p : ℕ) → 64 ≤ p → place a b p ≡ bit b (p - 64)
unfolding place
place_high a b p h = rw (le-ltb p 64 h)

pub recorded_top : (w : Dedup) (k : ℕ) → k ≡ w.next + 128 → recorded w k ≡ true
unfolding recorded
recorded_top w k e = rw (eq-eqb k (w.next + 128) e)

pub recorded_above : (w : Dedup) (k : ℕ) → w.next + 128 < k → recorded w k ≡ false
unfolding recorded
recorded_above w k h = rw (ne_eqb k (w.next + 128) (λ e. omega arith), le-ltb k (w.next + 128) (omega arith))

pub recorded_below : (w : Dedup) (k : ℕ) → k < w.next + 128 → recorded w k ≡ place w.low w.high (w.next + 127 - k)
unfolding recorded
recorded_below w k h = rw (ne_eqb k (w.next + 128) (λ e. omega arith), lt-ltb k (w.next + 128) h)

-- the words that hold the marks f says
words : (f : ℕ → Bool) (n a b : ℕ) → a < 2 ^ 64 → b < 2 ^ 64
    → ((p : ℕ) → p < 64 → bit a p ≡ f (n + 127 - p)) → ((p : ℕ) → p < 64 → bit b p ≡ f (n + 63 - p))
    → ◌≡◌ {A = Dedup} (record { low = a; high = b; next = n }) (holding f n)
unfolding holding
words f n a b ha hb la lb =
    rw (pack_bits 64 a (λ p. f (n + 127 - p)) ha la, pack_bits 64 b (λ p. f (n + 63 - p)) hb lb)

-- n is a packet number and the window is well formed
module _ (w : Dedup) (n : ℕ) (hn : n < 2 ^ 62) (hx : w.next ≤ 2 ^ 62) where
  pub inserted_new : seen w n ≡ false → inserted w n ≡ told false (holding (with_number w n) (max w.next (n + 1)))
  unfolding inserted
  inserted_new s = rw (lt-ltb n (2 ^ 62) hn, le-leb w.next (2 ^ 62) hx, s)

  pub inserted_seen : seen w n ≡ true → inserted w n ≡ told true w
  unfolding inserted
  inserted_seen s = rw (lt-ltb n (2 ^ 62) hn, le-leb w.next (2 ^ 62) hx, s)

-- ---- a number at or above next: the window slides by n - next

pub above_unseen : (w : Dedup) (n : ℕ) → w.next ≤ n → seen w n ≡ false
unfolding seen
above_unseen w n h = rw (lt-leb (n + 130) w.next (omega arith), recorded_above w (n + 129) (omega arith))

-- what is asked of the place q, of 128, after the slide by `by`; k is its mark
module _ (w : Dedup) (n by q k : ℕ) (e : w.next + by ≡ n) (l : q < 128) (ek : k + q ≡ n + 128) where
  other : with_number w n k ≡ recorded w k
  other = ap (λ (b : Bool). recorded w k || b) (ne_eqb k (n + 129) (λ z. omega arith)) ∙ or-false (recorded w k)

  slid_below : q < by → with_number w n k ≡ false
  slid_below m = other ∙ recorded_above w k (omega arith)

  slid_at : q ≡ by → with_number w n k ≡ true
  slid_at m = other ∙ recorded_top w k (omega arith)

  slid_above : (j : ℕ) → j + by + 1 ≡ q → with_number w n k ≡ place w.low w.high j
  slid_above j m =
      let z : w.next + 127 - k ≡ j = omega arith in
      other ∙ recorded_below w k (omega arith) ∙ ap (place w.low w.high) z

module _ (w : Dedup) (n by : ℕ) (la : w.low < 2 ^ 64) (e : w.next + by ≡ n) where
  slid : (a b : ℕ) → a < 2 ^ 64 → b < 2 ^ 64
      → ((p k : ℕ) → p < 64 → k + p ≡ n + 128 → bit a p ≡ with_number w n k)
      → ((p k : ℕ) → p < 64 → k + (64 + p) ≡ n + 128 → bit b p ≡ with_number w n k)
      → ◌≡◌ {A = Dedup} (record { low = a; high = b; next = n + 1 }) (holding (with_number w n) (n + 1))
  slid a b ha hb pa pb =
      words (with_number w n) (n + 1) a b ha hb (λ p l. pa p (n + 1 + 127 - p) l (omega arith)) (λ p l. pb p (n + 1 + 63 - p) l (omega arith))

  slid_far : 128 ≤ by → ◌≡◌ {A = Dedup} (record { low = 0; high = 0; next = n + 1 }) (holding (with_number w n) (n + 1))
  slid_far far =
      slid 0 0 (lit< tt) (lit< tt)
      (λ p k l ek. bit_zero p ∙ sym (slid_below w n by p k e (omega arith) ek (omega arith)))
      (λ p k l ek. bit_zero p ∙ sym (slid_below w n by (64 + p) k e (omega arith) ek (omega arith)))

  -- the place c + p, where the low word goes
  spread_places : (c s : ℕ) → c + s ≡ by → c ≤ 64 → (p k : ℕ) → p < 64 → k + (c + p) ≡ n + 128
      → bit (bit_or (w.low * 2 % 2 ^ 64) 1 * 2 ^ s % 2 ^ 64) p ≡ with_number w n k
  spread_places c s ec hc p k l ek =
      three p s
      (λ t. spread_below w.low s p l t ∙ sym (slid_below w n by (c + p) k e (omega arith) ek (omega arith)))
      (λ t. spread_at w.low s p l t ∙ sym (slid_at w n by (c + p) k e (omega arith) ek (omega arith)))
      (λ t.
      spread_above w.low s p l t
      ∙ sym (slid_above w n by (c + p) k e (omega arith) ek (p - s - 1) (omega arith) ∙ place_low w.low w.high (p - s - 1) (omega arith)))

  slid_word : (s : ℕ) → 64 + s ≡ by → s < 64
      → ◌≡◌ {A = Dedup} (record { low = 0; high = bit_or (w.low * 2 % 2 ^ 64) 1 * 2 ^ s % 2 ^ 64; next = n + 1 }) (holding (with_number w n) (n + 1))
  slid_word s es l =
      slid 0 (bit_or (w.low * 2 % 2 ^ 64) 1 * 2 ^ s % 2 ^ 64) (lit< tt) (mod-lt (bit_or (w.low * 2 % 2 ^ 64) 1 * 2 ^ s) (lit< tt))
      (λ p k m ek. bit_zero p ∙ sym (slid_below w n by p k e (omega arith) ek (omega arith)))
      (spread_places 64 s es (lit≤ tt))

  carry_places : by < 64 → (p k : ℕ) → p < 64 → k + (64 + p) ≡ n + 128
      → bit (bit_or (w.high * 2 % 2 ^ 64 * 2 ^ by % 2 ^ 64) (w.low / 2 ^ (63 - by))) p ≡ with_number w n k
  carry_places lb p k l ek =
      three p (by + 1)
      (λ t.
      carry_below w.high w.low by p l (omega arith) lb
      ∙ sym (slid_above w n by (64 + p) k e (omega arith) ek ((63 - by) + p) (omega arith) ∙ place_low w.low w.high ((63 - by) + p) (omega arith)))
      (λ t. above p k l ek (omega arith))
      (λ t. above p k l ek (omega arith))
    where
      above : (p k : ℕ) → p < 64 → k + (64 + p) ≡ n + 128 → by < p
          → bit (bit_or (w.high * 2 % 2 ^ 64 * 2 ^ by % 2 ^ 64) (w.low / 2 ^ (63 - by))) p ≡ with_number w n k
      above p k l ek t =
          let z : 64 + (p - by - 1) - 64 ≡ p - by - 1 = omega arith in
          carry_above w.high w.low by p la l t lb
          ∙ sym
          (slid_above w n by (64 + p) k e (omega arith) ek (64 + (p - by - 1)) (omega arith)
          ∙ place_high w.low w.high (64 + (p - by - 1)) (omega arith) ∙ ap (bit w.high) z)

  slid_near : by < 64
      → ◌≡◌ {A = Dedup}
      (record { low = bit_or (w.low * 2 % 2 ^ 64) 1 * 2 ^ by % 2 ^ 64; high = bit_or (w.high * 2 % 2 ^ 64 * 2 ^ by % 2 ^ 64) (w.low / 2 ^ (63 - by)); next = n + 1 })
      (holding (with_number w n) (n + 1))
  slid_near l =
      let x = w.high * 2 % 2 ^ 64 * 2 ^ by in
      slid (bit_or (w.low * 2 % 2 ^ 64) 1 * 2 ^ by % 2 ^ 64) (bit_or (x % 2 ^ 64) (w.low / 2 ^ (63 - by))) (mod-lt (bit_or (w.low * 2 % 2 ^ 64) 1 * 2 ^ by) (lit< tt))
      (or_lt 64 (x % 2 ^ 64) (w.low / 2 ^ (63 - by)) (mod-lt x (lit< tt)) (lt_of_le_of_lt (shr_le w.low (63 - by)) la))
      (λ p k m ek. spread_places 0 by (omega arith) (lit≤ tt) p k m (omega arith))
      (carry_places l)

-- the returns of `slide`
module _ (w : Dedup) (n : ℕ) (la : w.low < 2 ^ 64) (g : w.next ≤ n) where
  pub slide_far : 128 ≤ n - w.next → ◌≡◌ {A = Dedup} (record { low = 0; high = 0; next = n + 1 }) (holding (with_number w n) (n + 1))
  slide_far h = slid_far w n (n - w.next) la (omega arith) h

  pub slide_word : n - w.next < 128 → 64 ≤ n - w.next
      → ◌≡◌ {A = Dedup} (record { low = 0; high = bit_or (w.low * 2 % 2 ^ 64) 1 * 2 ^ (n - w.next - 64) % 2 ^ 64; next = n + 1 }) (holding (with_number w n) (n + 1))
  slide_word h k = slid_word w n (n - w.next) la (omega arith) (n - w.next - 64) (omega arith) (omega arith)

  pub slide_near : n - w.next < 64
      → ◌≡◌ {A = Dedup}
      (record { low = bit_or (w.low * 2 % 2 ^ 64) 1 * 2 ^ (n - w.next) % 2 ^ 64; high = bit_or (w.high * 2 % 2 ^ 64 * 2 ^ (n - w.next) % 2 ^ 64) (w.low / 2 ^ (63 - (n - w.next))); next = n + 1 })
      (holding (with_number w n) (n + 1))
  slide_near h = slid_near w n (n - w.next) la (omega arith) h

pub ruleset slides = (slide_far, slide_word, slide_near)

-- ---- a number below next

pub top_seen : (w : Dedup) (n : ℕ) → w.next ≡ n + 1 → seen w n ≡ true
unfolding seen
top_seen w n e = rw (recorded_top w (n + 129) (omega arith), or-true)

pub old_seen : (w : Dedup) (n : ℕ) → n + 130 ≤ w.next → seen w n ≡ true
unfolding seen
old_seen w n h = rw (le-leb (n + 130) w.next h)

in_seen : (w : Dedup) (n p : ℕ) → n + 2 + p ≡ w.next → p < 128 → seen w n ≡ place w.low w.high p
unfolding seen
in_seen w n p e l =
    let z : w.next + 127 - (n + 129) ≡ p = omega arith in
    rw (lt-leb (n + 130) w.next (omega arith), recorded_below w (n + 129) (omega arith), z)

back : (q : ℕ) → 64 + q - 64 ≡ q
back q = omega arith

-- one place more is set
module _ (w : Dedup) (n p : ℕ) (e : n + 2 + p ≡ w.next) (lp : p < 128) where
  other_place : (q k : ℕ) → q < 128 → k ≡ w.next + 127 - q → with_number w n k ≡ (place w.low w.high q || eqb q p)
  other_place q k l ek =
      let z : w.next + 127 - k ≡ q = omega arith in
      rw (recorded_below w k (omega arith), z, same_test k (n + 129) q p (λ t. omega arith) (λ t. omega arith))

  marked : (a b : ℕ) → a < 2 ^ 64 → b < 2 ^ 64
      → ((q : ℕ) → q < 64 → bit a q ≡ (bit w.low q || eqb q p)) → ((q : ℕ) → q < 64 → bit b q ≡ (bit w.high q || eqb (64 + q) p))
      → ◌≡◌ {A = Dedup} (record { low = a; high = b; next = w.next }) (holding (with_number w n) w.next)
  marked a b ha hb pa pb =
      words (with_number w n) w.next a b ha hb
      (λ q l. pa q l ∙ sym (other_place q _ (omega arith) refl ∙ rw place_low))
      (λ q l.
      pb q l
      ∙ sym
      (other_place (64 + q) _ (omega arith) (omega arith)
      ∙ ap (λ (b : Bool). b || eqb (64 + q) p) (place_high w.low w.high (64 + q) (omega arith) ∙ ap (bit w.high) (back q))))

-- the returns of `mark`
module _ (w : Dedup) (n : ℕ) (la : w.low < 2 ^ 64) (lb : w.high < 2 ^ 64) (l : n + 2 ≤ w.next) (h : w.next ≤ n + 129) where
  pub mark_low : w.next - 2 - n < 64
      → ◌≡◌ {A = Dedup} (record { low = bit_or w.low (1 * 2 ^ (w.next - 2 - n) % 2 ^ 64); high = w.high; next = w.next }) (holding (with_number w n) w.next)
  mark_low k =
      let p = w.next - 2 - n in
      marked w n p (omega arith) (omega arith) (bit_or w.low (1 * 2 ^ p % 2 ^ 64)) w.high
      (or_lt 64 w.low (1 * 2 ^ p % 2 ^ 64) la (mod-lt (1 * 2 ^ p) (lit< tt))) lb
      (λ q m. bit_or_law w.low (1 * 2 ^ p % 2 ^ 64) q ∙ ap (λ (b : Bool). bit w.low q || b) (mark_bit p q m))
      (λ q m. sym (ap (λ (b : Bool). bit w.high q || b) (ne_eqb (64 + q) p (λ t. omega arith)) ∙ or-false (bit w.high q)))

  pub mark_high : 64 ≤ w.next - 2 - n
      → ◌≡◌ {A = Dedup} (record { low = w.low; high = bit_or w.high (1 * 2 ^ (w.next - 2 - n - 64) % 2 ^ 64); next = w.next }) (holding (with_number w n) w.next)
  mark_high g =
      let p = w.next - 2 - n in
      let s = w.next - 2 - n - 64 in
      marked w n p (omega arith) (omega arith) w.low (bit_or w.high (1 * 2 ^ s % 2 ^ 64)) la
      (or_lt 64 w.high (1 * 2 ^ s % 2 ^ 64) lb (mod-lt (1 * 2 ^ s) (lit< tt)))
      (λ q m. sym (ap (λ (b : Bool). bit w.low q || b) (ne_eqb q p (λ t. omega arith)) ∙ or-false (bit w.low q)))
      (λ q m.
      bit_or_law w.high (1 * 2 ^ s % 2 ^ 64) q
      ∙ ap (λ (b : Bool). bit w.high q || b) (mark_bit s q m ∙ same_test q s (64 + q) p (λ t. omega arith) (λ t. omega arith)))

pub ruleset marks = (mark_low, mark_high)

-- the returns of `is_set`
pub set_low : (a b p : ℕ) → p < 64 → eqb (a / 2 ^ p % 2) 1 ≡ place a b p
unfolding bit
set_low a b p l = sym (place_low a b p l)

pub set_high : (a b p : ℕ) → 64 ≤ p → eqb (b / 2 ^ (p - 64) % 2) 1 ≡ place a b p
unfolding bit
set_high a b p l = sym (place_high a b p l)

pub ruleset sets = (set_low, set_high)

within : (w : Dedup) (n : ℕ) → n < w.next → (w.next - 1 - n ≡ 0 → ⊥) → w.next - 1 - n ≤ 128 → seen w n ≡ place w.low w.high (w.next - 1 - n - 1)
within w n g z o = in_seen w n (w.next - 1 - n - 1) (omega arith) (omega arith)

-- ---- the returns of `insert`: the premises are the code's own tests and what its callees promise

module _ (w : Dedup) (n : ℕ) where
  pub insert_range_law : 2 ^ 62 ≤ n → Err Range ≡ inserted w n
  unfolding inserted
  insert_range_law h = rw (le-ltb n (2 ^ 62) h)

  pub insert_ill : n < 2 ^ 62 → 2 ^ 62 < w.next → Err Range ≡ inserted w n
  unfolding inserted
  insert_ill h l = rw (lt-ltb n (2 ^ 62) h, lt-leb w.next (2 ^ 62) l)

  pub insert_right : {v : Dedup} → v ≡ holding (with_number w n) (n + 1) → n < 2 ^ 62 → w.next ≤ 2 ^ 62 → w.next ≤ n → told false v ≡ inserted w n
  insert_right e hn hx g =
      let m : max w.next (n + 1) ≡ n + 1 = max-eq_right (omega arith) in
      ap (told false) e ∙ sym (inserted_new w n hn hx (above_unseen w n g) ∙ rw m)

  module _ (hn : n < 2 ^ 62) (hx : w.next ≤ 2 ^ 62) (g : n < w.next) where
    pub insert_top : w.next - 1 - n ≡ 0 → told true w ≡ inserted w n
    insert_top h = sym (inserted_seen w n hn hx (top_seen w n (omega arith)))

    pub insert_old : 128 < w.next - 1 - n → told true w ≡ inserted w n
    insert_old h = sym (inserted_seen w n hn hx (old_seen w n (omega arith)))

    module _ (z : w.next - 1 - n ≡ 0 → ⊥) (o : w.next - 1 - n ≤ 128) {b : Bool} (e : b ≡ place w.low w.high (w.next - 1 - n - 1)) where
      pub insert_again : b ≡ true → told true w ≡ inserted w n
      insert_again y = sym (inserted_seen w n hn hx (within w n g z o ∙ sym e ∙ y))

      pub insert_within : {v : Dedup} → v ≡ holding (with_number w n) w.next → b ≡ false → told false v ≡ inserted w n
      insert_within f y =
          let m : max w.next (n + 1) ≡ w.next = max-eq_left (omega arith) in
          ap (told false) f ∙ sym (inserted_new w n hn hx (within w n g z o ∙ sym e ∙ y) ∙ rw m)

pub ruleset inserts = (insert_range_law, insert_ill, insert_right, insert_top, insert_old, insert_again, insert_within)
