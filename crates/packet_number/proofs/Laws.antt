-- What each definition comes to at each return of the code: by its tests alone, and by the sizes of four windows.
-- Assumes nothing.
use Prim.Native.Nat.{ℕ, zero, suc, ◌+◌, ◌-◌, ◌*◌, ◌/◌, ◌%◌, ◌^◌, ◌<◌, ◌≤◌}
use mathlib.Core.Path.{◌≡◌, refl, ap, subst}
use mathlib.Core.Bool.{Bool, true, false, ◌&&◌}
use mathlib.Core.Logic.{⊎_elim}
use mathlib.Core.List.{List}
use native.Mathlib.Omega.{arith}
use native.Mathlib.Nat.{pow-suc, pow-le-pow_right, one-le-pow}
use lib.ListN.{get_or, length}
use lib.Dec.{ltb, leb, lit<}
use borrow.Author.Tests.{lt-ltb, le-ltb, le-leb, lt-leb, ltb-true, leb-true}
use Rattle.answers.proofs.Tests.{split}
use Rattle.std.specs.Prelude.{Ok, Err, Some, None}
use Rattle.answers.specs.declared.Refusal.{Refusal}
use Rattle.answers.specs.declared.Refusal.TheVariants.{Short, Range, Room}
use Rattle.big_endian.specs.Bytes.{put_bytes, get_bytes}
use Rattle.big_endian.proofs.Laws.{put_all, nothing_got, number_got, number_lt}
use mir.Val.{Fits}
use mir.Syntax.{w8}
use Rattle.packet_number.specs.declared.Encoded.{Encoded}
use Rattle.packet_number.specs.PacketNumber.{limit, distance, writable, window, fewest, len_of, taken, new_of, done, encode_of, digits, candidate, too_low, too_high, moved, choice, found, readable, expand_of}

-- two tests hold where their conjunction does
pub both : (a b : Bool) → (a && b) ≡ true → (a ≡ true) × (b ≡ true)
both true b h = (refl, h)
both false b h = let y : ◌≡◌ {A = ℕ} 0 1 = cc in let z : ⊥ = omega arith in absurd z

-- ---- the windows
pub window_shift : (k : ℕ) → k ≤ 4 → 1 * 2 ^ (8 * k) % 2 ^ 64 ≡ window k
unfolding window
window_shift zero h = refl
window_shift (suc zero) h = refl
window_shift (suc (suc zero)) h = refl
window_shift (suc (suc (suc zero))) h = refl
window_shift (suc (suc (suc (suc zero)))) h = refl
window_shift (suc (suc (suc (suc (suc k))))) h = let z : ⊥ = omega arith in absurd z

pub window_pos : (k : ℕ) → 1 ≤ window k
unfolding window
window_pos k = one-le-pow k 256 (lit< tt)

pub window_le : (k : ℕ) → k ≤ 4 → window k ≤ 2 ^ 32
unfolding window
window_le k h = pow-le-pow_right (lit< {m = 0} {n = 256} tt) h

pub window_mono : {k n : ℕ} → k ≤ n → window k ≤ window n
unfolding window
window_mono h = pow-le-pow_right (lit< {m = 0} {n = 256} tt) h

pub window_suc : (k : ℕ) → window (suc k) ≡ window k * 256
unfolding window
window_suc k = pow-suc 256 k

-- ---- writing
module _ (number acked : ℕ) where
  pub writable_below : number < acked → false ≡ writable number acked
  unfolding writable
  writable_below h = rw (lt-leb acked number h)

  pub writable_past : acked ≤ number → limit ≤ number → false ≡ writable number acked
  unfolding writable
  writable_past g h = rw (le-leb acked number g, le-ltb number limit h)

  -- what is not past the number is below the limit as it is
  pub writable_by : acked ≤ number → number < limit → ltb (number - acked) (2 ^ 31) ≡ writable number acked
  unfolding writable distance
  writable_by g h = rw (le-leb acked number g, lt-ltb number limit h, lt-ltb acked limit (omega arith))

  pub writable_order : writable number acked ≡ true → acked ≤ number
  unfolding writable
  writable_order h = leb-true acked number (both (leb acked number) _ h).0

  pub writable_limit : writable number acked ≡ true → number < limit
  unfolding writable
  writable_limit h = ltb-true number limit (both (ltb number limit) _ (both (leb acked number) _ h).1).0

  pub writable_near : writable number acked ≡ true → distance number acked < 2 ^ 31
  unfolding writable
  writable_near h =
      ltb-true _ _ (both (ltb acked limit) _ (both (ltb number limit) _ (both (leb acked number) _ h).1).1).1

  pub writable_close : writable number acked ≡ true → number - acked < 2 ^ 31
  unfolding distance
  writable_close h = writable_near h

module _ (d : ℕ) where
  pub fewest_1 : 2 * d < 256 → 1 ≡ fewest d
  unfolding fewest window
  fewest_1 h = rw (lt-ltb (2 * d) 256 h)

  pub fewest_2 : 256 ≤ 2 * d → 2 * d < 65536 → 2 ≡ fewest d
  unfolding fewest window
  fewest_2 g h = rw (le-ltb (2 * d) 256 g, lt-ltb (2 * d) 65536 h)

  pub fewest_3 : 65536 ≤ 2 * d → 2 * d < 16777216 → 3 ≡ fewest d
  unfolding fewest window
  fewest_3 g h = rw (le-ltb (2 * d) 256 (omega arith), le-ltb (2 * d) 65536 g, lt-ltb (2 * d) 16777216 h)

  pub fewest_4 : 16777216 ≤ 2 * d → 4 ≡ fewest d
  unfolding fewest window
  fewest_4 g = rw (le-ltb (2 * d) 256 (omega arith), le-ltb (2 * d) 65536 (omega arith), le-ltb (2 * d) 16777216 g)

  -- what holds of each of the four lengths that can come out holds of the length
  pub by_length : (P : ℕ → Type 0)
      → (2 * d < 256 → P 1) → (256 ≤ 2 * d → 2 * d < 65536 → P 2) → (65536 ≤ 2 * d → 2 * d < 16777216 → P 3) → (16777216 ≤ 2 * d → P 4)
      → P (fewest d)
  by_length P one two three four =
      ⊎_elim
      (λ h. subst P (fewest_1 h) (one h))
      (λ a. ⊎_elim
      (λ h. subst P (fewest_2 a h) (two a h))
      (λ b. ⊎_elim (λ h. subst P (fewest_3 b h) (three b h)) (λ c. subst P (fewest_4 c) (four c)) (split (2 * d) 16777216))
      (split (2 * d) 65536))
      (split (2 * d) 256)

  pub fewest_low : 1 ≤ fewest d
  fewest_low = by_length (λ k. 1 ≤ k) (λ _. omega arith) (λ _ _. omega arith) (λ _ _. omega arith) (λ _. omega arith)

  pub fewest_high : fewest d ≤ 4
  fewest_high = by_length (λ k. k ≤ 4) (λ _. omega arith) (λ _ _. omega arith) (λ _ _. omega arith) (λ _. omega arith)

module _ (number acked : ℕ) where
  pub new_refuses : writable number acked ≡ false → Err Range ≡ new_of number acked
  unfolding new_of
  new_refuses h = rw h

  pub new_takes : {k w : ℕ} → writable number acked ≡ true → k ≡ fewest (number - acked) → w ≡ window k
      → Ok (record { len = k; value = number % w }) ≡ new_of number acked
  unfolding new_of distance
  new_takes h e f = rw (f, e, h)

  module _ (out : List ℕ) where
    -- `new` refuses, so `encode` does
    pub encode_refuses : {w : Refusal} → Err w ≡ new_of number acked → done (Err w) out ≡ encode_of out number acked
    unfolding encode_of new_of
    encode_refuses {w} e = by_writable (writable number acked) refl where
      by_writable : (b : Bool) → writable number acked ≡ b → done (Err w) out ≡ encode_of out number acked
      by_writable true h = let f = rw h at e in let z : ⊥ = cc in absurd z
      by_writable false h = let f = rw h at e in rw h (ap (λ r. done r out) f)

    module _ {r : Encoded} (e : Ok r ≡ new_of number acked) where
      -- `new` describes the field, so the number can be written
      took : (writable number acked ≡ true) × (r ≡ taken (len_of number acked) number)
      unfolding new_of
      took = by_writable (writable number acked) refl where
        by_writable : (b : Bool) → writable number acked ≡ b → (writable number acked ≡ true) × (r ≡ taken (len_of number acked) number)
        by_writable true h = let f = rw h at e in (h, cc)
        by_writable false h = let f = rw h at e in let z : ⊥ = cc in absurd z

      pub encode_room : length out < r.len → done (Err Room) out ≡ encode_of out number acked
      unfolding encode_of
      encode_room l = rw (took.0, lt-leb (len_of number acked) (length out) (rw took.1 at l))

      pub encode_puts : {left : List ℕ} → r.len ≤ length out → left ≡ put_bytes r.len number out
          → done (Ok r) left ≡ encode_of out number acked
      unfolding encode_of
      encode_puts l p = rw (p, put_all r.len number out l, took.1, took.0, le-leb (len_of number acked) (length out) (rw took.1 at l))

-- ---- reading
-- bytes are a number of their window
pub number_fits : (s : List ℕ) → ((k : ℕ) → Fits w8 (get_or s k 0)) → (len : ℕ) {x w : ℕ} → Some x ≡ get_bytes len s → w ≡ window len → x < w
unfolding window
number_fits s h len e f = rw ((number_got len s e).1, f) (number_lt s (λ k. omega (arith, h k)) len)

-- A.3's tests, as the code makes them
module _ (expected win c : ℕ) where
  pub low_here : c + win / 2 ≤ expected → c + win < limit → too_low expected win c ≡ true
  low_here g h = rw (le-leb (c + win / 2) expected g, lt-ltb (c + win) limit h)

  pub low_not : expected < c + win / 2 → too_low expected win c ≡ false
  low_not g = rw (lt-leb (c + win / 2) expected g)

  pub low_past : c + win / 2 ≤ expected → limit ≤ c + win → too_low expected win c ≡ false
  low_past g h = rw (le-leb (c + win / 2) expected g, le-ltb (c + win) limit h)

  pub high_here : expected + win / 2 < c → win ≤ c → too_high expected win c ≡ true
  high_here g h = rw (lt-ltb (expected + win / 2) c g, le-leb win c h)

  pub high_not : c ≤ expected + win / 2 → too_high expected win c ≡ false
  high_not g = rw (le-ltb (expected + win / 2) c g)

  pub high_zero : expected + win / 2 < c → c < win → too_high expected win c ≡ false
  high_zero g h = rw (lt-ltb (expected + win / 2) c g, lt-leb win c h)

module _ (expected win truncated : ℕ) where
  pub choice_up : too_low expected win (candidate expected win truncated) ≡ true
      → candidate expected win truncated + win ≡ choice expected win truncated
  unfolding choice moved
  choice_up h = rw h

  pub choice_down : too_low expected win (candidate expected win truncated) ≡ false → too_high expected win (candidate expected win truncated) ≡ true
      → candidate expected win truncated - win ≡ choice expected win truncated
  unfolding choice moved
  choice_down g h = rw (g, h)

  pub choice_stays : too_low expected win (candidate expected win truncated) ≡ false → too_high expected win (candidate expected win truncated) ≡ false
      → candidate expected win truncated ≡ choice expected win truncated
  unfolding choice moved
  choice_stays g h = rw (g, h)

module _ (len largest : ℕ) (h : readable len largest ≡ true) where
  pub readable_low : 1 ≤ len
  readable_low = leb-true 1 len (both (leb 1 len) _ h).0

  pub readable_high : len ≤ 4
  readable_high = leb-true len 4 (both (leb len 4) (ltb largest limit) (both (leb 1 len) _ h).1).0

  pub readable_limit : largest < limit
  readable_limit = ltb-true largest limit (both (leb len 4) (ltb largest limit) (both (leb 1 len) _ h).1).1

module _ (len largest : ℕ) where
  pub readable_by : 1 ≤ len → len ≤ 4 → largest < limit → readable len largest ≡ true
  readable_by a b c = rw (le-leb 1 len a, le-leb len 4 b, lt-ltb largest limit c)

  pub readable_none : len ≡ 0 → readable len largest ≡ false
  readable_none e = rw e

  pub readable_long : 4 < len → readable len largest ≡ false
  readable_long h = rw (le-leb 1 len (omega arith), lt-leb len 4 h)

  pub readable_past : 1 ≤ len → len ≤ 4 → limit ≤ largest → readable len largest ≡ false
  readable_past a b h = rw (le-leb 1 len a, le-leb len 4 b, le-ltb largest limit h)

module _ (s : List ℕ) (len largest : ℕ) where
  pub expand_refuses : readable len largest ≡ false → Err Range ≡ expand_of s len largest
  unfolding expand_of
  expand_refuses h = rw h

  module _ (h : readable len largest ≡ true) where
    pub expand_short : None ≡ get_bytes len s → Err Short ≡ expand_of s len largest
    unfolding expand_of
    expand_short g =
        let m = readable_high len largest h in
        rw (h, lt-leb len (length s) (nothing_got len s (omega arith) g))

    pub expand_found : len ≤ length s → found (choice (largest + 1) (window len) (digits s len)) ≡ expand_of s len largest
    unfolding expand_of
    expand_found l = rw (h, le-leb len (length s) l)

    module _ {w t v : ℕ} (l : len ≤ length s) (p : w ≡ window len) (q : t ≡ digits s len) (e : v ≡ choice (largest + 1) w t) where
      found_is : found v ≡ expand_of s len largest
      found_is = rw (e, p, q) (expand_found l)

      pub expand_past : limit ≤ v → Err Range ≡ expand_of s len largest
      expand_past g = rw (le-ltb v limit g) at found_is

      pub expand_reads : v < limit → Ok v ≡ expand_of s len largest
      expand_reads g = rw (lt-ltb v limit g) at found_is
