-- Laws of what is put into a buffer: a step of a loop each, and one for each return. They hold by unfolding the definition at the front of what is left.
use mathlib.Core.Path.{◌≡◌, refl, sym, ap, ◌∙◌}
use mathlib.Core.List.{List, [], ◌∷◌, ◌++◌}
use Prim.Native.Nat.{ℕ, zero, suc, ◌+◌, ◌-◌, ◌*◌, ◌/◌, ◌%◌, ◌^◌, ◌≤◌, ◌<◌}
use native.Mathlib.Omega.{arith}
use native.Mathlib.Nat.{pow-suc, add-zero, le_refl}
use native.Mathlib.Numerals.{add-one}
use lib.ListN.{length, take, drop, get_or, set, length-drop, length-append, length-set, drop_of_length-le}
use lib.Seq.{take_all, drop-cons, get_or-set_same, drop-set-lt, sets}
use borrow.Author.Tests.{lt-ltb, le-ltb, le-leb, lt-leb}
use Rattle.std.specs.Prelude.{Ok, Err}
use Rattle.std.proofs.lemmas.List.Edits.{sets-eq}
use Rattle.std.proofs.lemmas.List.{append_assoc, drop-drop}
use borrow.Rule.Slice.PartMut.{put_mid}
use Rattle.answers.specs.declared.Refusal.TheVariants.{Room}
use Rattle.print.specs.Print.{glyph, decimal_onto, decimal, hexed, range, put_at, Done, done}

-- a part that is copied over
pub copied : (out s : List ℕ) (at k : ℕ) → k ≡ length s → at + length s ≤ length out → put_mid at k out s ≡ sets out at s
copied out s at k e h =
    rw (sets-eq s out at h, e) (ap (λ l. take at out ++ (s ++ l)) (drop-drop (length s) at out) ∙ sym (append_assoc (take at out) s (drop (at + length s) out)))

module _ (out s : List ℕ) (at i : ℕ) where
  pub spread_on : i < length s
      → sets (set (set out (at + 2 * i) (glyph (get_or s i 0 / 16))) (at + 2 * i + 1) (glyph (get_or s i 0 % 16))) (at + 2 * (i + 1)) (hexed (drop (i + 1) s))
      ≡ sets out (at + 2 * i) (hexed (drop i s))
  unfolding hexed
  spread_on h =
      let k : at + 2 * (i + 1) ≡ suc (suc (at + 2 * i)) = omega arith in
      let m : at + 2 * i + 1 ≡ suc (at + 2 * i) = omega arith in
      rw (k, m, add-one, drop-cons s i 0 h)

  pub spread_end : length s ≤ i → sets out (at + 2 * i) (hexed (drop i s)) ≡ out
  unfolding hexed
  spread_end h = rw (drop_of_length-le s {i = i} h)

pub drop_new : (d : List ℕ) (k g : ℕ) → k < length d → drop k (set d k g) ≡ g ∷ drop (suc k) d
drop_new d k g h =
    let l : k < length (set d k g) = rw (length-set d k g) h in
    rw (drop-cons (set d k g) k 0 l, get_or-set_same d k g 0 h, drop-set-lt (suc k) d k g (omega arith))

-- one digit more is spelt
pub record Spelt (i rest : ℕ) (d : List ℕ) : Type 0 where
  pub some : 1 ≤ i - 1
  pub below : rest / 10 < 10 ^ (i - 1)
  pub same : decimal_onto (i - 1) (rest / 10) (drop (i - 1) (set d (i - 1) (glyph (rest % 10)))) ≡ decimal_onto i rest (drop i d)

pub spell_on : (i rest : ℕ) (d : List ℕ) → 1 ≤ i → i ≤ length d → rest < 10 ^ i → 9 < rest → Spelt i rest d
unfolding decimal_onto
spell_on zero rest d h l b n = absurd (omega arith)
spell_on (suc zero) rest d h l b n = absurd (omega arith)
spell_on (suc (suc k)) rest d h l b n =
    let m : suc (suc k) - 1 ≡ suc k = omega arith in
    let p : 10 ^ suc (suc k) ≡ 10 ^ suc k * 10 = pow-suc 10 (suc k) in
    record {
      some = omega arith;
      below = rw m (omega arith);
      same = rw (m, drop_new d (suc k) (glyph (rest % 10)) (omega arith), lt-ltb 9 rest n);
    }

pub spell_end : (i rest : ℕ) (d : List ℕ) → 1 ≤ i → i ≤ length d → rest ≤ 9 → drop (i - 1) (set d (i - 1) (glyph rest)) ≡ decimal_onto i rest (drop i d)
unfolding decimal_onto
spell_end zero rest d h l n = absurd (omega arith)
spell_end (suc k) rest d h l n =
    let m : suc k - 1 ≡ k = omega arith in
    rw (m, drop_new d k (glyph rest) (omega arith), le-ltb 9 rest n)

pub spell_start : (n : ℕ) (d : List ℕ) → length d ≡ 20 → decimal_onto 20 n (drop 20 d) ≡ decimal n
unfolding decimal
spell_start n d e = rw (drop_of_length-le d {i = 20} (omega arith))

pub sets_append : (a l b : List ℕ) (i : ℕ) → sets (sets l i a) (i + length a) b ≡ sets l i (a ++ b)
sets_append [] l b i = rw add-zero
sets_append (x ∷ a) l b i = let e : i + suc (length a) ≡ suc i + length a = omega arith in rw (e, sets_append a (set l i x) b (suc i))

pub hexed_length : (s : List ℕ) → length (hexed s) ≡ 2 * length s
unfolding hexed
hexed_length [] = refl
hexed_length (b ∷ s) = let e : length (hexed s) ≡ 2 * length s = hexed_length s in omega arith

-- ---- one law for each return: n bytes s go to `at`, up to `end`

module _ (out : List ℕ) (at : ℕ) (s : List ℕ) {n : ℕ} (e : n ≡ length s) where
  pub put_none : length out < at + n → done (Err Room) out ≡ put_at out at s
  unfolding put_at
  put_none h = rw (lt-leb (at + length s) (length out) (omega arith))

  pub put_ok : {end : ℕ} {m : List ℕ} → end ≡ at + n → end ≤ length out → m ≡ sets out at s → done (Ok end) m ≡ put_at out at s
  unfolding put_at
  put_ok q h g = rw (le-leb (at + length s) (length out) (omega arith), g, q, e)

-- three parts, one behind the other
pub three_length : (a b c : List ℕ) → length a + length b + length c ≡ length (a ++ (b ++ c))
three_length a b c = simp length-append (omega arith)

pub three_sets : (out : List ℕ) (at : ℕ) (a b c : List ℕ) {x y z : List ℕ}
    → x ≡ sets out at a → y ≡ sets x (at + length a) b → z ≡ sets y (at + length a + length b) c → z ≡ sets out at (a ++ (b ++ c))
three_sets out at a b c p q r =
    r ∙ ap (λ l. sets l (at + length a + length b) c) q ∙ sets_append b _ c (at + length a) ∙ ap (λ l. sets l (at + length a) (b ++ c)) p ∙ sets_append a out (b ++ c) at

-- what stands from the first digit on
pub digits_are : (d : List ℕ) (i n : ℕ) → length d ≡ 20 → drop i d ≡ decimal n → take (20 - i) (drop i d) ≡ decimal n
digits_are d i n e f = take_all (20 - i) (drop i d) (rw (length-drop i d, e) (le_refl (20 - i))) ∙ f

pub number_put : (out : List ℕ) (at : ℕ) (d : List ℕ) (i n : ℕ) {r : Done} → r ≡ put_at out at (take (20 - i) (drop i d)) → length d ≡ 20 → drop i d ≡ decimal n
    → r ≡ put_at out at (decimal n)
number_put out at d i n e l f = rw (digits_are d i n l f) at e

pub range_put : (out : List ℕ) (at : ℕ) (d : List ℕ) (i a : ℕ) (e : List ℕ) (j b : ℕ) {r : Done}
    → r ≡ put_at out at (take (20 - i) (drop i d) ++ ((46 ∷ 46 ∷ []) ++ take (20 - j) (drop j e))) → length d ≡ 20 → drop i d ≡ decimal a → length e ≡ 20 → drop j e ≡ decimal b
    → r ≡ put_at out at (range a b)
unfolding range
range_put out at d i a e j b q l f m g = rw (digits_are d i a l f, digits_are e j b m g) at q
