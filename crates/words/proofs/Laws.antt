-- One law for each return: its premises are the code's tests and what the calls before it promise. They hold by rewriting the definition with those.
-- Assumes nothing.
use mathlib.Core.Path.{◌≡◌, refl}
use mathlib.Core.List.{List, [], ◌∷◌}
use mathlib.Core.Bool.{Bool, true, false}
use Prim.Native.Nat.{ℕ, zero, suc, ◌+◌, ◌-◌, ◌%◌, ◌≤◌, ◌<◌}
use native.Mathlib.Omega.{arith}
use native.Mathlib.Numerals.{add-one}
use Rattle.std.specs.Prelude.{Some, None}
use lib.ListN.{length, drop, get_or, set, drop_of_length-le}
use lib.Seq.{drop-cons}
use borrow.Author.Tests.{lt-ltb, le-ltb, le-leb, lt-leb, eq-eqb, ne_eqb}
use Rattle.text.specs.declared.Word.{Word}
use Rattle.text.specs.declared.Number.{Number}
use Rattle.text.specs.declared.Bytes.{Bytes}
use Rattle.text.specs.Words.{word_at, spelt, is_end, same}
use Rattle.text.specs.Numbers.{number_at}
use Rattle.text.specs.Bytes.{bytes_at, done as doneB}
use Rattle.words.specs.declared.Cursor.{Cursor}
use Rattle.words.specs.Words.{failed, pushed, pushed_two, number_taken, option_taken, name_taken, bytes_taken, pairs_from, pairs_taken, numbers_taken, one_taken, words_from, Done, done, Both, both}

-- ---- a number more

module _ (c : Cursor) (next v : ℕ) (l : List ℕ) where
  pub push_full : {d : Cursor} → length l ≤ c.count → d ≡ failed c → done d l ≡ pushed c next v l
  unfolding pushed
  push_full h e = rw (le-leb (length l) c.count h, e)

  pub push_on : c.count < length l
      → done (record { ok = c.ok; at = next; count = c.count + 1; first = c.first; size = c.size }) (set l c.count v) ≡ pushed c next v l
  unfolding pushed
  push_on h = rw (lt-leb (length l) c.count h)

pub push_both : (c : Cursor) (next a b : ℕ) (l : List ℕ) {d e : Cursor} {m n : List ℕ}
    → done d m ≡ pushed c next a l → done e n ≡ pushed d next b m → done e n ≡ pushed_two c next a b l
unfolding pushed_two
push_both c next a b l p q = rw (← p) q

-- ---- a word of each kind

module _ (s : List ℕ) (c : Cursor) (l : List ℕ) where
  module _ {n : Number} (e : n ≡ number_at s c.at) where
    pub number_in : {v : ℕ} {r : Done} → n.value ≡ Some v → r ≡ pushed c n.next v l → r ≡ number_taken s c l
    unfolding number_taken
    number_in f g = rw (← e, f) g

    pub number_not : {d : Cursor} → n.value ≡ None → d ≡ failed c → done d l ≡ number_taken s c l
    unfolding number_taken
    number_not f g = rw (← e, f, g)

  module _ {w : Word} (k : w ≡ word_at s c.at) {t : Bool} where
    pub option_none : {r : Done} → t ≡ same (spelt s w) (45 ∷ []) → t ≡ true → r ≡ pushed_two c w.end 0 0 l → r ≡ option_taken s c l
    unfolding option_taken
    option_none q f g = rw (← k, ← q, f) g

    module _ {n : Number} (q : t ≡ same (spelt s w) (45 ∷ [])) (f : t ≡ false) (e : n ≡ number_at s c.at) where
      pub option_some : {v : ℕ} {r : Done} → n.value ≡ Some v → r ≡ pushed_two c n.next 1 v l → r ≡ option_taken s c l
      unfolding option_taken
      option_some h g = rw (← k, ← q, f, ← e, h) g

      pub option_not : {d : Cursor} → n.value ≡ None → d ≡ failed c → done d l ≡ option_taken s c l
      unfolding option_taken
      option_not h g = rw (← k, ← q, f, ← e, h, g)

    module _ (x y : List ℕ) (q : t ≡ same (spelt s w) x) where
      pub name_zero : {r : Done} → t ≡ true → r ≡ pushed c w.end 0 l → r ≡ name_taken s c x y l
      unfolding name_taken
      name_zero f g = rw (← k, ← q, f) g

      pub name_one : {u : Bool} {r : Done} → t ≡ false → u ≡ same (spelt s w) y → u ≡ true → r ≡ pushed c w.end 1 l → r ≡ name_taken s c x y l
      unfolding name_taken
      name_one f p h g = rw (← k, ← q, f, ← p, h) g

      pub name_not : {u : Bool} {d : Cursor} → t ≡ false → u ≡ same (spelt s w) y → u ≡ false → d ≡ failed c → done d l ≡ name_taken s c x y l
      unfolding name_taken
      name_not f p h g = rw (← k, ← q, f, ← p, h, g)

  module _ (second : Bool) {b : Bytes} {m : List ℕ} (e : doneB b m ≡ bytes_at s c.at l c.size) where
    pub bytes_second : {v : ℕ} → b.end ≡ Some v → second ≡ true
        → done (record { ok = c.ok; at = b.next; count = c.count; first = c.first; size = v }) m ≡ bytes_taken s c second l
    unfolding bytes_taken
    bytes_second f g = rw (← e, f, g)

    pub bytes_first : {v : ℕ} → b.end ≡ Some v → second ≡ false
        → done (record { ok = c.ok; at = b.next; count = c.count; first = v; size = v }) m ≡ bytes_taken s c second l
    unfolding bytes_taken
    bytes_first f g = rw (← e, f, g)

    pub bytes_not : {d : Cursor} → b.end ≡ None → d ≡ failed c → done d m ≡ bytes_taken s c second l
    unfolding bytes_taken
    bytes_not f g = rw (← e, f, g)

-- ---- pairs of numbers

pub pairs_end : (k : ℕ) (s : List ℕ) (c : Cursor) (l : List ℕ) {t : Bool} → t ≡ is_end s c.at → t ≡ true → pairs_from k s c l ≡ done c l
unfolding pairs_from
pairs_end zero s c l e f = refl
pairs_end (suc k) s c l e f = rw (← e, f)

pub pairs_on : (n i : ℕ) (s : List ℕ) (c : Cursor) (l : List ℕ) {t : Bool} {d : Cursor} {m : List ℕ}
    → i < n → t ≡ is_end s c.at → t ≡ false → done d m ≡ number_taken s c l → pairs_from (n - (i + 1)) s d m ≡ pairs_from (n - i) s c l
unfolding pairs_from
pairs_on n i s c l h e f g = let q : n - i ≡ suc (n - (i + 1)) = omega arith in rw (q, ← e, f, ← g)

pub pairs_done : (k : ℕ) (s : List ℕ) (c : Cursor) (l : List ℕ) → k ≡ 0 → pairs_from k s c l ≡ done c l
unfolding pairs_from
pairs_done k s c l e = rw e

module _ (s : List ℕ) (c : Cursor) (l : List ℕ) {d : Cursor} {m : List ℕ} (e : done d m ≡ pairs_from (length s) s c l) where
  pub pairs_less : {f : Cursor} → d.count < c.count → f ≡ failed d → done f m ≡ pairs_taken s c l
  unfolding pairs_taken
  pairs_less h g = rw (← e, lt-ltb d.count c.count h, g)

  pub pairs_odd : {f : Cursor} → c.count ≤ d.count → ((d.count - c.count) % 2 ≡ 0 → ⊥) → f ≡ failed d → done f m ≡ pairs_taken s c l
  unfolding pairs_taken
  pairs_odd h k g = rw (← e, le-ltb d.count c.count h, ne_eqb _ _ k, g)

  pub pairs_even : c.count ≤ d.count → (d.count - c.count) % 2 ≡ 0 → done d m ≡ pairs_taken s c l
  unfolding pairs_taken
  pairs_even h k = rw (← e, le-ltb d.count c.count h, eq-eqb _ _ k)

-- ---- a word of a kind, and of all kinds of a shape

module _ (s : List ℕ) (kind : ℕ) (c : Cursor) (l : List ℕ) where
  -- a kind that is k does what the definition says of k
  pub numbers_is : {r : Done} (k : ℕ) → kind ≡ k → r ≡ numbers_taken s k c l → r ≡ numbers_taken s kind c l
  numbers_is k e f = rw e f

  pub numbers_none : (kind ≡ 110 → ⊥) → (kind ≡ 111 → ⊥) → (kind ≡ 100 → ⊥) → (kind ≡ 115 → ⊥) → (kind ≡ 42 → ⊥) → done c l ≡ numbers_taken s kind c l
  unfolding numbers_taken
  numbers_none n o d p q = rw (ne_eqb kind 110 n, ne_eqb kind 111 o, ne_eqb kind 100 d, ne_eqb kind 115 p, ne_eqb kind 42 q)

  module _ (b : List ℕ) {d : Cursor} {m : List ℕ} where
    pub one_first : kind ≡ 104 → done d m ≡ bytes_taken s c false b → both d l m ≡ one_taken s kind c l b
    unfolding one_taken
    one_first k e = rw (eq-eqb kind 104 k, ← e)

    pub one_second : kind ≡ 103 → done d m ≡ bytes_taken s c true b → both d l m ≡ one_taken s kind c l b
    unfolding one_taken
    one_second k e = rw (k, ← e)

    pub one_numbers : (kind ≡ 104 → ⊥) → (kind ≡ 103 → ⊥) → done d m ≡ numbers_taken s kind c l → both d m b ≡ one_taken s kind c l b
    unfolding one_taken
    one_numbers h g e = rw (ne_eqb kind 104 h, ne_eqb kind 103 g, ← e)

pub words_on : (s shape : List ℕ) (i : ℕ) (c : Cursor) (l b : List ℕ) {d : Cursor} {m n : List ℕ}
    → i < length shape → both d m n ≡ one_taken s (get_or shape i 0) c l b → words_from s (drop (i + 1) shape) (both d m n) ≡ words_from s (drop i shape) (both c l b)
unfolding words_from
words_on s shape i c l b h e = rw (add-one, drop-cons shape i 0 h, e)

pub words_end : (s shape : List ℕ) (i : ℕ) (d : Both Cursor) → length shape ≤ i → d ≡ words_from s (drop i shape) d
unfolding words_from
words_end s shape i d h = rw (drop_of_length-le shape {i = i} h)
