-- The words of an event: what each kind of word adds to the numbers and bytes. A word that does not fit is not passed over, and all is then said not
-- to have fitted. Assumes nothing.
use Rattle.std.specs.Prelude.{ℕ, zero, suc, ◌+◌, ◌-◌, ◌%◌, List, [], ◌∷◌, Option, Some, None, Bool, true, false, cond, length, set, ltb, leb, eqb}
use Rattle.text.specs.Words.{word_at, spelt, is_end, same}
use Rattle.text.specs.Numbers.{number_at}
use Rattle.text.specs.Bytes.{bytes_at}
use Rattle.words.specs.declared.Cursor.{Cursor}

-- a result, and what is left in a lent list
pub record Done : Type 0 where
  pub out : Cursor
  pub mem : List ℕ

abbrev pub done : Cursor → List ℕ → Done
done c m = record { out = c; mem = m }

-- a result, and what is left in the lists of numbers and of bytes
pub record Both (A : Type 0) : Type 0 where
  pub out : A
  pub numbers : List ℕ
  pub bytes : List ℕ

abbrev pub both : {A : Type 0} → A → List ℕ → List ℕ → Both A
both r n b = record { out = r; numbers = n; bytes = b }

-- what comes of a value, and of none
abbrev pub on_value : {A : Type 0} → Option ℕ → (ℕ → A) → A → A
on_value (Some v) f d = f v
on_value None f d = d

abbrev pub failed : Cursor → Cursor
failed c = record { ok = false; at = c.at; count = c.count; first = c.first; size = c.size }

-- one number more, where there is a place for it
unfoldable pub pushed : Cursor → ℕ → ℕ → List ℕ → Done
pushed c next v l =
    cond (leb (length l) c.count) (done (failed c) l)
    (done (record { ok = c.ok; at = next; count = c.count + 1; first = c.first; size = c.size }) (set l c.count v))

unfoldable pub pushed_two : Cursor → ℕ → ℕ → ℕ → List ℕ → Done
pushed_two c next a b l = pushed (pushed c next a l).out next b (pushed c next a l).mem

-- n: a number
unfoldable pub number_taken : List ℕ → Cursor → List ℕ → Done
number_taken s c l = on_value (number_at s c.at).value (λ v. pushed c (number_at s c.at).next v l) (done (failed c) l)

-- o: a number, or -
unfoldable pub option_taken : List ℕ → Cursor → List ℕ → Done
option_taken s c l =
    cond (same (spelt s (word_at s c.at)) (45 ∷ [])) (pushed_two c (word_at s c.at).end 0 0 l)
    (on_value (number_at s c.at).value (λ v. pushed_two c (number_at s c.at).next 1 v l) (done (failed c) l))

-- one of two names
unfoldable pub name_taken : List ℕ → Cursor → List ℕ → List ℕ → List ℕ → Done
name_taken s c x y l =
    cond (same (spelt s (word_at s c.at)) x) (pushed c (word_at s c.at).end 0 l)
    (cond (same (spelt s (word_at s c.at)) y) (pushed c (word_at s c.at).end 1 l) (done (failed c) l))

-- h, g: a byte string, the first or the second
unfoldable pub bytes_taken : List ℕ → Cursor → Bool → List ℕ → Done
bytes_taken s c second l =
    on_value (bytes_at s c.at l c.size).out.end
    (λ e. done (record { ok = c.ok; at = (bytes_at s c.at l c.size).out.next; count = c.count; first = cond second c.first e; size = e }) (bytes_at s c.at l c.size).mem)
    (done (failed c) (bytes_at s c.at l c.size).mem)

-- numbers up to the end of the line; k bounds how many words there can be
unfoldable pub pairs_from : ℕ → List ℕ → Cursor → List ℕ → Done
pairs_from zero s c l = done c l
pairs_from (suc k) s c l = cond (is_end s c.at) (done c l) (pairs_from k s (number_taken s c l).out (number_taken s c l).mem)

-- as many as pairs have
abbrev pub paired : Cursor → Done → Done
paired c d =
    cond (ltb d.out.count c.count) (done (failed d.out) d.mem)
    (cond (eqb ((d.out.count - c.count) % 2) 0) d (done (failed d.out) d.mem))

-- *: pairs of numbers up to the end of the line
unfoldable pub pairs_taken : List ℕ → Cursor → List ℕ → Done
pairs_taken s c l = paired c (pairs_from (length s) s c l)

abbrev pub on_numbers : Done → List ℕ → Both Cursor
on_numbers d b = both d.out d.mem b

abbrev pub on_bytes : Done → List ℕ → Both Cursor
on_bytes d l = both d.out l d.mem

-- the words of a kind that adds numbers, which a letter names: n, o, d, s, *
unfoldable pub numbers_taken : List ℕ → ℕ → Cursor → List ℕ → Done
numbers_taken s kind c l =
    cond (eqb kind 110) (number_taken s c l)
    (cond (eqb kind 111) (option_taken s c l)
    (cond (eqb kind 100) (name_taken s c (98 ∷ 105 ∷ []) (117 ∷ 110 ∷ 105 ∷ []) l)
    (cond (eqb kind 115) (name_taken s c (99 ∷ 108 ∷ 105 ∷ 101 ∷ 110 ∷ 116 ∷ []) (115 ∷ 101 ∷ 114 ∷ 118 ∷ 101 ∷ 114 ∷ []) l)
    (cond (eqb kind 42) (pairs_taken s c l) (done c l)))))

-- the words of a kind: h, g, or one that adds numbers
unfoldable pub one_taken : List ℕ → ℕ → Cursor → List ℕ → List ℕ → Both Cursor
one_taken s kind c l b =
    cond (eqb kind 104) (on_bytes (bytes_taken s c false b) l)
    (cond (eqb kind 103) (on_bytes (bytes_taken s c true b) l) (on_numbers (numbers_taken s kind c l) b))

-- the words of a shape's kinds, one after the other
unfoldable pub words_from : List ℕ → List ℕ → Both Cursor → Both Cursor
words_from s [] d = d
words_from s (k ∷ ks) d = words_from s ks (one_taken s k d.out d.numbers d.bytes)

unfoldable pub words_taken : List ℕ → ℕ → List ℕ → List ℕ → List ℕ → Both Cursor
words_taken s at shape l b = words_from s shape (both (record { ok = true; at = at; count = 0; first = 0; size = 0 }) l b)
