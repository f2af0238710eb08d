-- What the set's operations make of a list of ranges (01, Range set), by recursion on the list, and what a call leaves in memory.
-- The theorems that these are the sets meant are in proofs/: Insert.antt, Remove.antt, Within.antt, Changes.antt.
-- Assumes nothing.
use Rattle.std.specs.Prelude.{Result, Ok, Err, ℕ, ◌+◌, ◌/◌, min, max, Bool, true, false, cond, ◌&&◌, ◌||◌, List, [], ◌∷◌, length, ltb, leb}
use Rattle.answers.specs.declared.Refusal.{Refusal}
use Rattle.answers.specs.declared.Refusal.TheVariants.{Full}
use Rattle.range_list.specs.Ranges.{Range, read, flat, over}
use Rattle.range_edit.specs.declared.Changed.{Changed}
use Rattle.range_edit.specs.declared.Replaced.{Replaced}
use Rattle.range_edit.specs.declared.Grown.{Grown}
use Rattle.range_edit.specs.declared.Cut.{Cut}

-- rs with the numbers s..e put in, where s < e: what touches them is one range with them
abbrev pub insert : ℕ → ℕ → List Range → List Range
insert s e [] = record { lo = s; hi = e } ∷ []
insert s e (r ∷ rs) =
    cond (ltb r.hi s) (r ∷ insert s e rs)
    (cond (ltb e r.lo) (record { lo = s; hi = e } ∷ r ∷ rs)
    (insert (min s r.lo) (max e r.hi) rs))

-- one range of rs has all of s..e: nothing of s..e is new
abbrev pub covers : ℕ → ℕ → List Range → Bool
covers s e [] = false
covers s e (r ∷ rs) = leb r.lo s && leb e r.hi || covers s e rs

-- a..b before rs, where it has a number
abbrev pub piece : ℕ → ℕ → List Range → List Range
piece a b rs = cond (ltb a b) (record { lo = a; hi = b } ∷ rs) rs

-- rs without the numbers s..e, where s < e: what each range has below s, and from e on
abbrev pub remove : ℕ → ℕ → List Range → List Range
remove s e [] = []
remove s e (r ∷ rs) = piece r.lo (min s r.hi) (piece (max e r.lo) r.hi (remove s e rs))

-- a range of rs has a number of s..e
abbrev pub meets : ℕ → ℕ → List Range → Bool
meets s e [] = false
meets s e (r ∷ rs) = ltb r.lo e && ltb s r.hi || meets s e rs

-- the numbers of rs that lie in s..e: mere touching leaves nothing
abbrev pub within : ℕ → ℕ → List Range → List Range
within s e [] = []
within s e (r ∷ rs) = piece (max s r.lo) (min e r.hi) (within s e rs)

-- what a call leaves: its answer, and the memory
pub record Done : Type 0 where
  pub out : Result Changed Refusal
  pub mem : List ℕ

abbrev pub done : Result Changed Refusal → List ℕ → Done
done r m = record { out = r; mem = m }

-- a refusal: its reason, and the memory as it was
abbrev pub refuse : Refusal → List ℕ → Done
refuse why l = done (Err why) l

-- the set is as it was
abbrev pub stay : List ℕ → ℕ → Done
stay l n = done (Ok (record { count = n; changed = false })) l

-- the set becomes rs, where there is room for it: else Full
abbrev pub settle : List Range → List ℕ → Done
settle rs l =
    cond (leb (length rs) (length l / 2))
    (done (Ok (record { count = length rs; changed = true })) (over (flat rs) l))
    (refuse Full l)

-- s..e put into the n ranges of l, and taken out of them
unfoldable pub insert_into : List ℕ → ℕ → ℕ → ℕ → Done
insert_into l n s e = cond (covers s e (read l 0 n)) (stay l n) (settle (insert s e (read l 0 n)) l)

unfoldable pub remove_from : List ℕ → ℕ → ℕ → ℕ → Done
remove_from l n s e = cond (meets s e (read l 0 n)) (settle (remove s e (read l 0 n)) l) (stay l n)

-- what a call leaves that writes two memories
pub record Both : Type 0 where
  pub out : Result Replaced Refusal
  pub mem : List ℕ
  pub parts : List ℕ

abbrev pub both : Result Replaced Refusal → List ℕ → List ℕ → Both
both r l m = record { out = r; mem = l; parts = m }

abbrev pub refuse_both : Refusal → List ℕ → List ℕ → Both
refuse_both why l m = both (Err why) l m

-- the set becomes rs in l, and m holds ps, where there is room for both: else Full
abbrev pub settle_both : List Range → List Range → List ℕ → List ℕ → Both
settle_both rs ps l m =
    cond (leb (length rs) (length l / 2) && leb (length ps) (length m / 2))
    (both (Ok (record { count = length rs; parts = length ps })) (over (flat rs) l) (over (flat ps) m))
    (refuse_both Full l m)

-- s..e put into the n ranges of l, with what of it was there already written to m
unfoldable pub replace_in : List ℕ → ℕ → ℕ → ℕ → List ℕ → Both
replace_in l n s e m = settle_both (insert s e (read l 0 n)) (within s e (read l 0 n)) l m

-- ---- what the code finds on its way

-- how many ranges end below s, before the first that does not
abbrev pub below : ℕ → List Range → ℕ
below s [] = 0
below s (r ∷ rs) = cond (ltb r.hi s) (below s rs + 1) 0

-- s..e with the ranges of rs taken in that touch it, up to the first that does not, and the number of that one, where rs starts with number i
abbrev pub grown : ℕ → ℕ → ℕ → List Range → Grown
grown i s e [] = record { upto = i; lo = s; hi = e }
grown i s e (r ∷ rs) = cond (ltb e r.lo) (record { upto = i; lo = s; hi = e }) (grown (i + 1) (min s r.lo) (max e r.hi) rs)

-- the first range of rs has all of s..e
abbrev pub head_covers : ℕ → ℕ → List Range → Bool
head_covers s e [] = false
head_covers s e (r ∷ rs) = leb r.lo s && leb e r.hi

-- the number of the first range of rs that starts at e or after it, where rs starts with number i, and the end of the one before, b where there is none
abbrev pub cut : ℕ → ℕ → ℕ → List Range → Cut
cut i e b [] = record { upto = i; last = b }
cut i e b (r ∷ rs) = cond (ltb r.lo e) (cut (i + 1) e r.hi rs) (record { upto = i; last = b })

-- the part of each range that lies in s..e
abbrev pub clipped : ℕ → ℕ → List Range → List Range
clipped s e [] = []
clipped s e (r ∷ rs) = record { lo = max s r.lo; hi = min e r.hi } ∷ clipped s e rs
