-- A second set put into a set, or taken out of it (01, Range set: add, subtract), range by range, as the Rust does. `Way` says which.
-- Assumes nothing.
use Rattle.std.specs.Prelude.{ℕ, ◌+◌, ◌-◌, ◌*◌, ◌/◌, ◌≤◌, ◌<◌, ◌≡◌, Bool, true, cond, not, ◌&&◌, ◌⊎◌, List, [], ◌∷◌, length, get_or, set}
use Prim.{Unit}
use Rattle.range_list.specs.Ranges.{Range, read, well_formed}
use Rattle.range_many.specs.declared.Joint.{Joint}
use Rattle.range_many.specs.declared.Way.{Way}
use Rattle.range_many.specs.declared.Way.TheVariants.{PutIn, TakeOut}
use Rattle.range_edit.specs.Edits.{insert, remove, covers, meets, Done, stay, settle, insert_into, remove_from}

-- rs with s..e put in, or taken out
abbrev pub edited : Way → ℕ → ℕ → List Range → List Range
edited TakeOut s e rs = remove s e rs
edited PutIn s e rs = insert s e rs

-- rs with each range of qs put in, or taken out
abbrev pub edit_all : Way → List Range → List Range → List Range
edit_all way rs [] = rs
edit_all way rs (q ∷ qs) = edit_all way (edited way q.lo q.hi rs) qs

-- what one range put in, or taken out, does
abbrev pub edit_into : Way → List ℕ → ℕ → ℕ → ℕ → Done
edit_into TakeOut l n s e = remove_from l n s e
edit_into PutIn l n s e = insert_into l n s e

-- s..e changes nothing of rs: all of it is there already, or nothing of it is there
abbrev pub idle : Way → ℕ → ℕ → List Range → Bool
idle TakeOut s e rs = not (meets s e rs)
idle PutIn s e rs = covers s e rs

-- no range of qs changes anything of rs
abbrev pub idle_all : Way → List Range → List Range → Bool
idle_all way rs [] = true
idle_all way rs (q ∷ qs) = idle way q.lo q.hi rs && idle_all way rs qs

-- the ranges qs put into the n ranges of l, or taken out of them
unfoldable pub merge_into : Way → List ℕ → ℕ → List Range → Done
merge_into way l n qs = cond (idle_all way (read l 0 n) qs) (stay l n) (settle (edit_all way (read l 0 n) qs) l)

-- ---- what the code finds on its way

-- how many ranges fewer than one more s..e leaves, alone; and the sum of that over qs
abbrev pub fewer : Way → ℕ → ℕ → List Range → ℕ
fewer way s e rs = length rs + 1 - length (edited way s e rs)

abbrev pub ties : Way → List Range → List Range → ℕ
ties way rs [] = 0
ties way rs (q ∷ qs) = fewer way q.lo q.hi rs + ties way rs qs

-- s..e leaves a number of each range of rs; s..e does not reach from one range of rs to the next
abbrev pub Spares : ℕ → ℕ → List Range → Type 0
Spares s e [] = Unit {0}
Spares s e (r ∷ rs) = ((r.lo < s) ⊎ (e < r.hi)) × Spares s e rs

abbrev pub Loose : ℕ → ℕ → List Range → Type 0
Loose s e [] = Unit {0}
Loose s e (r ∷ []) = Unit {0}
Loose s e (r ∷ q ∷ rs) = ((r.hi < s) ⊎ (e < q.lo)) × Loose s e (q ∷ rs)

-- taking s..e out, or putting it in, leaves no fewer ranges
abbrev pub Fine : Way → ℕ → ℕ → List Range → Type 0
Fine TakeOut s e rs = Spares s e rs
Fine PutIn s e rs = Loose s e rs

abbrev pub FineAll : Way → List Range → List Range → Type 0
FineAll way [] rs = Unit {0}
FineAll way (q ∷ qs) rs = Fine way q.lo q.hi rs × FineAll way qs rs

-- rs without the ranges that lie in one of qs
abbrev pub spared : List Range → List Range → List Range
spared qs [] = []
spared qs (r ∷ rs) = cond (covers r.lo r.hi qs) (spared qs rs) (r ∷ spared qs rs)

-- range number i of l lies in one of qs; a..b stored at place k of l
abbrev pub lies : List Range → List ℕ → ℕ → Bool
lies qs l i = covers (get_or l (i * 2) 0) (get_or l (i * 2 + 1) 0) qs

abbrev pub stored : List ℕ → ℕ → ℕ → ℕ → List ℕ
stored l k a b = set (set l (k * 2) a) (k * 2 + 1) b

-- c and rs, joined where one of qs fills the gap
abbrev pub joined_to : List Range → Range → List Range → List Range
joined_to qs c [] = c ∷ []
joined_to qs c (r ∷ rs) = cond (covers c.hi r.lo qs) (joined_to qs (record { lo = c.lo; hi = r.hi }) rs) (c ∷ joined_to qs r rs)

abbrev pub joined : List Range → List Range → List Range
joined qs [] = []
joined qs (r ∷ rs) = joined_to qs r rs

-- rs with what qs makes fewer: the first step, after which the ranges only become more
abbrev pub squeezed : Way → List Range → List Range → List Range
squeezed TakeOut qs rs = spared qs rs
squeezed PutIn qs rs = joined qs rs

-- what a turn of `join` leaves: the growing range starts at lo and ends where range number i - 1 of l does; it is stored at k unless one of qs fills the gap
pub record JoinedOne : Type 0 where
  pub out : Joint
  pub mem : List ℕ

abbrev pub joint : Joint → List ℕ → JoinedOne
joint r m = record { out = r; mem = m }

abbrev pub join_one : List Range → List ℕ → ℕ → ℕ → ℕ → JoinedOne
join_one qs l k lo i =
    cond (covers (get_or l (i * 2 - 1) 0) (get_or l (i * 2) 0) qs)
    (joint (record { k = k; lo = lo }) l)
    (joint (record { k = k + 1; lo = get_or l (i * 2) 0 }) (stored l k lo (get_or l (i * 2 - 1) 0)))

-- both lists are in good form, none of the second leaves fewer ranges, and there is room for the result
pub record Ready (way : Way) (l : List ℕ) (count : ℕ) (o : List ℕ) (n : ℕ) : Type 0 where
  pub formed : well_formed l count ≡ true
  pub other : well_formed o n ≡ true
  pub fine : FineAll way (read o 0 n) (read l 0 count)
  pub room : length (edit_all way (read l 0 count) (read o 0 n)) ≤ length l / 2
