-- The first step: the ranges that lie in one of the second set go, or the gaps that one of it fills. The result of all is the same, by its numbers.
-- Assumes nothing.
use Prim.{Unit, tt}
use mathlib.Core.Path.{◌≡◌, refl, sym, ap, ◌∙◌}
use mathlib.Core.Bool.{true, false, ◌&&◌}
use mathlib.Core.Logic.{◌⊎◌, inl, inr, ⊎_elim}
use mathlib.Core.List.{List, [], ◌∷◌}
use Prim.Native.Nat.{ℕ, ◌+◌, ◌≤◌, ◌<◌}
use native.Mathlib.Omega.{arith}
use lib.Dec.{leb}
use borrow.Author.Tests.{le-leb}
use Rattle.range_list.specs.Ranges.{Range, sound, In}
use Rattle.range_list.proofs.Sound.{by_lt, by_bool, Sound, sound_parts, sound_made, sound_weaker}
use Rattle.range_list.proofs.Canon.{canonical}
use Rattle.range_edit.specs.Edits.{insert, remove, covers}
use Rattle.range_edit.proofs.Insert.{insert_to, insert_from}
use Rattle.range_edit.proofs.Remove.{remove_to, remove_from_law}
use Rattle.range_edit.proofs.Changes.{covers_in}
use Rattle.range_many.specs.Many.{edited, edit_all, Spares, Loose, FineAll, spared, joined_to, squeezed}
use Rattle.range_many.specs.declared.Way.{Way}
use Rattle.range_many.specs.declared.Way.TheVariants.{PutIn, TakeOut}
use Rattle.range_many.proofs.Sizes.{edited_sound}

-- ---- the numbers of all edits
pub all_sound : (way : Way) (least : ℕ) (qs rs : List Range) → sound least qs ≡ true → sound 0 rs ≡ true → sound 0 (edit_all way rs qs) ≡ true
all_sound way least [] rs s w = w
all_sound way least (q ∷ qs) rs s w =
    let p : Sound least q qs = sound_parts least q qs s in
    all_sound way (q.hi + 1) qs (edited way q.lo q.hi rs) p.rest (edited_sound way q.lo q.hi rs p.some p.upto w)

pub added_to : (x : ℕ) (qs rs : List Range) → In x (edit_all PutIn rs qs) → In x rs ⊎ In x qs
added_to x [] rs h = inl h
added_to x (q ∷ qs) rs h =
    ⊎_elim (λ k. ⊎_elim (λ j. inl j) (λ j. inr (inl j)) (insert_to x q.lo q.hi rs k)) (λ k. inr (inr k)) (added_to x qs (insert q.lo q.hi rs) h)

pub added_from : (x : ℕ) (qs rs : List Range) → In x rs ⊎ In x qs → In x (edit_all PutIn rs qs)
added_from x [] rs h = ⊎_elim (λ k. k) (λ k. absurd k) h
added_from x (q ∷ qs) rs h =
    added_from x qs (insert q.lo q.hi rs)
    (⊎_elim (λ k. inl (insert_from x q.lo q.hi rs (inl k))) (⊎_elim (λ k. inl (insert_from x q.lo q.hi rs (inr k))) (λ k. inr k)) h)

-- x is none of the numbers of qs
abbrev pub Out : ℕ → List Range → Type 0
Out x [] = Unit {0}
Out x (q ∷ qs) = ((x < q.lo) ⊎ (q.hi ≤ x)) × Out x qs

pub taken_to : (x least : ℕ) (qs rs : List Range) → sound least qs ≡ true → In x (edit_all TakeOut rs qs) → In x rs × Out x qs
taken_to x least [] rs s h = (h, tt)
taken_to x least (q ∷ qs) rs s h =
    let p : Sound least q qs = sound_parts least q qs s in
    let i = taken_to x (q.hi + 1) qs (remove q.lo q.hi rs) p.rest h in
    let j = remove_to x q.lo q.hi rs p.some i.0 in
    (j.0, (j.1, i.1))

pub taken_from : (x : ℕ) (qs rs : List Range) → In x rs → Out x qs → In x (edit_all TakeOut rs qs)
taken_from x [] rs h o = h
taken_from x (q ∷ qs) rs h o = taken_from x qs (remove q.lo q.hi rs) (remove_from_law x q.lo q.hi rs h o.0) o.1

-- ---- ranges that lie in one of qs
out_in : (x : ℕ) (qs : List Range) → Out x qs → In x qs → ⊥
out_in x [] o h = h
out_in x (q ∷ qs) o h = ⊎_elim (λ k. ⊎_elim (λ a. omega arith) (λ a. omega arith) o.0) (λ k. out_in x qs o.1 k) h

-- of a range that none of qs has all of, each leaves a number
uncovered : (s e : ℕ) (q : Range) (qs : List Range) → covers s e (q ∷ qs) ≡ false → ((s < q.lo) ⊎ (q.hi < e)) × (covers s e qs ≡ false)
uncovered s e q qs c =
    by_lt s q.lo
    (λ h _. (inl h, rest))
    (λ h _. by_lt q.hi e
    (λ k _. (inr k, rest))
    (λ k _.
    let v : true ≡ false = sym (simp (le-leb q.lo s h, le-leb e q.hi k)) ∙ c in
    let z : ◌≡◌ {A = ℕ} 0 1 = cc in let y : ⊥ = omega arith in absurd y))
  where
    rest : covers s e qs ≡ false
    rest =
        by_bool (leb q.lo s && leb e q.hi)
        (λ t. let v : true ≡ false = rw t at c in let z : ◌≡◌ {A = ℕ} 0 1 = cc in let y : ⊥ = omega arith in absurd y)
        (λ t. rw t at c)

spared_in : (x : ℕ) (qs rs : List Range) → In x (spared qs rs) → In x rs
spared_in x qs [] = λ h. h
spared_in x qs (r ∷ rs) =
    by_bool (covers r.lo r.hi qs) (λ t. rw t (λ h. inr (spared_in x qs rs h))) (λ t. rw t (⊎_elim (λ k. inl k) (λ k. inr (spared_in x qs rs k))))

spared_out : (x : ℕ) (qs rs : List Range) → Out x qs → In x rs → In x (spared qs rs)
spared_out x qs [] o h = h
spared_out x qs (r ∷ rs) o h =
    by_bool (covers r.lo r.hi qs)
    (λ t. rw t (⊎_elim (λ k. absurd (out_in x qs o (covers_in x r.lo r.hi qs t k.0 k.1))) (λ k. spared_out x qs rs o k) h))
    (λ t. rw t (⊎_elim (λ k. inl k) (λ k. inr (spared_out x qs rs o k)) h))

spared_sound : (least : ℕ) (qs rs : List Range) → sound least rs ≡ true → sound least (spared qs rs) ≡ true
spared_sound least qs [] s = refl
spared_sound least qs (r ∷ rs) s =
    let p : Sound least r rs = sound_parts least r rs s in
    let i = spared_sound (r.hi + 1) qs rs p.rest in
    by_bool (covers r.lo r.hi qs)
    (λ t. rw t (sound_weaker least (r.hi + 1) (spared qs rs) (omega arith) i))
    (λ t. rw t (sound_made least r (spared qs rs) (record { from = p.from; some = p.some; upto = p.upto; rest = i })))

-- none of qs has all of a range of rs
abbrev Free : List Range → List Range → Type 0
Free qs [] = Unit {0}
Free qs (r ∷ rs) = (covers r.lo r.hi qs ≡ false) × Free qs rs

spared_free : (qs rs : List Range) → Free qs (spared qs rs)
spared_free qs [] = tt
spared_free qs (r ∷ rs) = by_bool (covers r.lo r.hi qs) (λ t. rw t (spared_free qs rs)) (λ t. rw t (t, spared_free qs rs))

free_spares : (q : Range) (qs rs : List Range) → Free (q ∷ qs) rs → Spares q.lo q.hi rs × Free qs rs
free_spares q qs [] f = (tt, tt)
free_spares q qs (r ∷ rs) f =
    let u = uncovered r.lo r.hi q qs f.0 in
    let i = free_spares q qs rs f.1 in
    ((u.0, i.0), (u.1, i.1))

free_fine : (qs rs : List Range) → Free qs rs → FineAll TakeOut qs rs
free_fine [] rs f = tt
free_fine (q ∷ qs) rs f = let i = free_spares q qs rs f in (i.0, free_fine qs rs i.1)

-- ---- gaps that one of qs fills
joined_in : (x : ℕ) (qs : List Range) (c : Range) (rs : List Range) → In x (joined_to qs c rs) → In x (c ∷ rs) ⊎ In x qs
joined_in x qs c [] = λ h. inl h
joined_in x qs c (r ∷ rs) =
    by_bool (covers c.hi r.lo qs)
    (λ t. rw t (λ h. ⊎_elim (⊎_elim (λ k. split t k) (λ k. inl (inr (inr k)))) (λ k. inr k) (joined_in x qs (record { lo = c.lo; hi = r.hi }) rs h)))
    (λ t. rw t (⊎_elim (λ k. inl (inl k)) (λ k. ⊎_elim (λ j. inl (inr j)) (λ j. inr j) (joined_in x qs r rs k))))
  where
    split : covers c.hi r.lo qs ≡ true → (c.lo ≤ x) × (x < r.hi) → In x (c ∷ r ∷ rs) ⊎ In x qs
    split t k =
        by_lt x c.hi
        (λ a _. inl (inl (omega arith)))
        (λ a _. by_lt x r.lo (λ b _. inr (covers_in x c.hi r.lo qs t a b)) (λ b _. inl (inr (inl (omega arith)))))

joined_from : (x least : ℕ) (qs : List Range) (c : Range) (rs : List Range) → sound least (c ∷ rs) ≡ true → In x (c ∷ rs) → In x (joined_to qs c rs)
joined_from x least qs c [] s h = h
joined_from x least qs c (r ∷ rs) s h =
    let p : Sound least c (r ∷ rs) = sound_parts least c (r ∷ rs) s in
    let v : Sound (c.hi + 1) r rs = sound_parts (c.hi + 1) r rs p.rest in
    by_bool (covers c.hi r.lo qs)
    (λ t. rw t (joined_from x least qs (record { lo = c.lo; hi = r.hi }) rs (wider p v)
    (⊎_elim (λ k. inl (omega (arith, v.from, v.some))) (⊎_elim (λ k. inl (omega (arith, v.from, p.some))) (λ k. inr k)) h)))
    (λ t. rw t (⊎_elim (λ k. inl k) (λ k. inr (joined_from x (c.hi + 1) qs r rs p.rest k)) h))
  where
    wider : Sound least c (r ∷ rs) → Sound (c.hi + 1) r rs → sound least (record { lo = c.lo; hi = r.hi } ∷ rs) ≡ true
    wider p v = sound_made least (record { lo = c.lo; hi = r.hi }) rs (record { from = p.from; some = omega (arith, v.from, p.some, v.some); upto = v.upto; rest = v.rest })

joined_sound : (least : ℕ) (qs : List Range) (c : Range) (rs : List Range) → sound least (c ∷ rs) ≡ true → sound least (joined_to qs c rs) ≡ true
joined_sound least qs c [] s = s
joined_sound least qs c (r ∷ rs) s =
    let p : Sound least c (r ∷ rs) = sound_parts least c (r ∷ rs) s in
    let v : Sound (c.hi + 1) r rs = sound_parts (c.hi + 1) r rs p.rest in
    by_bool (covers c.hi r.lo qs)
    (λ t. rw t (joined_sound least qs (record { lo = c.lo; hi = r.hi }) rs
    (sound_made least (record { lo = c.lo; hi = r.hi }) rs (record { from = p.from; some = omega (arith, v.from, p.some, v.some); upto = v.upto; rest = v.rest }))))
    (λ t. rw t (sound_made least c (joined_to qs r rs) (record { from = p.from; some = p.some; upto = p.upto; rest = joined_sound (c.hi + 1) qs r rs p.rest })))

-- none of qs fills a gap of rs
abbrev Open : List Range → List Range → Type 0
Open qs [] = Unit {0}
Open qs (r ∷ []) = Unit {0}
Open qs (r ∷ o ∷ rs) = (covers r.hi o.lo qs ≡ false) × Open qs (o ∷ rs)

-- what is joined to c starts where c starts
record Starts (c : Range) (rs : List Range) : Type 0 where
  head : Range
  tail : List Range
  is : rs ≡ head ∷ tail
  low : head.lo ≡ c.lo

starts : (qs : List Range) (c : Range) (rs : List Range) → Starts c (joined_to qs c rs)
starts qs c [] = record { head = c; tail = []; is = refl; low = refl }
starts qs c (r ∷ rs) =
    by_bool (covers c.hi r.lo qs)
    (λ t. rw t (let i = starts qs (record { lo = c.lo; hi = r.hi }) rs in record { head = i.head; tail = i.tail; is = i.is; low = i.low }))
    (λ t. rw t (record { head = c; tail = joined_to qs r rs; is = refl; low = refl }))

open_cons : (qs : List Range) (c r : Range) (rs : List Range) → covers c.hi r.lo qs ≡ false → Starts r rs → Open qs rs → Open qs (c ∷ rs)
open_cons qs c r rs t i o =
    let a : Open qs (c ∷ i.head ∷ i.tail) = (ap (λ (z : ℕ). covers c.hi z qs) i.low ∙ t, rw i.is at o) in
    rw i.is a

joined_open : (qs : List Range) (c : Range) (rs : List Range) → Open qs (joined_to qs c rs)
joined_open qs c [] = tt
joined_open qs c (r ∷ rs) =
    by_bool (covers c.hi r.lo qs)
    (λ t. rw t (joined_open qs (record { lo = c.lo; hi = r.hi }) rs))
    (λ t. rw t (open_cons qs c r (joined_to qs r rs) t (starts qs r rs) (joined_open qs r rs)))

open_loose : (q : Range) (qs rs : List Range) → Open (q ∷ qs) rs → Loose q.lo q.hi rs × Open qs rs
open_loose q qs [] f = (tt, tt)
open_loose q qs (r ∷ []) f = (tt, tt)
open_loose q qs (r ∷ o ∷ rs) f =
    let u = uncovered r.hi o.lo q qs f.0 in
    let i = open_loose q qs (o ∷ rs) f.1 in
    ((u.0, i.0), (u.1, i.1))

open_fine : (qs rs : List Range) → Open qs rs → FineAll PutIn qs rs
open_fine [] rs f = tt
open_fine (q ∷ qs) rs f = let i = open_loose q qs rs f in (i.0, open_fine qs rs i.1)

-- ---- both
pub record Squeezed (way : Way) (qs rs : List Range) : Type 0 where
  pub sound : sound 0 (squeezed way qs rs) ≡ true
  pub fine : FineAll way qs (squeezed way qs rs)
  pub same : edit_all way (squeezed way qs rs) qs ≡ edit_all way rs qs

pub squeeze : (way : Way) (qs rs : List Range) → sound 0 qs ≡ true → sound 0 rs ≡ true → Squeezed way qs rs
squeeze TakeOut qs rs q w =
    let s = spared_sound 0 qs rs w in
    record {
      sound = s;
      fine = free_fine qs (spared qs rs) (spared_free qs rs);
      same = canonical 0 0 (edit_all TakeOut (spared qs rs) qs) (edit_all TakeOut rs qs) (all_sound TakeOut 0 qs (spared qs rs) q s) (all_sound TakeOut 0 qs rs q w)
          (λ x h. let i = taken_to x 0 qs (spared qs rs) q h in taken_from x qs rs (spared_in x qs rs i.0) i.1)
          (λ x h. let i = taken_to x 0 qs rs q h in taken_from x qs (spared qs rs) (spared_out x qs rs i.1 i.0) i.1);
    }
squeeze PutIn qs [] q w = record { sound = refl; fine = open_fine qs [] tt; same = refl }
squeeze PutIn qs (r ∷ rs) q w =
    let s = joined_sound 0 qs r rs w in
    record {
      sound = s;
      fine = open_fine qs (joined_to qs r rs) (joined_open qs r rs);
      same = canonical 0 0 (edit_all PutIn (joined_to qs r rs) qs) (edit_all PutIn (r ∷ rs) qs) (all_sound PutIn 0 qs (joined_to qs r rs) q s) (all_sound PutIn 0 qs (r ∷ rs) q w)
          (λ x h. added_from x qs (r ∷ rs) (⊎_elim (λ k. joined_in x qs r rs k) (λ k. inr k) (added_to x qs (joined_to qs r rs) h)))
          (λ x h. added_from x qs (joined_to qs r rs) (⊎_elim (λ k. inl (joined_from x 0 qs r rs w k)) (λ k. inr k) (added_to x qs (r ∷ rs) h)));
    }
