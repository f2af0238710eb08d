-- How many ranges are left: the ranges of a set change the size independently of each other, since a number is missing between them.
-- Assumes nothing.
use Prim.{Unit, tt}
use mathlib.Core.Path.{◌≡◌, refl, ap}
use mathlib.Core.Bool.{true, cond}
use mathlib.Core.List.{List, [], ◌∷◌}
use Prim.Native.Nat.{ℕ, ◌+◌, ◌^◌, ◌≤◌, ◌<◌, min, max}
use native.Mathlib.Nat.{max-eq_right}
use native.Mathlib.Omega.{arith}
use lib.ListN.{length}
use lib.Dec.{ltb}
use borrow.Author.Tests.{le-ltb, lt-ltb}
use Rattle.range_list.specs.Ranges.{Range, sound}
use Rattle.range_list.proofs.Sound.{by_lt, Sound, sound_parts, sound_weaker}
use Rattle.range_edit.specs.Edits.{insert, remove, piece}
use Rattle.range_edit.proofs.Insert.{insert_sound}
use Rattle.range_edit.proofs.Remove.{remove_sound, remove_after}
use Rattle.range_many.specs.Many.{edited, edit_all, ties}
use Rattle.range_many.specs.declared.Way.{Way}
use Rattle.range_many.specs.declared.Way.TheVariants.{PutIn, TakeOut}

-- ---- an insert
-- where all starts above, a range is put in front
pub insert_low : (a b : ℕ) (rs : List Range) → a ≤ b → sound (b + 1) rs ≡ true → insert a b rs ≡ record { lo = a; hi = b } ∷ rs
insert_low a b [] h q = refl
insert_low a b (r ∷ rs) h q =
    let p : Sound (b + 1) r rs = sound_parts (b + 1) r rs q in
    simp (le-ltb r.hi a (omega arith), lt-ltb b r.lo (omega arith))

-- how many ranges of rs touch s..e
abbrev touching : ℕ → ℕ → List Range → ℕ
touching s e [] = 0
touching s e (r ∷ rs) = cond (ltb r.hi s) (touching s e rs) (cond (ltb e r.lo) (touching s e rs) (touching s e rs + 1))

touching_none : (least s e : ℕ) (rs : List Range) → e < least → sound least rs ≡ true → touching s e rs ≡ 0
touching_none least s e [] h q = refl
touching_none least s e (r ∷ rs) h q =
    let p : Sound least r rs = sound_parts least r rs q in
    let i : touching s e rs ≡ 0 = touching_none (r.hi + 1) s e rs (omega arith) p.rest in
    by_lt r.hi s (λ _ t. rw t i) (λ _ t. simp (t, lt-ltb e r.lo (omega arith)) i)

-- above h a range that reaches down to h touches as one that ends there
touching_grown : (s t e h : ℕ) (rs : List Range) → s ≤ h → t ≤ h → sound (h + 1) rs ≡ true → touching t (max e h) rs ≡ touching s e rs
touching_grown s t e h [] a b q = refl
touching_grown s t e h (r ∷ rs) a b q =
    let p : Sound (h + 1) r rs = sound_parts (h + 1) r rs q in
    let i : touching t (max e h) rs ≡ touching s e rs = touching_grown s t e h rs a b (sound_weaker (h + 1) (r.hi + 1) rs (omega arith) p.rest) in
    by_lt e r.lo
    (λ k u. simp (le-ltb r.hi t (omega arith), le-ltb r.hi s (omega arith), u, lt-ltb (max e h) r.lo (omega arith)) i)
    (λ k u. simp (le-ltb r.hi t (omega arith), le-ltb r.hi s (omega arith), u, le-ltb (max e h) r.lo (omega arith)) (ap (λ (n : ℕ). n + 1) i))

insert_size : (least s e : ℕ) (rs : List Range) → sound least rs ≡ true → length (insert s e rs) + touching s e rs ≡ length rs + 1
insert_size least s e [] q = refl
insert_size least s e (r ∷ rs) q =
    let p : Sound least r rs = sound_parts least r rs q in
    by_lt r.hi s
    (λ h t. rw t (omega (arith, insert_size (r.hi + 1) s e rs p.rest)))
    (λ h t. by_lt e r.lo
    (λ k u. rw (t, u) (omega (arith, touching_none (r.hi + 1) s e rs (omega arith) p.rest)))
    (λ k u. rw (t, u)
    (omega (arith, insert_size (r.hi + 1) (min s r.lo) (max e r.hi) rs p.rest, touching_grown s (min s r.lo) e r.hi rs h (omega arith) p.rest))))

-- a range that lies above s..e touches as many with s..e put in
touching_insert : (least s e t f : ℕ) (rs : List Range) → s < e → e < t → t < f → sound least rs ≡ true → touching t f (insert s e rs) ≡ touching t f rs
touching_insert least s e t f [] h k m q = simp (lt-ltb e t k)
touching_insert least s e t f (r ∷ rs) h k m q =
    let p : Sound least r rs = sound_parts least r rs q in
    by_lt r.hi s
    (λ a u. rw u (simp (lt-ltb r.hi t (omega arith)) (touching_insert (r.hi + 1) s e t f rs h k m p.rest)))
    (λ a u. by_lt e r.lo
    (λ b v. rw (u, v) (simp (lt-ltb e t k)))
    (λ b v. rw (u, v) (by_lt r.hi t
    (λ d w. rw w (touching_insert (r.hi + 1) (min s r.lo) (max e r.hi) t f rs (omega arith) (omega arith) m p.rest))
    (λ d w. rw (max-eq_right {n = e} {m = r.hi} (omega arith))
    (rw (insert_low (min s r.lo) r.hi rs (omega arith) p.rest)
    (simp (w, le-ltb f (min s r.lo) (omega arith), le-ltb f r.lo (omega arith))))))))

-- ---- a remove
-- how many pieces s..e leaves of r
abbrev pieces : ℕ → ℕ → Range → ℕ
pieces s e r = cond (ltb r.lo (min s r.hi)) 1 0 + cond (ltb (max e r.lo) r.hi) 1 0

length_piece : (a b : ℕ) (rs : List Range) → length (piece a b rs) ≡ cond (ltb a b) 1 0 + length rs
length_piece a b rs = by_lt a b (λ _ t. rw t (omega arith)) (λ _ t. rw t (omega arith))

remove_size : (s e : ℕ) (r : Range) (rs : List Range) → length (remove s e (r ∷ rs)) ≡ pieces s e r + length (remove s e rs)
remove_size s e r rs =
    let a = length_piece r.lo (min s r.hi) (piece (max e r.lo) r.hi (remove s e rs)) in
    let b = length_piece (max e r.lo) r.hi (remove s e rs) in
    omega (arith, a, b)

-- what two ranges leave of one, the second above the first
remove_twice : (s e t f : ℕ) (r : Range) (R : List Range) → r.lo < r.hi → s < e → e < t → t < f
    → length (remove t f (piece r.lo (min s r.hi) (piece (max e r.lo) r.hi R))) + 1 ≡ pieces t f r + pieces s e r + length (remove t f R)
remove_twice s e t f r R o h k m =
    by_lt r.lo (min s r.hi)
    (λ a u. by_lt (max e r.lo) r.hi
    (λ b v. let g : max f (max e r.lo) ≡ max f r.lo = omega arith in
    rw (u, v) (rw (remove_size t f (record { lo = r.lo; hi = min s r.hi }) (record { lo = max e r.lo; hi = r.hi } ∷ R), remove_size t f (record { lo = max e r.lo; hi = r.hi }) R)
    (simp (lt-ltb r.lo (min t (min s r.hi)) (omega arith), le-ltb (max f r.lo) (min s r.hi) (omega arith), lt-ltb (max e r.lo) (min t r.hi) (omega arith), lt-ltb r.lo (min t r.hi) (omega arith), g) (omega arith))))
    (λ b v.
    rw (u, v) (rw (remove_size t f (record { lo = r.lo; hi = min s r.hi }) R)
    (simp (lt-ltb r.lo (min t (min s r.hi)) (omega arith), le-ltb (max f r.lo) (min s r.hi) (omega arith), lt-ltb r.lo (min t r.hi) (omega arith), le-ltb (max f r.lo) r.hi (omega arith)) (omega arith)))))
    (λ a u. by_lt (max e r.lo) r.hi
    (λ b v. let g : max f (max e r.lo) ≡ max f r.lo = omega arith in
    rw (u, v) (rw (remove_size t f (record { lo = max e r.lo; hi = r.hi }) R)
    (by_lt r.lo e
    (λ d _. simp (lt-ltb (max e r.lo) (min t r.hi) (omega arith), lt-ltb r.lo (min t r.hi) (omega arith), g) (omega arith))
    (λ d _. simp (max-eq_right {n = e} {m = r.lo} d) (omega arith)))))
    (λ b v. rw (u, v) (simp (lt-ltb r.lo (min t r.hi) (omega arith), le-ltb (max f r.lo) r.hi (omega arith)) (omega arith))))

remove_modular : (least s e t f : ℕ) (rs : List Range) → s < e → e < t → t < f → sound least rs ≡ true
    → length (remove t f (remove s e rs)) + length rs ≡ length (remove t f rs) + length (remove s e rs)
remove_modular least s e t f [] h k m q = refl
remove_modular least s e t f (r ∷ rs) h k m q =
    let p : Sound least r rs = sound_parts least r rs q in
    omega (arith, remove_modular (r.hi + 1) s e t f rs h k m p.rest, remove_twice s e t f r (remove s e rs) p.some h k m, remove_size t f r rs, remove_size s e r rs)

remove_length : (least s e : ℕ) (rs : List Range) → s < e → sound least rs ≡ true → length (remove s e rs) ≤ length rs + 1
remove_length least s e [] h q = omega arith
remove_length least s e (r ∷ rs) h q =
    let p : Sound least r rs = sound_parts least r rs q in
    let i = remove_length (r.hi + 1) s e rs h p.rest in
    let z = remove_size s e r rs in
    by_lt r.lo (min s r.hi)
    (λ a u. by_lt (max e r.lo) r.hi
    (λ b v.
    let w : pieces s e r ≡ 2 = simp (u, v) in
    let y = ap length (remove_after (r.hi + 1) s e rs h (omega arith) p.rest) in omega arith)
    (λ b v. let w : pieces s e r ≡ 1 = simp (u, v) in omega arith))
    (λ a u. by_lt (max e r.lo) r.hi
    (λ b v. let w : pieces s e r ≡ 1 = simp (u, v) in omega arith)
    (λ b v. let w : pieces s e r ≡ 0 = simp (u, v) in omega arith))

-- ---- both
pub edited_sound : (way : Way) (s e : ℕ) (rs : List Range) → s < e → e ≤ 2 ^ 62 → sound 0 rs ≡ true → sound 0 (edited way s e rs) ≡ true
edited_sound TakeOut s e rs h k q = remove_sound 0 s e rs h q
edited_sound PutIn s e rs h k q = insert_sound 0 s e rs (omega arith) h k q

pub edited_length : (way : Way) (s e : ℕ) (rs : List Range) → s < e → sound 0 rs ≡ true → length (edited way s e rs) ≤ length rs + 1
edited_length TakeOut s e rs h q = remove_length 0 s e rs h q
edited_length PutIn s e rs h q = omega (arith, insert_size 0 s e rs q)

modular : (way : Way) (s e t f : ℕ) (rs : List Range) → s < e → e ≤ 2 ^ 62 → e < t → t < f → sound 0 rs ≡ true
    → length (edited way t f (edited way s e rs)) + length rs ≡ length (edited way t f rs) + length (edited way s e rs)
modular TakeOut s e t f rs h b k m q = remove_modular 0 s e t f rs h k m q
modular PutIn s e t f rs h b k m q =
    omega (arith, insert_size 0 s e rs q, insert_size 0 t f rs q, insert_size 0 t f (insert s e rs) (insert_sound 0 s e rs (omega arith) h b q), touching_insert 0 s e t f rs h k m q)

-- each of qs changes the size of as as it changes that of rs
abbrev Alike : Way → List Range → List Range → List Range → Type 0
Alike way [] ps rs = Unit {0}
Alike way (q ∷ qs) ps rs =
    (length (edited way q.lo q.hi ps) + length rs ≡ length (edited way q.lo q.hi rs) + length ps) × Alike way qs ps rs

alike_self : (way : Way) (qs rs : List Range) → Alike way qs rs rs
alike_self way [] rs = tt
alike_self way (q ∷ qs) rs = (refl, alike_self way qs rs)

alike_edited : (way : Way) (s e : ℕ) (qs ps rs : List Range) → s < e → e ≤ 2 ^ 62 → sound (e + 1) qs ≡ true → sound 0 ps ≡ true
    → Alike way qs ps rs → Alike way qs (edited way s e ps) rs
alike_edited way s e [] ps rs h k q w a = tt
alike_edited way s e (r ∷ qs) ps rs h k q w a =
    let p : Sound (e + 1) r qs = sound_parts (e + 1) r qs q in (
      omega (arith, a.0, modular way s e r.lo r.hi ps h k (omega arith) p.some w),
      alike_edited way s e qs ps rs h k (sound_weaker (e + 1) (r.hi + 1) qs (omega arith) p.rest) w a.1,
    )

sizes : (way : Way) (least : ℕ) (qs ps rs : List Range) → sound least qs ≡ true → sound 0 ps ≡ true → sound 0 rs ≡ true → Alike way qs ps rs
    → length (edit_all way ps qs) + ties way rs qs ≡ length ps + length qs
sizes way least [] ps rs q w v a = omega arith
sizes way least (r ∷ qs) ps rs q w v a =
    let p : Sound least r qs = sound_parts least r qs q in
    let i = sizes way (r.hi + 1) qs (edited way r.lo r.hi ps) rs p.rest (edited_sound way r.lo r.hi ps p.some p.upto w) v
    (alike_edited way r.lo r.hi qs ps rs p.some p.upto p.rest w a.1) in
    omega (arith, i, a.0, edited_length way r.lo r.hi rs p.some v)

-- the size of the result, found without making it
pub size_is : (way : Way) (qs rs : List Range) → sound 0 qs ≡ true → sound 0 rs ≡ true → length (edit_all way rs qs) + ties way rs qs ≡ length rs + length qs
size_is way qs rs q w = sizes way 0 qs rs rs q w w (alike_self way qs rs)
