-- After the first step each range of the second set leaves no fewer ranges, and keeps that so for those after it: a number is missing between them.
-- Assumes nothing.
use Prim.{tt}
use mathlib.Core.Path.{◌≡◌, refl, ap}
use mathlib.Core.Bool.{true}
use mathlib.Core.Logic.{◌⊎◌, inl, inr, ⊎_elim}
use mathlib.Core.List.{List, [], ◌∷◌}
use Prim.Native.Nat.{ℕ, ◌+◌, ◌≤◌, ◌<◌, min, max}
use native.Mathlib.Omega.{arith}
use lib.ListN.{length}
use Rattle.range_list.specs.Ranges.{Range, sound}
use Rattle.range_list.proofs.Sound.{by_lt, Sound, sound_parts, sound_made, sound_weaker}
use Rattle.range_edit.specs.Edits.{insert, remove, piece}
use Rattle.range_many.specs.Many.{edited, edit_all, Spares, Loose, Fine, FineAll}
use Rattle.range_many.specs.declared.Way.{Way}
use Rattle.range_many.specs.declared.Way.TheVariants.{PutIn, TakeOut}
use Rattle.range_many.proofs.Sizes.{insert_low, edited_sound}

-- ---- a remove that leaves a number of each range
spares_more : (least s e : ℕ) (rs : List Range) → sound least rs ≡ true → Spares s e rs → length rs ≤ length (remove s e rs)
spares_more least s e [] q f = omega arith
spares_more least s e (r ∷ rs) q f =
    let p : Sound least r rs = sound_parts least r rs q in
    let i = spares_more (r.hi + 1) s e rs p.rest f.1 in
    by_lt r.lo (min s r.hi)
    (λ a u. by_lt (max e r.lo) r.hi (λ b v. rw (u, v) (omega arith)) (λ b v. rw (u, v) (omega arith)))
    (λ a u. by_lt (max e r.lo) r.hi (λ b v. rw (u, v) (omega arith)) (λ b v. absurd (⊎_elim (λ k. omega (arith, p.some)) (λ k. omega (arith, p.some)) f.0)))

spares_piece : (t f a b : ℕ) (rs : List Range) → (a < b → (a < t) ⊎ (f < b)) → Spares t f rs → Spares t f (piece a b rs)
spares_piece t f a b rs h k = by_lt a b (λ x u. rw u (h x, k)) (λ x u. rw u k)

spares_remove : (s e t f : ℕ) (rs : List Range) → s < e → e < t → Spares t f rs → Spares t f (remove s e rs)
spares_remove s e t f [] h k m = tt
spares_remove s e t f (r ∷ rs) h k m =
    spares_piece t f r.lo (min s r.hi) (piece (max e r.lo) r.hi (remove s e rs)) (λ x. inl (omega arith))
    (spares_piece t f (max e r.lo) r.hi (remove s e rs) (λ x. ⊎_elim (λ y. inl (omega arith)) (λ y. inr y) m.0) (spares_remove s e t f rs h k m.1))

-- ---- an insert that reaches no second range
loose_tail : (s e : ℕ) (r : Range) (rs : List Range) → Loose s e (r ∷ rs) → Loose s e rs
loose_tail s e r [] m = tt
loose_tail s e r (q ∷ rs) m = m.1

loose_cons : (s e : ℕ) (r : Range) (rs : List Range) → r.hi < s → Loose s e rs → Loose s e (r ∷ rs)
loose_cons s e r [] h m = tt
loose_cons s e r (q ∷ rs) h m = (inl h, m)

-- where it touches r, it takes in r alone
loose_touches : (least s e : ℕ) (r : Range) (rs : List Range) → s ≤ r.hi → sound least (r ∷ rs) ≡ true → Loose s e (r ∷ rs)
    → insert (min s r.lo) (max e r.hi) rs ≡ record { lo = min s r.lo; hi = max e r.hi } ∷ rs
loose_touches least s e r [] h q m = refl
loose_touches least s e r (o ∷ rs) h q m =
    let p : Sound least r (o ∷ rs) = sound_parts least r (o ∷ rs) q in
    let v : Sound (r.hi + 1) o rs = sound_parts (r.hi + 1) o rs p.rest in
    let u : e < o.lo = ⊎_elim (λ k. absurd (omega arith)) (λ k. k) m.0 in
    insert_low (min s r.lo) (max e r.hi) (o ∷ rs) (omega (arith, p.some))
    (sound_made (max e r.hi + 1) o rs (record { from = omega (arith, v.from); some = v.some; upto = v.upto; rest = v.rest }))

loose_more : (least s e : ℕ) (rs : List Range) → sound least rs ≡ true → Loose s e rs → length rs ≤ length (insert s e rs)
loose_more least s e [] q m = omega arith
loose_more least s e (r ∷ rs) q m =
    let p : Sound least r rs = sound_parts least r rs q in
    by_lt r.hi s
    (λ a u. rw u (omega (arith, loose_more (r.hi + 1) s e rs p.rest (loose_tail s e r rs m))))
    (λ a u. by_lt e r.lo
    (λ b v. rw (u, v) (omega arith))
    (λ b v. rw (u, v) (omega (arith, ap length (loose_touches least s e r rs a q m)))))

loose_wider : (t f : ℕ) (r o : Range) (rs : List Range) → (r.hi < t → o.hi < t) → Loose t f (r ∷ rs) → Loose t f (o ∷ rs)
loose_wider t f r o [] h m = tt
loose_wider t f r o (q ∷ rs) h m = (⊎_elim (λ k. inl (h k)) (λ k. inr k) m.0, m.1)

loose_insert : (least s e t f : ℕ) (rs : List Range) → s < e → e < t → sound least rs ≡ true → Loose s e rs → Loose t f rs → Loose t f (insert s e rs)
loose_insert least s e t f [] h k q l m = tt
loose_insert least s e t f (r ∷ rs) h k q l m =
    let p : Sound least r rs = sound_parts least r rs q in
    by_lt r.hi s
    (λ a u. rw u (loose_cons t f r (insert s e rs) (omega arith) (loose_insert (r.hi + 1) s e t f rs h k p.rest (loose_tail s e r rs l) (loose_tail t f r rs m))))
    (λ a u. by_lt e r.lo
    (λ b v. rw (u, v) (inl k, m))
    (λ b v. rw (u, v) (rw (loose_touches least s e r rs a q l) (loose_wider t f r (record { lo = min s r.lo; hi = max e r.hi }) rs (λ x. omega arith) m))))

-- ---- both
fine_more : (way : Way) (s e : ℕ) (rs : List Range) → sound 0 rs ≡ true → Fine way s e rs → length rs ≤ length (edited way s e rs)
fine_more TakeOut s e rs q f = spares_more 0 s e rs q f
fine_more PutIn s e rs q f = loose_more 0 s e rs q f

fine_edited : (way : Way) (s e t f : ℕ) (rs : List Range) → s < e → e < t → sound 0 rs ≡ true → Fine way s e rs → Fine way t f rs → Fine way t f (edited way s e rs)
fine_edited TakeOut s e t f rs h k q l m = spares_remove s e t f rs h k m
fine_edited PutIn s e t f rs h k q l m = loose_insert 0 s e t f rs h k q l m

fine_all : (way : Way) (s e : ℕ) (qs rs : List Range) → s < e → sound (e + 1) qs ≡ true → sound 0 rs ≡ true → Fine way s e rs → FineAll way qs rs → FineAll way qs (edited way s e rs)
fine_all way s e [] rs h k q l m = tt
fine_all way s e (r ∷ qs) rs h k q l m =
    let p : Sound (e + 1) r qs = sound_parts (e + 1) r qs k in (
      fine_edited way s e r.lo r.hi rs h (omega arith) q l m.0,
      fine_all way s e qs rs h (sound_weaker (e + 1) (r.hi + 1) qs (omega arith) p.rest) q l m.1,
    )

-- what holds of the ranges still to come, once the first is done
pub record Next (way : Way) (q : Range) (qs rs : List Range) : Type 0 where
  pub more : length rs ≤ length (edited way q.lo q.hi rs)
  pub sound : sound 0 (edited way q.lo q.hi rs) ≡ true
  pub fine : FineAll way qs (edited way q.lo q.hi rs)

pub next : (way : Way) (least : ℕ) (q : Range) (qs rs : List Range) → sound least (q ∷ qs) ≡ true → sound 0 rs ≡ true → FineAll way (q ∷ qs) rs → Next way q qs rs
next way least q qs rs s w m =
    let p : Sound least q qs = sound_parts least q qs s in
    record {
      more = fine_more way q.lo q.hi rs w m.0;
      sound = edited_sound way q.lo q.hi rs p.some p.upto w;
      fine = fine_all way q.lo q.hi qs rs p.some p.rest w m.0 m.1;
    }

-- no step leaves more ranges than the last
pub all_more : (way : Way) (least : ℕ) (qs rs : List Range) → sound least qs ≡ true → sound 0 rs ≡ true → FineAll way qs rs → length rs ≤ length (edit_all way rs qs)
all_more way least [] rs s w m = omega arith
all_more way least (q ∷ qs) rs s w m =
    let p : Sound least q qs = sound_parts least q qs s in
    let n : Next way q qs rs = next way least q qs rs s w m in
    omega (arith, n.more, all_more way (q.hi + 1) qs (edited way q.lo q.hi rs) p.rest n.sound n.fine)
