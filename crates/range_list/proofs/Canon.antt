-- Two sound lists with the same numbers are the same list: their first ranges agree, and so do the rests. So a sound list is the shortest one of its numbers.
-- Assumes nothing.
use mathlib.Core.Path.{◌≡◌, refl, sym}
use mathlib.Core.Bool.{true}
use mathlib.Core.Logic.{inl, inr, ⊎_elim}
use mathlib.Core.List.{List, [], ◌∷◌}
use Prim.Native.Nat.{ℕ, ◌+◌, ◌≤◌}
use native.Mathlib.Omega.{arith}
use Rattle.range_list.specs.Ranges.{Range, sound, In}
use Rattle.range_list.proofs.Sound.{by_lt, Sound, sound_parts}

-- the numbers of a sound list are at least what it is sound from
pub in_least : (least x : ℕ) (rs : List Range) → sound least rs ≡ true → In x rs → least ≤ x
in_least least x [] q = λ p. absurd p
in_least least x (r ∷ rs) q =
    let s : Sound least r rs = sound_parts least r rs q in
    ⊎_elim (λ p. omega arith) (λ p. omega (arith, in_least (r.hi + 1) x rs s.rest p))

-- the first start of one is no lower than that of the other, and the first end no lower where the starts are the same
starts : (a b : ℕ) (p q : Range) (ps qs : List Range) → Sound a p ps → Sound b q qs → ((x : ℕ) → In x (p ∷ ps) → In x (q ∷ qs)) → q.lo ≤ p.lo
starts a b p q ps qs s t f = ⊎_elim (λ h. h.0) (λ h. omega (arith, in_least (q.hi + 1) p.lo qs t.rest h)) (f p.lo (inl (omega arith)))

ends : (a b : ℕ) (p q : Range) (ps qs : List Range) → Sound a p ps → Sound b q qs → p.lo ≡ q.lo → ((x : ℕ) → In x (p ∷ ps) → In x (q ∷ qs)) → p.hi ≤ q.hi
ends a b p q ps qs s t e f =
    by_lt q.hi p.hi
    (λ h _. ⊎_elim (λ k. omega arith) (λ k. omega (arith, in_least (q.hi + 1) q.hi qs t.rest k)) (f q.hi (inl (omega arith))))
    (λ h _. h)

-- a number of the rest of one is of the rest of the other
rests : (a b : ℕ) (p q : Range) (ps qs : List Range) → Sound a p ps → Sound b q qs → p.hi ≡ q.hi → ((x : ℕ) → In x (p ∷ ps) → In x (q ∷ qs)) → (x : ℕ) → In x ps → In x qs
rests a b p q ps qs s t e f x h = ⊎_elim (λ k. absurd (omega (arith, in_least (p.hi + 1) x ps s.rest h))) (λ k. k) (f x (inr h))

pub canonical : (a b : ℕ) (ps qs : List Range) → sound a ps ≡ true → sound b qs ≡ true
    → ((x : ℕ) → In x ps → In x qs) → ((x : ℕ) → In x qs → In x ps) → ps ≡ qs
canonical a b [] [] s t f g = refl
canonical a b [] (q ∷ qs) s t f g = let w : Sound b q qs = sound_parts b q qs t in absurd (g q.lo (inl (omega arith)))
canonical a b (p ∷ ps) [] s t f g = let v : Sound a p ps = sound_parts a p ps s in absurd (f p.lo (inl (omega arith)))
canonical a b (p ∷ ps) (q ∷ qs) s t f g =
    let v : Sound a p ps = sound_parts a p ps s in
    let w : Sound b q qs = sound_parts b q qs t in
    let l : p.lo ≡ q.lo = omega (arith, starts a b p q ps qs v w f, starts b a q p qs ps w v g) in
    let h : p.hi ≡ q.hi = omega (arith, ends a b p q ps qs v w l f, ends b a q p qs ps w v (sym l) g) in
    let r : ps ≡ qs = canonical (p.hi + 1) (q.hi + 1) ps qs v.rest w.rest (rests a b p q ps qs v w h f) (rests b a q p qs ps w v (sym h) g) in
    (λ i. record { lo = l i; hi = h i } ∷ r i)
