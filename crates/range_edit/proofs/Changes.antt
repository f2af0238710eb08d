-- What the definitions say of sets (01, Range set): a call says "changed" exactly where some number comes or goes; an insertion that meets no other range
-- adds one range and alters none; the parts that a replace reports are exactly the common numbers, ascending. Each by recursion on the list.
-- The numbers of an insert and of a remove, and that both keep good form, are in Insert.antt and Remove.antt; that a list in good form is the
-- only one with its numbers is range_list's Canon.antt. Assumes nothing.
use mathlib.Core.Path.{◌≡◌, refl, sym, ap, ◌∙◌}
use mathlib.Core.Bool.{true, false, ◌&&◌}
use mathlib.Core.Logic.{◌⊎◌, inl, inr, ⊎_elim}
use mathlib.Core.List.{List, [], ◌∷◌}
use Prim.{Unit}
use Prim.Native.Nat.{◌^◌, ℕ, ◌+◌, ◌≤◌, ◌<◌, min, max}
use native.Mathlib.Omega.{arith}
use native.Mathlib.Numerals.{add-one}
use lib.Dec.{ltb, leb}
use borrow.Author.Tests.{ltb-true, ltb-false, leb-true, le-leb, lt-leb, lt-ltb}
use Rattle.range_list.specs.Ranges.{Range, sound, splice, In}
use Rattle.range_list.proofs.Sound.{by_lt, by_bool, both, Sound, sound_parts, sound_made, sound_weaker}
use Rattle.range_list.proofs.Canon.{in_least, canonical}
use Rattle.range_edit.proofs.Insert.{insert_to, insert_from, insert_sound}
use Rattle.range_edit.proofs.Remove.{remove_to, remove_from_law, remove_sound}
use Rattle.range_edit.specs.Edits.{insert, covers, remove, meets, within, below}

-- ---- insert says "changed" exactly where some number is new
pub covers_in : (x s e : ℕ) (rs : List Range) → covers s e rs ≡ true → s ≤ x → x < e → In x rs
covers_in x s e [] q a b = let z : ◌≡◌ {A = ℕ} 0 1 = cc in let y : ⊥ = omega arith in absurd y
covers_in x s e (r ∷ rs) q a b =
    by_bool (leb r.lo s && leb e r.hi)
    (λ t.
    let p = both (leb r.lo s) (leb e r.hi) t in
    let lo : r.lo ≤ s = leb-true r.lo s p.0 in
    let hi : e ≤ r.hi = leb-true e r.hi p.1 in
    inl (omega arith, omega arith))
    (λ t. inr (covers_in x s e rs (rw t at q) a b))

-- a number of s..e that rs has not
pub record New (s e : ℕ) (rs : List Range) : Type 0 where
  pub number : ℕ
  pub from : s ≤ number
  pub upto : number < e
  pub new : In number rs → ⊥

pub uncovered : (least s e : ℕ) (rs : List Range) → s < e → sound least rs ≡ true → covers s e rs ≡ false → New s e rs
uncovered least s e [] h q c = record { number = s; from = omega arith; upto = h; new = λ k. k }
uncovered least s e (r ∷ rs) h q c =
    let p : Sound least r rs = sound_parts least r rs q in
    by_lt s r.lo
    (λ a _. record { number = s; from = omega arith; upto = h; new = ⊎_elim (λ k. omega arith) (λ k. omega (arith, in_least (r.hi + 1) s rs p.rest k)) })
    (λ a _. by_lt r.hi s
    (λ b _.
    let t : covers s e rs ≡ false = rest (lt-leb e r.hi (omega arith)) in
    let n : New s e rs = uncovered (r.hi + 1) s e rs h p.rest t in
    record { number = n.number; from = n.from; upto = n.upto; new = ⊎_elim (λ k. omega (arith, n.from)) n.new })
    (λ b _. by_lt r.hi e
    (λ d _. record { number = r.hi; from = b; upto = d; new = ⊎_elim (λ k. omega arith) (λ k. omega (arith, in_least (r.hi + 1) r.hi rs p.rest k)) })
    (λ d _.
    let v : true ≡ false = sym (simp (le-leb r.lo s a, le-leb e r.hi d)) ∙ c in
    let z : ◌≡◌ {A = ℕ} 0 1 = cc in absurd (omega arith))))
  where
    rest : leb e r.hi ≡ false → covers s e rs ≡ false
    rest t = by_bool (leb r.lo s) (λ u. simp (u, t) at c) (λ u. simp (u, t) at c)

-- ---- remove says "changed" exactly where some number was there
pub clear : (x s e : ℕ) (rs : List Range) → meets s e rs ≡ false → In x rs → (x < s) ⊎ (e ≤ x)
clear x s e [] q h = absurd h
clear x s e (r ∷ rs) q h =
    by_bool (ltb r.lo e && ltb s r.hi)
    (λ t. let v : true ≡ false = rw t at q in let z : ◌≡◌ {A = ℕ} 0 1 = cc in let y : ⊥ = omega arith in absurd y)
    (λ t. ⊎_elim (λ k. apart k t) (λ k. clear x s e rs (rw t at q) k) h)
  where
    apart : (r.lo ≤ x) × (x < r.hi) → (ltb r.lo e && ltb s r.hi) ≡ false → (x < s) ⊎ (e ≤ x)
    apart k t =
        by_bool (ltb r.lo e)
        (λ u. let v : ltb s r.hi ≡ false = rw u at t in inl (omega (arith, ltb-false s r.hi v)))
        (λ u. inr (omega (arith, ltb-false r.lo e u)))

-- a number of s..e that rs has
pub record Common (s e : ℕ) (rs : List Range) : Type 0 where
  pub number : ℕ
  pub from : s ≤ number
  pub upto : number < e
  pub held : In number rs

pub met : (least s e : ℕ) (rs : List Range) → s < e → sound least rs ≡ true → meets s e rs ≡ true → Common s e rs
met least s e [] h q c = let z : ◌≡◌ {A = ℕ} 0 1 = cc in let y : ⊥ = omega arith in absurd y
met least s e (r ∷ rs) h q c =
    let p : Sound least r rs = sound_parts least r rs q in
    by_bool (ltb r.lo e && ltb s r.hi)
    (λ t.
    let v = both (ltb r.lo e) (ltb s r.hi) t in
    let a : r.lo < e = ltb-true r.lo e v.0 in
    let b : s < r.hi = ltb-true s r.hi v.1 in
    record { number = max s r.lo; from = omega arith; upto = omega arith; held = inl (omega (arith, p.some), omega (arith, p.some)) })
    (λ t.
    let m : Common s e rs = met (r.hi + 1) s e rs h p.rest (rw t at c) in
    record { number = m.number; from = m.from; upto = m.upto; held = inr m.held })

-- ---- an insertion that meets no other range
-- no range of rs meets or touches s..e
abbrev pub Apart : ℕ → ℕ → List Range → Type 0
Apart s e [] = Unit {0}
Apart s e (r ∷ rs) = ((r.hi < s) ⊎ (e < r.lo)) × Apart s e rs

pub insert_apart : (s e : ℕ) (rs : List Range) → s < e → Apart s e rs → insert s e rs ≡ splice rs (below s rs) (below s rs) (record { lo = s; hi = e } ∷ [])
insert_apart s e [] h a = refl
insert_apart s e (r ∷ rs) h a =
    by_lt r.hi s
    (λ _ t. rw t (rw (add-one (below s rs)) (ap (λ (x : List Range). r ∷ x) (insert_apart s e rs h a.1))))
    (λ k t. let u : e < r.lo = ⊎_elim (λ b. absurd (omega arith)) (λ b. b) a.0 in simp (t, lt-ltb e r.lo u))

-- ---- replace reports exactly the common numbers, ascending
pub within_to : (x s e : ℕ) (rs : List Range) → In x (within s e rs) → In x rs × ((s ≤ x) × (x < e))
within_to x s e [] = λ h. absurd h
within_to x s e (r ∷ rs) =
    by_lt (max s r.lo) (min e r.hi)
    (λ _ t. rw t (⊎_elim (λ k. (inl (omega arith), omega arith)) (λ k. let w = within_to x s e rs k in (inr w.0, w.1))))
    (λ _ t. rw t (λ k. let w = within_to x s e rs k in (inr w.0, w.1)))

pub within_from : (x s e : ℕ) (rs : List Range) → s ≤ x → x < e → In x rs → In x (within s e rs)
within_from x s e [] a b h = h
within_from x s e (r ∷ rs) a b h =
    by_lt (max s r.lo) (min e r.hi)
    (λ _ t. rw t (⊎_elim (λ k. inl (omega arith)) (λ k. inr (within_from x s e rs a b k)) h))
    (λ y t. rw t (⊎_elim (λ k. absurd (omega arith)) (λ k. within_from x s e rs a b k) h))

pub within_sound : (least s e : ℕ) (rs : List Range) → sound least rs ≡ true → sound least (within s e rs) ≡ true
within_sound least s e [] q = refl
within_sound least s e (r ∷ rs) q =
    let p : Sound least r rs = sound_parts least r rs q in
    let i : sound (r.hi + 1) (within s e rs) ≡ true = within_sound (r.hi + 1) s e rs p.rest in
    by_lt (max s r.lo) (min e r.hi)
    (λ y t. rw t (sound_made least (record { lo = max s r.lo; hi = min e r.hi }) (within s e rs)
    (record { from = omega arith; some = y; upto = omega arith; rest = sound_weaker (min e r.hi + 1) (r.hi + 1) (within s e rs) (omega arith) i })))
    (λ y t. rw t (sound_weaker least (r.hi + 1) (within s e rs) (omega arith) i))

-- ---- a call that says "no" leaves the list that it would make
pub covered_same : (s e : ℕ) (rs : List Range) → s < e → e ≤ 2 ^ 62 → sound 0 rs ≡ true → covers s e rs ≡ true → insert s e rs ≡ rs
covered_same s e rs h k q c =
    canonical 0 0 (insert s e rs) rs (insert_sound 0 s e rs (omega arith) h k q) q
    (λ x i. ⊎_elim (λ j. j) (λ j. covers_in x s e rs c j.0 j.1) (insert_to x s e rs i))
    (λ x i. insert_from x s e rs (inl i))

pub clear_same : (s e : ℕ) (rs : List Range) → s < e → sound 0 rs ≡ true → meets s e rs ≡ false → remove s e rs ≡ rs
clear_same s e rs h q c =
    canonical 0 0 (remove s e rs) rs (remove_sound 0 s e rs h q) q (λ x i. (remove_to x s e rs h i).0) (λ x i. remove_from_law x s e rs i (clear x s e rs c i))
