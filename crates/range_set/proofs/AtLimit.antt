-- An insert at a limit: a number that makes one range more stands alone at its place, so the lowest range can go before it comes.
-- Assumes nothing.
use mathlib.Core.Path.{◌≡◌, refl, sym, ap, ◌∙◌}
use mathlib.Core.Bool.{true, false, ◌&&◌}
use mathlib.Core.List.{List, [], ◌∷◌}
use Prim.Native.Nat.{ℕ, suc, ◌+◌, ◌-◌, ◌^◌, ◌≤◌, ◌<◌, min, max}
use native.Mathlib.Numerals.{add-one}
use native.Mathlib.Omega.{arith}
use lib.ListN.{length, get_or, length-append, length-drop}
use lib.Seq.{length-take-le}
use lib.Dec.{ltb, leb}
use borrow.Author.Tests.{le-ltb, lt-ltb, le-leb, lt-leb, leb-true, ltb-true, ltb-false}
use Rattle.range_list.specs.Ranges.{Range, read, flat, over, well_formed, splice}
use Rattle.range_list.proofs.Sound.{by_lt, formed}
use Rattle.range_list.proofs.Sound as sounds
use Rattle.range_list.proofs.Laws.{length_read, length_flat}
use Rattle.range_list.proofs.Kept.{read_over, over_over, over_same}
use Rattle.range_edit.specs.Edits.{done, insert, below, insert_into}
use Rattle.range_edit.specs.declared.Changed.{Changed}
use Rattle.range_edit.specs.declared.Grown.{Grown}
use Rattle.range_edit.proofs.Insert.{Reached}
use Rattle.range_set.specs.declared.Capped.{Capped}
use Rattle.std.specs.Prelude.{Result, Ok, Some}
use Rattle.answers.specs.declared.Refusal.{Refusal}
use Rattle.answers.specs.declared.Refusal.TheVariants.{Range as OutOfRange}
use Rattle.range_set.specs.Set.{cap, refuse_cap, undropped, plain, lowest_out, cappable, insert_capped}
use Rattle.range_set.proofs.Laws.{first}

-- an insert adds one range at most
pub insert_length : (s e : ℕ) (rs : List Range) → length (insert s e rs) ≤ length rs + 1
insert_length s e [] = omega arith
insert_length s e (r ∷ rs) =
    by_lt r.hi s
    (λ _ t. rw t (omega (arith, insert_length s e rs)))
    (λ _ t. by_lt e r.lo (λ _ u. rw (t, u) (omega arith)) (λ _ u. rw (t, u) (omega (arith, insert_length (min s r.lo) (max e r.hi) rs))))

-- an insert that meets no other range adds one range and alters none
pub insert_new : (s e : ℕ) (rs : List Range) → length rs < length (insert s e rs) → insert s e rs ≡ splice rs (below s rs) (below s rs) (record { lo = s; hi = e } ∷ [])
insert_new s e [] = λ h. refl
insert_new s e (r ∷ rs) =
    by_lt r.hi s
    (λ _ t. rw t (λ h. rw (add-one (below s rs)) (ap (λ (x : List Range). r ∷ x) (insert_new s e rs (omega arith)))))
    (λ _ t. by_lt e r.lo
    (λ _ u. rw (t, u) (λ h. refl))
    (λ _ u. rw (t, u) (λ h. absurd (omega (arith, insert_length (min s r.lo) (max e r.hi) rs)))))

-- ---- what `takes` tests, and what it shows
module _ (l : List ℕ) (n x limit : ℕ) where
  pub takes_far : 2 ^ 62 ≤ x → false ≡ cappable l n x limit
  unfolding cappable
  takes_far h = simp (le-ltb _ _ h)

  pub takes_none : x < 2 ^ 62 → limit ≡ 0 → false ≡ cappable l n x limit
  unfolding cappable
  takes_none h e = simp (lt-ltb _ _ h, le-ltb 0 limit (omega arith))

  pub takes_more : x < 2 ^ 62 → 0 < limit → limit < n → false ≡ cappable l n x limit
  unfolding cappable
  takes_more h k m = simp (lt-ltb _ _ h, lt-ltb _ _ k, lt-leb _ _ m)

  pub takes_rest : x < 2 ^ 62 → 0 < limit → n ≤ limit → well_formed l n ≡ cappable l n x limit
  unfolding cappable
  takes_rest h k m = simp (lt-ltb _ _ h, lt-ltb _ _ k, le-leb _ _ m)

  pub record Taken : Type 0 where
    pub number : x < 2 ^ 62
    pub some : 0 < limit
    pub within : n ≤ limit
    pub formed : well_formed l n ≡ true
    pub taken : cappable l n x limit ≡ true

  pub is_taken : cappable l n x limit ≡ true → Taken
  unfolding cappable
  is_taken v =
      let p : (ltb x (2 ^ 62) ≡ true) × ((ltb 0 limit && (leb n limit && well_formed l n)) ≡ true) = sounds.both _ _ v in
      let q : (ltb 0 limit ≡ true) × ((leb n limit && well_formed l n) ≡ true) = sounds.both _ _ p.1 in
      let r : (leb n limit ≡ true) × (well_formed l n ≡ true) = sounds.both _ _ q.1 in
      record { number = ltb-true _ _ p.0; some = ltb-true _ _ q.0; within = leb-true _ _ r.0; formed = r.1; taken = v }

  -- ---- the tests of `crowded`
  abbrev with_x : List Range
  with_x = insert x (x + 1) (read l 0 n)

  pub crowded_not : n < limit → false ≡ ltb limit (length (insert x (x + 1) (read l 0 n)))
  crowded_not h = sym (le-ltb limit (length with_x) (omega (arith, insert_length x (x + 1) (read l 0 n), length_read l 0 n)))

  pub crowded_is : (at : ℕ) (g : Grown) → Reached l n x (x + 1) at g → ltb limit (at + 1 + (n - g.upto)) ≡ ltb limit (length (insert x (x + 1) (read l 0 n)))
  crowded_is at g r = ap (ltb limit) (sym r.size)

  -- ---- the answers
  pub cap_bad : cappable l n x limit ≡ false → refuse_cap OutOfRange l ≡ insert_capped l n x limit
  unfolding insert_capped
  cap_bad v = simp v

  pub cap_plain : cappable l n x limit ≡ true → ltb limit (length (insert x (x + 1) (read l 0 n))) ≡ false → (r : Result Changed Refusal) (m : List ℕ) → done r m ≡ insert_into l n x (x + 1)
      → cap (undropped r) m ≡ insert_capped l n x limit
  unfolding insert_capped
  cap_plain v k r m e = ap plain e ∙ simp (v, le-leb (length with_x) limit (ltb-false limit (length with_x) k))

  module _ (v : Taken) (k : ltb limit (length (insert x (x + 1) (read l 0 n))) ≡ true) (at : ℕ) (p : at ≡ below x (read l 0 n)) where
    alone : insert x (x + 1) (read l 0 n) ≡ splice (read l 0 n) at at (record { lo = x; hi = x + 1 } ∷ [])
    alone =
        insert_new x (x + 1) (read l 0 n) (omega (arith, ltb-true limit (length with_x) k, length_read l 0 n, v.within))
        ∙ ap (λ (i : ℕ). splice (read l 0 n) i i (record { lo = x; hi = x + 1 } ∷ [])) (sym p)

    capped_is : insert_capped l n x limit ≡ lowest_out (splice (read l 0 n) at at (record { lo = x; hi = x + 1 } ∷ [])) l
    unfolding insert_capped
    capped_is = simp (v.taken, lt-leb (length with_x) limit (ltb-true limit (length with_x) k)) (ap (λ (rs : List Range). lowest_out rs l) alone)

    -- the new range is the lowest: nothing is written
    pub cap_lowest : at ≡ 0 → (r : Capped) → r ≡ record { count = n; changed = true; dropped = Some (record { start = x; end = x + 1 }) } → cap (Ok r) l ≡ insert_capped l n x limit
    cap_lowest e r f =
        ap (λ (z : Capped). cap (Ok z) l) f ∙
        (λ i. cap (Ok (record { count = sym (length_read l 0 n) i; changed = true; dropped = Some (record { start = x; end = x + 1 }) })) (sym (over_same l n (formed l n v.formed).room) i))
        ∙ ap (λ (j : ℕ). lowest_out (splice (read l 0 n) j j (record { lo = x; hi = x + 1 } ∷ [])) l) (sym e) ∙ sym capped_is

    -- it is not: the lowest goes, then the new one comes
    module _ (h : 0 < at) (low : at ≤ n) where
      abbrev rest : List Range
      rest = read l 1 (n - 1)

      abbrev new : List Range
      new = splice rest (at - 1) (at - 1) (record { lo = x; hi = x + 1 } ∷ [])

      size : length new ≡ n
      size = simp (length-append, length-drop, length-take-le (at - 1) rest (omega (arith, length_read l 1 (n - 1))), length_read) (omega arith)

      pub cap_drop : (r : Capped) → r ≡ record { count = n; changed = true; dropped = Some (record { start = get_or l 0 0; end = get_or l 1 0 }) } → (m₁ m₂ : List ℕ) → m₁ ≡ over (flat (splice (read l 0 n) 0 1 [])) l
          → m₂ ≡ over (flat (splice (read m₁ 0 (n - 1)) (at - 1) (at - 1) (record { lo = x; hi = x + 1 } ∷ []))) m₁
          → cap (Ok r) m₂ ≡ insert_capped l n x limit
      cap_drop r u m₁ m₂ a b =
          let f : m₁ ≡ over (flat rest) l = a ∙ ap (λ (rs : List Range). over (flat (splice rs 0 1 [])) l) (first l n (omega arith)) in
          let g : read m₁ 0 (n - 1) ≡ rest = (λ i. read (f i) 0 (sym (length_read l 1 (n - 1)) i)) ∙ read_over rest l in
          let q : m₂ ≡ over (flat new) l =
          b ∙ (λ i. over (flat (splice (g i) (at - 1) (at - 1) (record { lo = x; hi = x + 1 } ∷ []))) (f i))
          ∙ over_over (flat new) (flat rest) l (omega (arith, length_flat new, length_flat rest, size, length_read l 1 (n - 1))) in
          let s : suc (at - 1) ≡ at = omega arith in
          ap (λ (z : Capped). cap (Ok z) m₂) u ∙ (λ i. cap (Ok (record { count = sym size i; changed = true; dropped = Some (record { start = get_or l 0 0; end = get_or l 1 0 }) })) (q i))
          ∙ (λ i. lowest_out (splice (sym (first l n (omega arith)) i) (s i) (s i) (record { lo = x; hi = x + 1 } ∷ [])) l) ∙ sym capped_is
