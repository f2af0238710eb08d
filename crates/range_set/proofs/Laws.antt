-- A law for each return: its premises are the code's tests and what the callees ensure.
-- Assumes nothing.
use mathlib.Core.Path.{◌≡◌, refl, sym, ap, ◌∙◌}
use mathlib.Core.Bool.{Bool, true, false, ◌&&◌, ◌||◌}
use mathlib.Core.List.{List, [], ◌∷◌}
use Prim.Native.Nat.{ℕ, zero, suc, ◌+◌, ◌-◌, ◌*◌, ◌^◌, ◌≤◌, ◌<◌}
use native.Mathlib.Nat.{sub-zero, add-zero}
use native.Mathlib.Omega.{arith}
use lib.ListN.{drop, get_or}
use lib.Dec.{leb}
use borrow.Author.Tests.{le-ltb, lt-ltb, le-leb, lt-leb, leb-true}
use Rattle.range_list.specs.Ranges.{Range, range_at, read, flat, over, sound, well_formed, splice}
use Rattle.range_list.proofs.Sound.{by_lt, Sound, sound_parts, Formed, formed}
use Rattle.range_list.proofs.Sound as sounds
use Rattle.range_edit.specs.Edits.{Done, stay, refuse, covers, head_covers, both, refuse_both, replace_in}
use Rattle.range_list.proofs.Laws.{read_step, length_read}
use Rattle.range_edit.proofs.Insert.{Passed, covers_head}
use Rattle.std.specs.Prelude.{Result, Ok, Err}
use Rattle.answers.specs.declared.Refusal.{Refusal}
use Rattle.answers.specs.declared.Refusal.TheVariants.{Range as OutOfRange, Order}
use Rattle.range_set.specs.Set.{valid, on_range, on_sets, replace_range, member, held_of, least, greatest, bound_of, size_of, pop, refuse_pop, pop_first, pop_min}

-- ---- what `usable` tests, and what it shows
module _ (l : List ℕ) (n s e : ℕ) where
  pub valid_start : 2 ^ 62 < s → false ≡ valid l n s e
  unfolding valid
  valid_start h = simp (lt-leb _ _ h)

  pub valid_end : s ≤ 2 ^ 62 → 2 ^ 62 < e → false ≡ valid l n s e
  unfolding valid
  valid_end h k = simp (le-leb _ _ h, lt-leb _ _ k)

  pub valid_rest : s ≤ 2 ^ 62 → e ≤ 2 ^ 62 → well_formed l n ≡ valid l n s e
  unfolding valid
  valid_rest h k = simp (le-leb _ _ h, le-leb _ _ k)

  pub record Valid : Type 0 where
    pub far : e ≤ 2 ^ 62
    pub formed : well_formed l n ≡ true
    pub valid : valid l n s e ≡ true

  pub is_valid : valid l n s e ≡ true → Valid
  unfolding valid
  is_valid v =
      let p : (leb s (2 ^ 62) ≡ true) × ((leb e (2 ^ 62) && well_formed l n) ≡ true) = sounds.both _ _ v in
      let q : (leb e (2 ^ 62) ≡ true) × (well_formed l n ≡ true) = sounds.both _ _ p.1 in
      record { far = leb-true _ _ q.0; formed = q.1; valid = v }

  -- ---- insert and remove
  module _ (d : Done) where
    pub range_bad : valid l n s e ≡ false → refuse OutOfRange l ≡ on_range l n s e d
    unfolding on_range
    range_bad v = simp v

    pub range_empty : valid l n s e ≡ true → e ≤ s → stay l n ≡ on_range l n s e d
    unfolding on_range
    range_empty v h = simp (v, le-ltb _ _ h)

    pub range_some : valid l n s e ≡ true → s < e → d ≡ on_range l n s e d
    unfolding on_range
    range_some v h = simp (v, lt-ltb _ _ h)

  -- ---- replace
  module _ (m : List ℕ) where
    pub replace_bad : valid l n s e ≡ false → refuse_both OutOfRange l m ≡ replace_range l n s e m
    unfolding replace_range
    replace_bad v = simp v

    pub replace_empty : valid l n s e ≡ true → e ≤ s → both (Ok (record { count = n; parts = 0 })) l m ≡ replace_range l n s e m
    unfolding replace_range
    replace_empty v h = simp (v, le-ltb _ _ h)

    pub replace_some : valid l n s e ≡ true → s < e → replace_in l n s e m ≡ replace_range l n s e m
    unfolding replace_range
    replace_some v h = simp (v, lt-ltb _ _ h)

-- ---- add and subtract
module _ (l : List ℕ) (n : ℕ) (o : List ℕ) (k : ℕ) (d : Done) where
  pub sets_bad : well_formed l n ≡ false → refuse OutOfRange l ≡ on_sets l n o k d
  unfolding on_sets
  sets_bad w = simp w

  pub sets_other : well_formed l n ≡ true → well_formed o k ≡ false → refuse OutOfRange l ≡ on_sets l n o k d
  unfolding on_sets
  sets_other w v = simp (w, v)

  pub sets_good : well_formed l n ≡ true → well_formed o k ≡ true → d ≡ on_sets l n o k d
  unfolding on_sets
  sets_good w v = simp (w, v)

-- insert one: a number past the limit
pub one_far : (l : List ℕ) (n x : ℕ) (d : Done) → 2 ^ 62 ≤ x → refuse OutOfRange l ≡ on_range l n x (x + 1) d
unfolding on_range valid
one_far l n x d h = by_lt (2 ^ 62) x (λ k _. simp (lt-leb _ _ k)) (λ k _. simp (le-leb _ _ k, lt-leb (x + 1) (2 ^ 62) (omega arith)))

-- ---- contains
member_covers : (x : ℕ) (rs : List Range) → member x rs ≡ covers x (x + 1) rs
member_covers x [] = refl
member_covers x (r ∷ rs) =
    by_lt x r.hi
    (λ h t. simp (t, le-leb (x + 1) r.hi (omega arith)) (ap (λ (b : Bool). leb r.lo x && true || b) (member_covers x rs)))
    (λ h t. simp (t, lt-leb (x + 1) r.hi (omega arith)) (ap (λ (b : Bool). leb r.lo x && false || b) (member_covers x rs)))

module _ (l : List ℕ) (n x : ℕ) where
  pub held_far : 2 ^ 62 ≤ x → Err OutOfRange ≡ held_of l n x
  unfolding held_of
  held_far h = simp (le-ltb _ _ h)

  pub held_bad : x < 2 ^ 62 → well_formed l n ≡ false → Err OutOfRange ≡ held_of l n x
  unfolding held_of
  held_bad h w = simp (lt-ltb _ _ h, w)

  pub held_is : x < 2 ^ 62 → Formed l n → (at : ℕ) → Passed l n x at → (b : Bool) → b ≡ head_covers x (x + 1) (read l at (n - at))
      → Ok b ≡ held_of l n x
  unfolding held_of
  held_is h w at p b e =
      let m : member x (read l 0 n) ≡ b =
      member_covers x (read l 0 n) ∙ covers_head x (x + 1) 0 (read l 0 n) (omega arith) w.sound
      ∙ sym (e ∙ ap (head_covers x (x + 1)) (p.tail ∙ ap (λ (i : ℕ). drop i (read l 0 n)) p.is)) in
      simp (lt-ltb _ _ h, w.formed, m)

-- ---- min, max and len
pub first : (l : List ℕ) (n : ℕ) → 0 < n → read l 0 n ≡ range_at l 0 ∷ read l 1 (n - 1)
first l n h = ap (read l 0) (sym (sub-zero n)) ∙ read_step l 0 n h

greatest_read : (l : List ℕ) (i k : ℕ) → greatest (read l i (suc k)) ≡ Ok (get_or l ((i + k) * 2 + 1) 0 - 1)
greatest_read l i zero = ap (λ (j : ℕ). Ok (get_or l (j * 2 + 1) 0 - 1)) (sym (add-zero i))
greatest_read l i (suc k) =
    let e : i + 1 + k ≡ i + suc k = omega arith in
    greatest_read l (i + 1) k ∙ ap (λ (j : ℕ). Ok (get_or l (j * 2 + 1) 0 - 1)) e

-- the last end is above what the list is sound from
last_above : (l : List ℕ) (i k low : ℕ) → sound low (read l i (suc k)) ≡ true → low < get_or l ((i + k) * 2 + 1) 0
last_above l i zero low q =
    let p : Sound low (range_at l i) [] = sound_parts low (range_at l i) [] q in
    let e : i + 0 ≡ i = omega arith in
    rw e (omega arith)
last_above l i (suc k) low q =
    let p : Sound low (range_at l i) (read l (i + 1) (suc k)) = sound_parts low (range_at l i) (read l (i + 1) (suc k)) q in
    let e : i + 1 + k ≡ i + suc k = omega arith in
    let a : (range_at l i).hi + 1 < get_or l ((i + suc k) * 2 + 1) 0 = rw e at (last_above l (i + 1) k ((range_at l i).hi + 1) p.rest) in
    omega arith

pub last_some : (l : List ℕ) (n : ℕ) → 0 < n → Formed l n → 0 < get_or l (n * 2 - 1) 0
last_some l n h w =
    let a : n ≡ suc (n - 1) = omega arith in
    let b : (0 + (n - 1)) * 2 + 1 ≡ n * 2 - 1 = omega arith in
    let q : sound 0 (read l 0 (suc (n - 1))) ≡ true = ap (λ (k : ℕ). sound 0 (read l 0 k)) (sym a) ∙ w.sound in
    rw b at (last_above l 0 (n - 1) 0 q)

module _ (l : List ℕ) (n : ℕ) where
  pub bound_bad : (b : Result ℕ Refusal) → well_formed l n ≡ false → Err OutOfRange ≡ bound_of l n b
  unfolding bound_of
  bound_bad b w = simp w

  pub least_none : well_formed l n ≡ true → n ≡ 0 → Err Order ≡ bound_of l n (least (read l 0 n))
  unfolding bound_of
  least_none w e = ap (λ (k : ℕ). least (read l 0 k)) (sym e) ∙ simp w

  pub least_is : well_formed l n ≡ true → 0 < n → Ok (get_or l 0 0) ≡ bound_of l n (least (read l 0 n))
  unfolding bound_of
  least_is w h = ap least (sym (first l n h)) ∙ simp w

  pub greatest_none : well_formed l n ≡ true → n ≡ 0 → Err Order ≡ bound_of l n (greatest (read l 0 n))
  unfolding bound_of
  greatest_none w e = ap (λ (k : ℕ). greatest (read l 0 k)) (sym e) ∙ simp w

  pub greatest_is : well_formed l n ≡ true → 0 < n → Ok (get_or l (n * 2 - 1) 0 - 1) ≡ bound_of l n (greatest (read l 0 n))
  unfolding bound_of
  greatest_is w h =
      let a : suc (n - 1) ≡ n = omega arith in
      let b : (0 + (n - 1)) * 2 + 1 ≡ n * 2 - 1 = omega arith in
      ap (λ (i : ℕ). Ok (get_or l i 0 - 1)) (sym b) ∙ sym (greatest_read l 0 (n - 1)) ∙ ap (λ (k : ℕ). greatest (read l 0 k)) a ∙ simp w

  pub size_bad : well_formed l n ≡ false → Err OutOfRange ≡ size_of l n
  unfolding size_of
  size_bad w = simp w

  pub size_is : well_formed l n ≡ true → Ok n ≡ size_of l n
  unfolding size_of
  size_is w = simp w

  -- ---- pop min
  pub pop_bad : well_formed l n ≡ false → refuse_pop OutOfRange l ≡ pop_min l n
  unfolding pop_min
  pop_bad w = simp w

  pub pop_none : well_formed l n ≡ true → n ≡ 0 → refuse_pop Order l ≡ pop_min l n
  unfolding pop_min
  pop_none w e = ap (λ (k : ℕ). pop_first (read l 0 k) l) (sym e) ∙ simp w

  pub pop_first_law : well_formed l n ≡ true → 0 < n → (m : List ℕ) → m ≡ over (flat (splice (read l 0 n) 0 1 [])) l
      → pop (Ok (record { count = n - 1; start = get_or l 0 0; end = get_or l 1 0 })) m ≡ pop_min l n
  unfolding pop_min
  pop_first_law w h m e =
      let f : m ≡ over (flat (read l 1 (n - 1))) l = e ∙ ap (λ (rs : List Range). over (flat (splice rs 0 1 [])) l) (first l n h) in
      (λ i. pop (Ok (record { count = sym (length_read l 1 (n - 1)) i; start = get_or l 0 0; end = get_or l 1 0 })) (f i))
      ∙ ap (λ (rs : List Range). pop_first rs l) (sym (first l n h)) ∙ simp w
