-- The turns and the returns: one range more is one unfolding of what the loop means, and what is left computes the same as the whole.
-- Assumes nothing.
use mathlib.Core.Path.{◌≡◌, refl, sym, ap, ◌∙◌}
use mathlib.Core.Bool.{Bool, true, false, cond, not}
use mathlib.Core.List.{List, [], ◌∷◌, ◌++◌, append_assoc, append-nil}
use Prim.Native.Nat.{ℕ, ◌+◌, ◌-◌, ◌*◌, ◌/◌, ◌^◌, ◌≤◌, ◌<◌}
use native.Mathlib.Nat.{zero-add, sub-zero}
use native.Mathlib.Omega.{arith}
use Rattle.std.specs.Prelude.{Result, Ok, IsOk}
use Rattle.std.specs.Int.{from_bool}
use Rattle.answers.specs.declared.Refusal.{Refusal}
use Rattle.answers.specs.declared.Refusal.TheVariants.{Full}
use lib.ListN.{length, drop, get_or, length-append, length-set}
use lib.Dec.{ltb, leb}
use borrow.Author.Tests.{le-ltb, le-leb, lt-leb}
use Rattle.range_list.specs.Ranges.{Range, range_at, read, flat, over, sound, well_formed}
use Rattle.range_list.proofs.Sound.{by_lt, by_bool, Sound, sound_parts, sound_drop, Formed, formed}
use Rattle.range_list.proofs.Laws.{read_step, read_end, read_drop, length_read, length_flat, over_range}
use Rattle.range_list.proofs.Kept.{read_over, over_over, over_same, formed_over, length_over, get_d_past}
use Rattle.range_edit.specs.Edits.{insert, covers, remove, meets, piece, head_covers, done, stay, refuse, insert_into, remove_from}
use Rattle.range_edit.specs.declared.Changed.{Changed}
use Rattle.range_edit.specs.declared.Grown.{Grown}
use Rattle.range_edit.specs.declared.Cut.{Cut}
use Rattle.range_edit.proofs.Insert.{Passed, Reached, covers_head}
use Rattle.range_edit.proofs.Remove.{Cutting}
use Rattle.range_edit.proofs.Remove as removes
use Rattle.range_edit.proofs.Changes.{covered_same, clear_same}
use Rattle.range_many.specs.declared.Joint.{Joint}
use Rattle.range_many.specs.Many.{edited, edit_all, edit_into, idle, idle_all, fewer, ties, FineAll, spared, joined_to, joined, squeezed, lies, stored, joint, join_one, Ready, merge_into}
use Rattle.range_many.specs.declared.Way.{Way}
use Rattle.range_many.specs.declared.Way.TheVariants.{PutIn, TakeOut}
use Rattle.range_many.proofs.Sizes.{size_is}
use Rattle.range_many.proofs.Fine.{Next, next, all_more}
use Rattle.range_many.proofs.Shorter.{Squeezed, squeeze}

-- ---- range number j of a list in good form
module _ (l : List ℕ) (n : ℕ) (w : Formed l n) where
  pub from_at : (j : ℕ) → j ≤ n → sound 0 (read l j (n - j)) ≡ true
  from_at j h = ap (sound 0) (sym (read_drop l 0 j n h ∙ ap (λ (i : ℕ). read l i (n - j)) (zero-add j))) ∙ sound_drop 0 j (read l 0 n) w.sound

  pub range_at_law : (j : ℕ) → j < n → Sound 0 (range_at l j) (read l (j + 1) (n - (j + 1)))
  range_at_law j h = sound_parts 0 (range_at l j) (read l (j + 1) (n - (j + 1))) (ap (sound 0) (sym (read_step l j n h)) ∙ from_at j (omega arith))

  pub gap_at : (i : ℕ) → 0 < i → i < n → get_or l (i * 2 - 1) 0 < get_or l (i * 2) 0
  gap_at i k h =
      let p = range_at_law (i - 1) (omega arith) in
      let e : i - 1 + 1 ≡ i = omega arith in
      let f : (i - 1) * 2 + 1 ≡ i * 2 - 1 = omega arith in
      let q : Sound (get_or l ((i - 1) * 2 + 1) 0 + 1) (range_at l i) (read l (i + 1) (n - (i + 1))) =
      sound_parts (get_or l ((i - 1) * 2 + 1) 0 + 1) (range_at l i) (read l (i + 1) (n - (i + 1)))
      (ap (sound (get_or l ((i - 1) * 2 + 1) 0 + 1)) (sym (read_step l i n h) ∙ ap (λ (z : ℕ). read l z (n - z)) (sym e)) ∙ p.rest) in
      let z : get_or l (i * 2 - 1) 0 + 1 ≤ get_or l (i * 2) 0 = rw f at q.from in
      omega arith

  pub inside_is : (s e at : ℕ) → s < e → Passed l n s at → (b : Bool) → b ≡ head_covers s e (read l at (n - at)) → b ≡ covers s e (read l 0 n)
  inside_is s e at h p b x =
      x ∙ ap (head_covers s e) (p.tail ∙ ap (λ (i : ℕ). drop i (read l 0 n)) p.is) ∙ sym (covers_head s e 0 (read l 0 n) h w.sound)

  pub fewer_with_is : (s e at : ℕ) (g : Grown) → Reached l n s e at g → g.upto - at ≡ fewer PutIn s e (read l 0 n)
  fewer_with_is s e at g r = omega (arith, r.size, r.above, r.within, length_read l 0 n)

  pub fewer_without_none : (s e at : ℕ) (c : Cut) → s < e → Cutting l n s e at c → c.upto ≤ at → 1 ≡ fewer TakeOut s e (read l 0 n)
  fewer_without_none s e at c h x k = omega (arith, ap length (clear_same s e (read l 0 n) h w.sound (x.met ∙ le-ltb at c.upto k)))

  pub fewer_without_some : (s e at : ℕ) (c : Cut) → s < e → Cutting l n s e at c → at < c.upto → (a b : ℕ)
      → a ≡ from_bool (ltb (get_or l (at * 2) 0) s) → b ≡ from_bool (ltb e c.last) → c.upto - at + 1 - (a + b) ≡ fewer TakeOut s e (read l 0 n)
  fewer_without_some s e at c h x k a b p q =
      let z = removes.size l n s e at c x k (piece (get_or l (at * 2) 0) s (piece e c.last [])) refl in
      let y = ap length (x.splits k) in
      let v : length (piece (get_or l (at * 2) 0) s (piece e c.last [])) ≡ a + b =
      rw (p, q) (by_lt (get_or l (at * 2) 0) s
      (λ _ t. by_lt e c.last (λ _ u. simp (t, u)) (λ _ u. simp (t, u)))
      (λ _ t. by_lt e c.last (λ _ u. simp (t, u)) (λ _ u. simp (t, u)))) in
      omega (arith, z, y, v, x.above, x.within, length_read l 0 n)

-- one or none
pub one_most : (b : Bool) → from_bool b ≤ 1
one_most true = omega arith
one_most false = omega arith

pub outside_is : (s e at : ℕ) (l : List ℕ) (n : ℕ) (c : Cut) → Cutting l n s e at c → leb c.upto at ≡ idle TakeOut s e (read l 0 n)
outside_is s e at l n c x =
    by_lt at c.upto
    (λ h t. lt-leb c.upto at h ∙ sym (ap not (x.met ∙ t)))
    (λ h t. le-leb c.upto at h ∙ sym (ap not (x.met ∙ t)))

-- ---- the loops that only read
module _ (way : Way) (rs : List Range) (o : List ℕ) (j n : ℕ) where
  pub idle_stop : j < n → false ≡ idle way (get_or o (j * 2) 0) (get_or o (j * 2 + 1) 0) rs → false ≡ idle_all way rs (read o j (n - j))
  idle_stop h e = rw (read_step o j n h) (rw (sym e))

  pub idle_on : j < n → true ≡ idle way (get_or o (j * 2) 0) (get_or o (j * 2 + 1) 0) rs → idle_all way rs (read o (j + 1) (n - (j + 1))) ≡ idle_all way rs (read o j (n - j))
  idle_on h e = rw (read_step o j n h) (rw (sym e))

  pub idle_end : n ≤ j → true ≡ idle_all way rs (read o j (n - j))
  idle_end h = rw (read_end o j n h)

  pub ties_on : j < n → ties way rs (read o j (n - j)) ≡ fewer way (get_or o (j * 2) 0) (get_or o (j * 2 + 1) 0) rs + ties way rs (read o (j + 1) (n - (j + 1)))
  ties_on h = rw (read_step o j n h)

  pub ties_end : n ≤ j → ties way rs (read o j (n - j)) ≡ 0
  ties_end h = rw (read_end o j n h)

pub ties_most : (way : Way) (l : List ℕ) (count : ℕ) (o : List ℕ) (n : ℕ) → Formed l count → Formed o n → ties way (read l 0 count) (read o 0 n) ≤ count + n
ties_most way l count o n w v = omega (arith, size_is way (read o 0 n) (read l 0 count) v.sound w.sound, length_read l 0 count, length_read o 0 n)

-- ---- spare
pub record Sparing (l : List ℕ) (n : ℕ) (qs : List Range) (list : List ℕ) (k i : ℕ) : Type 0 where
  pub made : List Range
  pub size : length made ≡ k
  pub low : k ≤ i
  pub at : i ≤ n
  pub mem : list ≡ over (flat made) l
  pub left : made ++ spared qs (read l i (n - i)) ≡ spared qs (read l 0 n)
  pub len : length list ≡ length l

pub spare_start : (l : List ℕ) (n : ℕ) (qs : List Range) → Sparing l n qs l 0 0
spare_start l n qs =
    record { made = []; size = refl; low = omega arith; at = omega arith; mem = refl; left = ap (λ (k : ℕ). spared qs (read l 0 k)) (sub-zero n); len = refl }

-- what is read past what was written is as it was
past : (l : List ℕ) (made : List Range) (list : List ℕ) (k m : ℕ) → length made ≡ k → list ≡ over (flat made) l → k * 2 ≤ m → get_or list m 0 ≡ get_or l m 0
past l made list k m s e h = ap (λ (x : List ℕ). get_or x m 0) e ∙ get_d_past (flat made) l m (omega (arith, length_flat made))

stored_length : (l : List ℕ) (k a b : ℕ) → length (stored l k a b) ≡ length l
stored_length l k a b = simp length-set

module _ (l : List ℕ) (n : ℕ) (qs : List Range) (list : List ℕ) (k i : ℕ) (p : Sparing l n qs list k i) where
  pub spare_lo : get_or list (i * 2) 0 ≡ get_or l (i * 2) 0
  spare_lo = past l p.made list k (i * 2) p.size p.mem (omega (arith, p.low))

  pub spare_hi : get_or list (i * 2 + 1) 0 ≡ get_or l (i * 2 + 1) 0
  spare_hi = past l p.made list k (i * 2 + 1) p.size p.mem (omega (arith, p.low))

  pub spare_turn : i < n → n ≤ length l / 2 → (r : ℕ) (m : List ℕ) → r ≡ cond (lies qs list i) k (k + 1)
      → m ≡ cond (lies qs list i) list (stored list k (get_or list (i * 2) 0) (get_or list (i * 2 + 1) 0)) → Sparing l n qs m r (i + 1)
  spare_turn h room r m a b =
      let e : lies qs list i ≡ lies qs l i = (λ t. covers (spare_lo t) (spare_hi t) qs) in
      by_bool (lies qs l i)
      (λ t.
      let f : r ≡ k = a ∙ rw (e ∙ t) in
      let g : m ≡ list = b ∙ rw (e ∙ t) in
      record {
        made = p.made;
        size = p.size ∙ sym f;
        low = omega (arith, p.low);
        at = omega arith;
        mem = g ∙ p.mem;
        left = ap (λ (x : List Range). p.made ++ x) (sym (ap (spared qs) (read_step l i n h) ∙ rw t)) ∙ p.left;
        len = ap length g ∙ p.len;
      })
      (λ t.
      let f : r ≡ k + 1 = a ∙ rw (e ∙ t) in
      let g : m ≡ stored list k (get_or list (i * 2) 0) (get_or list (i * 2 + 1) 0) = b ∙ rw (e ∙ t) in
      record {
        made = p.made ++ (range_at l i ∷ []);
        size = simp length-append (omega (arith, p.size));
        low = omega (arith, p.low);
        at = omega arith;
        mem = g ∙ (λ z. stored list k (spare_lo z) (spare_hi z)) ∙ over_range p.made l list k (get_or l (i * 2) 0) (get_or l (i * 2 + 1) 0) p.size (omega (arith, p.low)) p.mem;
        left = append_assoc p.made (range_at l i ∷ []) (spared qs (read l (i + 1) (n - (i + 1)))) ∙ ap (λ (x : List Range). p.made ++ x) (sym (ap (spared qs) (read_step l i n h) ∙ rw t)) ∙ p.left;
        len = ap length g ∙ stored_length list k (get_or list (i * 2) 0) (get_or list (i * 2 + 1) 0) ∙ p.len;
      })

  spare_made : n ≤ i → p.made ≡ spared qs (read l 0 n)
  spare_made h = sym (append-nil p.made) ∙ ap (λ (x : List Range). p.made ++ spared qs x) (sym (read_end l i n h)) ∙ p.left

  pub spare_end : n ≤ i → (k ≡ length (spared qs (read l 0 n))) × (list ≡ over (flat (spared qs (read l 0 n))) l)
  spare_end h = (sym p.size ∙ ap length (spare_made h), p.mem ∙ ap (λ (x : List Range). over (flat x) l) (spare_made h))

-- the returns of `spare_one`
module _ (b : Bool) (k : ℕ) (l m : List ℕ) where
  pub one_skip : true ≡ b → (k ≡ cond b k (k + 1)) × (l ≡ cond b l m)
  one_skip e = (rw (sym e), rw (sym e))

  pub one_keep : false ≡ b → (k + 1 ≡ cond b k (k + 1)) × (m ≡ cond b l m)
  one_keep e = (rw (sym e), rw (sym e))

-- ---- join
pub record Joining (l : List ℕ) (n : ℕ) (qs : List Range) (list : List ℕ) (k lo i : ℕ) : Type 0 where
  pub made : List Range
  pub size : length made ≡ k
  pub low : k < i
  pub at : i ≤ n
  pub mem : list ≡ over (flat made) l
  pub left : made ++ joined_to qs (record { lo = lo; hi = get_or l (i * 2 - 1) 0 }) (read l i (n - i)) ≡ joined qs (read l 0 n)
  pub len : length list ≡ length l

first : (l : List ℕ) (n : ℕ) → 0 < n → read l 0 n ≡ range_at l 0 ∷ read l 1 (n - 1)
first l n h = ap (read l 0) (sym (sub-zero n)) ∙ read_step l 0 n h

pub join_start : (l : List ℕ) (n : ℕ) (qs : List Range) → 0 < n → Joining l n qs l 0 (get_or l 0 0) 1
join_start l n qs h = record { made = []; size = refl; low = omega arith; at = omega arith; mem = refl; left = sym (ap (joined qs) (first l n h)); len = refl }

pub join_none : (l : List ℕ) (n : ℕ) (qs : List Range) → n ≡ 0 → (0 ≡ length (joined qs (read l 0 n))) × (l ≡ over (flat (joined qs (read l 0 n))) l)
join_none l n qs e = rw e (refl, refl)

module _ (l : List ℕ) (n : ℕ) (qs : List Range) (list : List ℕ) (k lo i : ℕ) (p : Joining l n qs list k lo i) where
  pub join_hi : get_or list (i * 2 - 1) 0 ≡ get_or l (i * 2 - 1) 0
  join_hi = past l p.made list k (i * 2 - 1) p.size p.mem (omega (arith, p.low))

  pub join_lo : get_or list (i * 2) 0 ≡ get_or l (i * 2) 0
  join_lo = past l p.made list k (i * 2) p.size p.mem (omega (arith, p.low))

  abbrev cur : Range
  cur = record { lo = lo; hi = get_or l (i * 2 - 1) 0 }

  pub join_turn : i < n → n ≤ length l / 2 → (r : Joint) (m : List ℕ) → joint r m ≡ join_one qs list k lo i → Joining l n qs m r.k r.lo (i + 1)
  join_turn h room r m a =
      let e : covers (get_or list (i * 2 - 1) 0) (get_or list (i * 2) 0) qs ≡ covers (get_or l (i * 2 - 1) 0) (get_or l (i * 2) 0) qs = (λ t. covers (join_hi t) (join_lo t) qs) in
      let ix : i * 2 + 1 ≡ (i + 1) * 2 - 1 = omega arith in
      by_bool (covers (get_or l (i * 2 - 1) 0) (get_or l (i * 2) 0) qs)
      (λ t.
      let f : joint r m ≡ joint (record { k = k; lo = lo }) list = a ∙ rw (e ∙ t) in
      let fk : r.k ≡ k = ap (λ d. d.out.k) f in
      let fl : r.lo ≡ lo = ap (λ d. d.out.lo) f in
      let fm : m ≡ list = ap (λ d. d.mem) f in
      record {
        made = p.made;
        size = p.size ∙ sym fk;
        low = omega (arith, p.low);
        at = omega arith;
        mem = fm ∙ p.mem;
        left = (λ z. p.made ++ joined_to qs (record { lo = fl z; hi = get_or l (sym ix z) 0 }) (read l (i + 1) (n - (i + 1))))
            ∙ ap (λ (x : List Range). p.made ++ x) (sym (ap (joined_to qs cur) (read_step l i n h) ∙ rw t)) ∙ p.left;
        len = ap length fm ∙ p.len;
      })
      (λ t.
      let f : joint r m ≡ joint (record { k = k + 1; lo = get_or list (i * 2) 0 }) (stored list k lo (get_or list (i * 2 - 1) 0)) = a ∙ rw (e ∙ t) in
      let fk : r.k ≡ k + 1 = ap (λ d. d.out.k) f in
      let fl : r.lo ≡ get_or l (i * 2) 0 = ap (λ d. d.out.lo) f ∙ join_lo in
      let fm : m ≡ stored list k lo (get_or list (i * 2 - 1) 0) = ap (λ d. d.mem) f in
      record {
        made = p.made ++ (cur ∷ []);
        size = simp length-append (omega (arith, p.size));
        low = omega (arith, p.low);
        at = omega arith;
        mem = fm ∙ (λ z. stored list k lo (join_hi z)) ∙ over_range p.made l list k lo (get_or l (i * 2 - 1) 0) p.size (omega (arith, p.low)) p.mem;
        left = (λ z. p.made ++ (cur ∷ []) ++ joined_to qs (record { lo = fl z; hi = get_or l (sym ix z) 0 }) (read l (i + 1) (n - (i + 1))))
            ∙ append_assoc p.made (cur ∷ []) (joined_to qs (range_at l i) (read l (i + 1) (n - (i + 1))))
            ∙ ap (λ (x : List Range). p.made ++ x) (sym (ap (joined_to qs cur) (read_step l i n h) ∙ rw t)) ∙ p.left;
        len = ap length fm ∙ stored_length list k lo (get_or list (i * 2 - 1) 0) ∙ p.len;
      })

  join_made : n ≤ i → p.made ++ (cur ∷ []) ≡ joined qs (read l 0 n)
  join_made h = ap (λ (x : List Range). p.made ++ joined_to qs cur x) (sym (read_end l i n h)) ∙ p.left

  pub join_end : n ≤ i → n ≤ length l / 2 → (m : List ℕ) → m ≡ stored list k lo (get_or list (n * 2 - 1) 0)
      → (k + 1 ≡ length (joined qs (read l 0 n))) × (m ≡ over (flat (joined qs (read l 0 n))) l)
  join_end h room m a =
      let e : n ≡ i = omega (arith, p.at) in
      let s : k + 1 ≡ length (p.made ++ (cur ∷ [])) = simp length-append (omega (arith, p.size)) in
      let b : m ≡ over (flat (p.made ++ (cur ∷ []))) l =
      a ∙ ap (λ (j : ℕ). stored list k lo (get_or list (j * 2 - 1) 0)) e ∙ (λ z. stored list k lo (join_hi z))
      ∙ over_range p.made l list k lo (get_or l (i * 2 - 1) 0) p.size (omega (arith, p.low)) p.mem in
      (s ∙ ap length (join_made h), b ∙ ap (λ (x : List Range). over (flat x) l) (join_made h))

-- ---- edit all
-- one edit that fits, whether it changes anything or not
edit_is : (way : Way) (l : List ℕ) (n s e : ℕ) → s < e → e ≤ 2 ^ 62 → Formed l n → length (edited way s e (read l 0 n)) ≤ length l / 2
    → (b : Bool) × ((edit_into way l n s e).out ≡ Ok (record { count = length (edited way s e (read l 0 n)); changed = b })) × ((edit_into way l n s e).mem ≡ over (flat (edited way s e (read l 0 n))) l)
unfolding insert_into remove_from
edit_is TakeOut l n s e h k w f =
    by_bool (meets s e (read l 0 n))
    (λ t. rw t (simp (le-leb (length (remove s e (read l 0 n))) (length l / 2) f) (true, refl, refl)))
    (λ t.
    let c : remove s e (read l 0 n) ≡ read l 0 n = clear_same s e (read l 0 n) h w.sound t in
    rw t (rw c (false, ap (λ (z : ℕ). Ok (record { count = z; changed = false })) (sym (length_read l 0 n)), sym (over_same l n w.room))))
edit_is PutIn l n s e h k w f =
    by_bool (covers s e (read l 0 n))
    (λ t.
    let c : insert s e (read l 0 n) ≡ read l 0 n = covered_same s e (read l 0 n) h k w.sound t in
    rw t (rw c (false, ap (λ (z : ℕ). Ok (record { count = z; changed = false })) (sym (length_read l 0 n)), sym (over_same l n w.room))))
    (λ t. rw t (simp (le-leb (length (insert s e (read l 0 n))) (length l / 2) f) (true, refl, refl)))

counted : {c d : Changed} → ◌≡◌ {A = Result Changed Refusal} (Ok c) (Ok d) → c.count ≡ d.count
counted {c} {d} e = let f : c ≡ d = cc in ap (λ x. x.count) f

pub record Going (way : Way) (l : List ℕ) (count : ℕ) (o : List ℕ) (n : ℕ) (list : List ℕ) (k j : ℕ) : Type 0 where
  pub at : j ≤ n
  pub formed : well_formed list k ≡ true
  pub fine : FineAll way (read o j (n - j)) (read list 0 k)
  pub left : edit_all way (read list 0 k) (read o j (n - j)) ≡ edit_all way (read l 0 count) (read o 0 n)
  pub mem : list ≡ over (flat (read list 0 k)) l
  pub len : length list ≡ length l

module _ (way : Way) (l : List ℕ) (count : ℕ) (o : List ℕ) (n : ℕ) (w : Ready way l count o n) where
  pub go_start : Going way l count o n l count 0
  go_start =
      record {
        at = omega arith;
        formed = w.formed;
        fine = rw (sub-zero n) w.fine;
        left = ap (λ (k : ℕ). edit_all way (read l 0 count) (read o 0 k)) (sub-zero n);
        mem = sym (over_same l count (formed l count w.formed).room);
        len = refl;
      }

  module _ (list : List ℕ) (k j : ℕ) (p : Going way l count o n list k j) where
    -- one more range: the edit has the room, and leaves this list
    pub record Turn (m : List ℕ) (r : Result Changed Refusal) : Type 0 where
      pub fits : IsOk r
      pub goes : (c : Changed) → r ≡ Ok c → Going way l count o n m c.count (j + 1)

    pub go_turn : j < n → (r : Result Changed Refusal) (m : List ℕ) → done r m ≡ edit_into way list k (get_or o (j * 2) 0) (get_or o (j * 2 + 1) 0) → Turn m r
    go_turn h r m a =
        let q = range_at_law o n (formed o n w.other) j h in
        let st = read_step o j n h in
        let so : sound 0 (range_at o j ∷ read o (j + 1) (n - (j + 1))) ≡ true = ap (sound 0) (sym st) ∙ from_at o n (formed o n w.other) j p.at in
        let v : Formed list k = formed list k p.formed in
        let fi : FineAll way (range_at o j ∷ read o (j + 1) (n - (j + 1))) (read list 0 k) = rw st at p.fine in
        let x : Next way (range_at o j) (read o (j + 1) (n - (j + 1))) (read list 0 k) = next way 0 (range_at o j) (read o (j + 1) (n - (j + 1))) (read list 0 k) so v.sound fi in
        let E : List Range = edited way (get_or o (j * 2) 0) (get_or o (j * 2 + 1) 0) (read list 0 k) in
        let lf : edit_all way E (read o (j + 1) (n - (j + 1))) ≡ edit_all way (read l 0 count) (read o 0 n) =
        sym (ap (edit_all way (read list 0 k)) st) ∙ p.left in
        let mo : length E ≤ length (edit_all way E (read o (j + 1) (n - (j + 1)))) = all_more way ((range_at o j).hi + 1) (read o (j + 1) (n - (j + 1))) E q.rest x.sound x.fine in
        let room : length E ≤ length list / 2 = omega (arith, mo, ap length lf, w.room, p.len) in
        let b = edit_is way list k (get_or o (j * 2) 0) (get_or o (j * 2 + 1) 0) q.some q.upto v room in
        let f : r ≡ Ok (record { count = length E; changed = b.0 }) = ap (λ d. d.out) a ∙ b.1 in
        let d : m ≡ over (flat E) list = ap (λ d. d.mem) a ∙ b.2 in
        record {
          fits = rw f refl;
          goes = λ w e.
              let c : w.count ≡ length E = counted (sym e ∙ f) in
              let rd : read m 0 w.count ≡ E = (λ z. read (d z) 0 (c z)) ∙ read_over E list in
              record {
                at = omega arith;
                formed = (λ z. well_formed (d z) (c z)) ∙ formed_over E list room x.sound;
                fine = rw rd x.fine;
                left = ap (λ (z : List Range). edit_all way z (read o (j + 1) (n - (j + 1)))) rd ∙ lf;
                mem = d ∙ ap (over (flat E)) p.mem ∙ over_over (flat E) (flat (read list 0 k)) l (omega (arith, length_flat E, length_flat (read list 0 k), x.more))
                    ∙ ap (λ (z : List Range). over (flat z) l) (sym rd);
                len = ap length d ∙ length_over E list room ∙ p.len;
              };
        }

    pub go_end : n ≤ j → list ≡ over (flat (edit_all way (read l 0 count) (read o 0 n))) l
    go_end h =
        p.mem ∙ ap (λ (z : List Range). over (flat z) l) (ap (edit_all way (read list 0 k)) (sym (read_end o j n h)) ∙ p.left)

-- ---- merge
module _ (way : Way) (l : List ℕ) (count : ℕ) (o : List ℕ) (n : ℕ) (w : Formed l count) (v : Formed o n) where
  pub merge_none : true ≡ idle_all way (read l 0 count) (read o 0 n) → stay l count ≡ merge_into way l count (read o 0 n)
  unfolding merge_into
  merge_none e = simp (sym e)

  module _ (i : false ≡ idle_all way (read l 0 count) (read o 0 n)) (t : ℕ) (e : t ≡ ties way (read l 0 count) (read o 0 n)) where
    result_size : length (edit_all way (read l 0 count) (read o 0 n)) ≡ count + n - t
    result_size = omega (arith, size_is way (read o 0 n) (read l 0 count) v.sound w.sound, length_read l 0 count, length_read o 0 n, e)

    pub merge_full : length l / 2 < count + n - t → refuse Full l ≡ merge_into way l count (read o 0 n)
    unfolding merge_into
    merge_full h = simp (sym i, result_size, lt-leb _ _ h)

    module _ (h : count + n - t ≤ length l / 2) (k : ℕ) (m : List ℕ)
        (a : (k ≡ length (squeezed way (read o 0 n) (read l 0 count))) × (m ≡ over (flat (squeezed way (read o 0 n) (read l 0 count))) l)) where
      sq : Squeezed way (read o 0 n) (read l 0 count)
      sq = squeeze way (read o 0 n) (read l 0 count) v.sound w.sound

      more : length (squeezed way (read o 0 n) (read l 0 count)) ≤ length (edit_all way (squeezed way (read o 0 n) (read l 0 count)) (read o 0 n))
      more = all_more way 0 (read o 0 n) (squeezed way (read o 0 n) (read l 0 count)) v.sound sq.sound sq.fine

      again : read m 0 k ≡ squeezed way (read o 0 n) (read l 0 count)
      again = (λ z. read (a.1 z) 0 (a.0 z)) ∙ read_over (squeezed way (read o 0 n) (read l 0 count)) l

      room : length (squeezed way (read o 0 n) (read l 0 count)) ≤ length l / 2
      room = omega (arith, more, ap length sq.same, result_size)

      long : length m ≡ length l
      long = ap length a.1 ∙ length_over (squeezed way (read o 0 n) (read l 0 count)) l room

      pub merge_ready : Ready way m k o n
      merge_ready =
          record {
            formed = (λ z. well_formed (a.1 z) (a.0 z)) ∙ formed_over (squeezed way (read o 0 n) (read l 0 count)) l room sq.sound;
            other = v.formed;
            fine = rw again sq.fine;
            room = rw (again, sq.same) (omega (arith, result_size, long));
          }

      pub merge_done : (f : List ℕ) → f ≡ over (flat (edit_all way (read m 0 k) (read o 0 n))) m
          → done (Ok (record { count = count + n - t; changed = true })) f ≡ merge_into way l count (read o 0 n)
      unfolding merge_into
      merge_done f b =
          let c : f ≡ over (flat (edit_all way (read l 0 count) (read o 0 n))) l =
          b ∙ (λ z. over (flat (edit_all way (again z) (read o 0 n))) (a.1 z))
          ∙ over_over (flat (edit_all way (squeezed way (read o 0 n) (read l 0 count)) (read o 0 n))) (flat (squeezed way (read o 0 n) (read l 0 count))) l
          (omega (arith, more, length_flat (edit_all way (squeezed way (read o 0 n) (read l 0 count)) (read o 0 n)), length_flat (squeezed way (read o 0 n) (read l 0 count))))
          ∙ ap (λ (z : List Range). over (flat z) l) sq.same in
          rw c (simp (sym i, result_size, le-leb _ _ h))
