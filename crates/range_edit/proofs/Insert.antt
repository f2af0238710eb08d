-- What an insert makes of a set: it has the numbers of both, is sound again, and is the splice that the code makes.
-- Assumes nothing.
use Prim.{Unit, tt}
use mathlib.Core.Path.{◌≡◌, refl, sym, ap, ◌∙◌}
use mathlib.Core.Bool.{Bool, true, false, or-false, and-false}
use mathlib.Core.Logic.{◌⊎◌, inl, inr, ⊎_elim}
use mathlib.Core.List.{List, [], ◌∷◌, ◌++◌, append_assoc}
use Prim.Native.Nat.{ℕ, suc, ◌+◌, ◌-◌, ◌/◌, ◌^◌, ◌≤◌, ◌<◌, min, max}
use native.Mathlib.Nat.{sub_self, zero-add}
use native.Mathlib.Numerals.{add-one}
use native.Mathlib.Omega.{arith}
use lib.ListN.{length, take, drop, length-append, length-drop}
use lib.Seq.{drop-nil, drop-drop, length-take-le}
use borrow.Author.Tests.{le-ltb, le-leb, lt-leb}
use Rattle.range_list.specs.Ranges.{Range, read, flat, over, sound, splice, In}
use Rattle.range_list.proofs.Sound.{by_lt, Sound, sound_parts, sound_made, sound_weaker, Formed}
use Rattle.range_list.proofs.Laws.{read_drop, length_read}
use Rattle.range_edit.specs.Edits.{insert, covers, below, grown, head_covers, done, refuse, stay, insert_into}
use Rattle.range_edit.specs.declared.Grown.{Grown}
use Rattle.range_edit.specs.declared.Changed.{Changed}
use Rattle.std.specs.Prelude.{Ok}
use Rattle.answers.specs.declared.Refusal.TheVariants.{Full}

-- two ranges that touch, joined: the numbers of either
pub join_to : (x s e a b : ℕ) → s ≤ b → a ≤ e → (min s a ≤ x) × (x < max e b) → ((a ≤ x) × (x < b)) ⊎ ((s ≤ x) × (x < e))
join_to x s e a b h k p =
    by_lt x s (λ l _. inl (omega arith))
    (λ l _. by_lt x e (λ m _. inr (l, m)) (λ m _. inl (omega arith)))

-- the numbers of an insert are those of the list and s..e
pub insert_to : (x s e : ℕ) (rs : List Range) → In x (insert s e rs) → In x rs ⊎ ((s ≤ x) × (x < e))
insert_to x s e [] = ⊎_elim (λ q. inr q) (λ q. absurd q)
insert_to x s e (r ∷ rs) =
    by_lt r.hi s
    (λ h t. simp t (⊎_elim (λ q. inl (inl q)) (λ q. ⊎_elim (λ z. inl (inr z)) (λ z. inr z) (insert_to x s e rs q))))
    (λ h t. by_lt e r.lo
    (λ k u. simp (t, u) (⊎_elim (λ q. inr q) (λ q. inl q)))
    (λ k u. simp (t, u) (λ p. ⊎_elim (λ z. inl (inr z))
    (λ z. ⊎_elim (λ y. inl (inl y)) (λ y. inr y) (join_to x s e r.lo r.hi h k z))
    (insert_to x (min s r.lo) (max e r.hi) rs p))))

pub insert_from : (x s e : ℕ) (rs : List Range) → In x rs ⊎ ((s ≤ x) × (x < e)) → In x (insert s e rs)
insert_from x s e [] = ⊎_elim (λ q. absurd q) (λ q. inl q)
insert_from x s e (r ∷ rs) =
    by_lt r.hi s
    (λ h t. simp t (⊎_elim (⊎_elim (λ q. inl q) (λ q. inr (insert_from x s e rs (inl q)))) (λ q. inr (insert_from x s e rs (inr q)))))
    (λ h t. by_lt e r.lo
    (λ k u. simp (t, u) (⊎_elim (λ q. inr q) (λ q. inl q)))
    (λ k u. simp (t, u) (λ p. insert_from x (min s r.lo) (max e r.hi) rs
    (⊎_elim (⊎_elim (λ q. inr (omega arith)) (λ q. inl q)) (λ q. inr (omega arith)) p))))

-- an insert keeps a list sound
pub insert_sound : (least s e : ℕ) (rs : List Range) → least ≤ s → s < e → e ≤ 2 ^ 62 → sound least rs ≡ true → sound least (insert s e rs) ≡ true
insert_sound least s e [] h k m q = sound_made least (record { lo = s; hi = e }) [] (record { from = h; some = k; upto = m; rest = refl })
insert_sound least s e (r ∷ rs) h k m q =
    let p : Sound least r rs = sound_parts least r rs q in
    by_lt r.hi s
    (λ a t. simp t (sound_made least r (insert s e rs) (record { from = p.from; some = p.some; upto = p.upto; rest = insert_sound (r.hi + 1) s e rs (omega arith) k m p.rest })))
    (λ a t. by_lt e r.lo
    (λ b u. simp (t, u) (sound_made least (record { lo = s; hi = e }) (r ∷ rs)
    (record { from = h; some = k; upto = m; rest = sound_made (e + 1) r rs (record { from = omega arith; some = p.some; upto = p.upto; rest = p.rest }) })))
    (λ b u. simp (t, u) (insert_sound least (min s r.lo) (max e r.hi) rs (omega arith) (omega arith) (omega arith) (sound_weaker least (r.hi + 1) rs (omega arith) p.rest))))

-- every range of rs ends at s or after it
abbrev pub From : ℕ → List Range → Type 0
From s [] = Unit {0}
From s (r ∷ rs) = (s ≤ r.hi) × From s rs

from_less : (a b : ℕ) (rs : List Range) → a ≤ b → From b rs → From a rs
from_less a b [] h p = tt
from_less a b (r ∷ rs) h p = (omega arith, from_less a b rs h p.1)

from_sound : (s least : ℕ) (rs : List Range) → s ≤ least → sound least rs ≡ true → From s rs
from_sound s least [] h q = tt
from_sound s least (r ∷ rs) h q =
    let p : Sound least r rs = sound_parts least r rs q in
    (omega arith, from_sound s (r.hi + 1) rs (omega arith) p.rest)

pub from_below : (s least : ℕ) (rs : List Range) → sound least rs ≡ true → From s (drop (below s rs) rs)
from_below s least [] q = tt
from_below s least (r ∷ rs) q =
    let p : Sound least r rs = sound_parts least r rs q in
    by_lt r.hi s
    (λ h t. simp (t, add-one) (from_below s (r.hi + 1) rs p.rest))
    (λ h t. simp t (h, from_sound s (r.hi + 1) rs (omega arith) p.rest))

-- an insert passes the ranges that end before it
insert_below : (s e : ℕ) (rs : List Range) → insert s e rs ≡ take (below s rs) rs ++ insert s e (drop (below s rs) rs)
insert_below s e [] = refl
insert_below s e (r ∷ rs) =
    by_lt r.hi s
    (λ h t. simp (t, add-one) (ap (λ (x : List Range). r ∷ x) (insert_below s e rs)))
    (λ h t. simp t)

pub below_le : (s : ℕ) (rs : List Range) → below s rs ≤ length rs
below_le s [] = omega arith
below_le s (r ∷ rs) = by_lt r.hi s (λ h t. simp t (omega (arith, below_le s rs))) (λ h t. simp t (omega arith))

pub grown_from : (i s e : ℕ) (rs : List Range) → i ≤ (grown i s e rs).upto
grown_from i s e [] = omega arith
grown_from i s e (r ∷ rs) =
    by_lt e r.lo (λ h t. simp t (omega arith)) (λ h t. simp t (omega (arith, grown_from (i + 1) (min s r.lo) (max e r.hi) rs)))

pub grown_upto : (i s e : ℕ) (rs : List Range) → (grown i s e rs).upto ≤ i + length rs
grown_upto i s e [] = omega arith
grown_upto i s e (r ∷ rs) =
    by_lt e r.lo (λ h t. simp t (omega arith)) (λ h t. simp t (omega (arith, grown_upto (i + 1) (min s r.lo) (max e r.hi) rs)))

abbrev pub grown_range : Grown → Range
grown_range g = record { lo = g.lo; hi = g.hi }

-- where no range ends before s, an insert is what `grown` finds and what is after that
insert_grown : (i s e : ℕ) (rs : List Range) → From s rs → insert s e rs ≡ grown_range (grown i s e rs) ∷ drop ((grown i s e rs).upto - i) rs
insert_grown i s e [] p = ap (λ (x : List Range). record { lo = s; hi = e } ∷ x) (sym (drop-nil (i - i)))
insert_grown i s e (r ∷ rs) p =
    by_lt e r.lo
    (λ h t. simp (le-ltb r.hi s p.0, t, sub_self))
    (λ h t.
    let g : Grown = grown (i + 1) (min s r.lo) (max e r.hi) rs in
    let k : g.upto - i ≡ suc (g.upto - (i + 1)) = omega (arith, grown_from (i + 1) (min s r.lo) (max e r.hi) rs) in
    simp (le-ltb r.hi s p.0, t, k) (insert_grown (i + 1) (min s r.lo) (max e r.hi) rs (from_less (min s r.lo) s rs (omega arith) p.1)))

-- an insert into a sound list is a splice, where the code makes one
pub insert_is : (s e : ℕ) (rs : List Range) (lo : ℕ) (g : Grown) → sound 0 rs ≡ true → lo ≡ below s rs → g ≡ grown lo s e (drop lo rs)
    → insert s e rs ≡ splice rs lo g.upto (grown_range g ∷ [])
insert_is s e rs lo g q l k =
    let a : From s (drop lo rs) = rw l (from_below s 0 rs q) in
    let b : lo ≤ g.upto = rw k (grown_from lo s e (drop lo rs)) in
    let d : lo + (g.upto - lo) ≡ g.upto = omega arith in
    let f : insert s e (drop lo rs) ≡ grown_range g ∷ drop g.upto rs =
    rw (← k) at (insert_grown lo s e (drop lo rs) a)
    ∙ ap (λ (x : List Range). grown_range g ∷ x) (drop-drop (g.upto - lo) lo rs ∙ ap (λ (n : ℕ). drop n rs) d) in
    let h : insert s e rs ≡ take lo rs ++ insert s e (drop lo rs) = rw l (insert_below s e rs) in
    h ∙ ap (λ (x : List Range). take lo rs ++ x) f ∙ sym (append_assoc (take lo rs) (grown_range g ∷ []) (drop g.upto rs))

-- above a number of it, a sound list covers nothing that starts there
covers_none : (s e least : ℕ) (rs : List Range) → s < least → sound least rs ≡ true → covers s e rs ≡ false
covers_none s e least [] h q = refl
covers_none s e least (r ∷ rs) h q =
    let p : Sound least r rs = sound_parts least r rs q in
    simp (lt-leb r.lo s (omega arith)) (covers_none s e (r.hi + 1) rs (omega arith) p.rest)

-- only the first range that does not end before s can have all of s..e
pub covers_head : (s e least : ℕ) (rs : List Range) → s < e → sound least rs ≡ true → covers s e rs ≡ head_covers s e (drop (below s rs) rs)
covers_head s e least [] h q = refl
covers_head s e least (r ∷ rs) h q =
    let p : Sound least r rs = sound_parts least r rs q in
    by_lt r.hi s
    (λ a t. simp (t, add-one, lt-leb e r.hi (omega arith), and-false) (covers_head s e (r.hi + 1) rs h p.rest))
    (λ a t. simp (t, covers_none s e (r.hi + 1) rs (omega arith) p.rest, or-false))

-- what `passed` has found
pub record Passed (l : List ℕ) (n s lo : ℕ) : Type 0 where
  pub low : lo ≤ n
  pub is : lo ≡ below s (read l 0 n)
  pub tail : read l lo (n - lo) ≡ drop lo (read l 0 n)

pub passed : (l : List ℕ) (n s lo : ℕ) → lo ≡ below s (read l 0 n) → Passed l n s lo
passed l n s lo f =
    let h : lo ≤ n = omega (arith, below_le s (read l 0 n), length_read l 0 n) in
    record { low = h; is = f; tail = sym (read_drop l 0 lo n h ∙ ap (λ (i : ℕ). read l i (n - lo)) (zero-add lo)) }

-- what `grow` has found
pub record Reached (l : List ℕ) (n s e lo : ℕ) (g : Grown) : Type 0 where
  pub above : lo ≤ g.upto
  pub within : g.upto ≤ n
  pub splices : insert s e (read l 0 n) ≡ splice (read l 0 n) lo g.upto (grown_range g ∷ [])
  pub size : length (insert s e (read l 0 n)) ≡ lo + 1 + (n - g.upto)

pub reached : (l : List ℕ) (n s e lo : ℕ) (g : Grown) → Formed l n → Passed l n s lo → g ≡ grown lo s e (read l lo (n - lo)) → Reached l n s e lo g
reached l n s e lo g w p k =
    let f : g ≡ grown lo s e (drop lo (read l 0 n)) = k ∙ ap (grown lo s e) p.tail in
    let a : lo ≤ g.upto = rw k (grown_from lo s e (read l lo (n - lo))) in
    let b : g.upto ≤ lo + length (read l lo (n - lo)) = rw k (grown_upto lo s e (read l lo (n - lo))) in
    let d : length (read l 0 n) ≡ n = length_read l 0 n in
    let i : insert s e (read l 0 n) ≡ splice (read l 0 n) lo g.upto (grown_range g ∷ []) = insert_is s e (read l 0 n) lo g w.sound p.is f in
    record {
      above = a;
      within = omega (arith, length_read l lo (n - lo), p.low);
      splices = i;
      size = ap length i ∙ simp (length-append, length-drop, length-take-le lo (read l 0 n) (omega (arith, p.low)), d);
    }

-- the answers of `put`
module _ (l : List ℕ) (n s e : ℕ) (h : s < e) (w : Formed l n) (lo : ℕ) (p : Passed l n s lo) where
  covers_is : (t : Bool) → t ≡ head_covers s e (read l lo (n - lo)) → covers s e (read l 0 n) ≡ t
  covers_is t x = covers_head s e 0 (read l 0 n) h w.sound ∙ sym (x ∙ ap (head_covers s e) (p.tail ∙ ap (λ (i : ℕ). drop i (read l 0 n)) p.is))

  pub puts_none : true ≡ head_covers s e (read l lo (n - lo)) → stay l n ≡ insert_into l n s e
  unfolding insert_into
  puts_none x = simp (covers_is true x)

  module _ (x : false ≡ head_covers s e (read l lo (n - lo))) (g : Grown) (r : Reached l n s e lo g) where
    pub puts_full : length l / 2 < lo + 1 + (n - g.upto) → refuse Full l ≡ insert_into l n s e
    unfolding insert_into
    puts_full z = simp (covers_is false x, r.size, lt-leb _ _ z)

    pub puts_one : (r' : Changed) → r' ≡ record { count = lo + 1 + (n - g.upto); changed = true } → (m : List ℕ) → lo + 1 + (n - g.upto) ≤ length l / 2
        → m ≡ over (flat (splice (read l 0 n) lo g.upto (grown_range g ∷ []))) l
        → done (Ok r') m ≡ insert_into l n s e
    unfolding insert_into
    puts_one r' f m z y = rw (f, y, ← r.splices) (simp (covers_is false x, r.size, le-leb _ _ z))
