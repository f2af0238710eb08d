-- What of a set lies in s..e, and what a replace makes of both lists: the parts are what the code clips.
-- Assumes nothing.
use mathlib.Core.Path.{◌≡◌, refl, sym, ap, ◌∙◌}
use mathlib.Core.Bool.{true, cond, ◌&&◌}
use mathlib.Core.List.{List, [], ◌∷◌}
use Prim.Native.Nat.{ℕ, suc, ◌+◌, ◌-◌, ◌/◌, ◌≤◌, ◌<◌, min, max}
use native.Mathlib.Nat.{sub_self}
use native.Mathlib.Numerals.{add-one}
use native.Mathlib.Omega.{arith}
use lib.ListN.{length, take, drop}
use lib.Seq.{take-nil}
use lib.Dec.{leb}
use borrow.Author.Tests.{le-ltb, lt-ltb, le-leb, lt-leb}
use Rattle.range_list.specs.Ranges.{Range, read, flat, over, sound, splice}
use Rattle.range_list.proofs.Sound.{by_lt, Sound, sound_parts, sound_drop, Formed}
use Rattle.range_list.proofs.Laws.{length_read, read_take}
use Rattle.range_edit.specs.Edits.{below, cut, clipped, grown, within, both, refuse_both, settle_both, replace_in}
use Rattle.range_edit.specs.declared.Grown.{Grown}
use Rattle.range_edit.specs.declared.Cut.{Cut}
use Rattle.std.specs.Prelude.{Ok}
use Rattle.answers.specs.declared.Refusal.TheVariants.{Full}
use Rattle.range_edit.proofs.Laws.{length_clipped}
use Rattle.range_edit.proofs.Insert.{From, from_below, Passed, Reached, reached, grown_range}
use Rattle.range_edit.proofs.Remove.{cut_from, cut_upto}

within_none : (least s e : ℕ) (rs : List Range) → e ≤ least → sound least rs ≡ true → within s e rs ≡ []
within_none least s e [] h q = refl
within_none least s e (r ∷ rs) h q =
    let p : Sound least r rs = sound_parts least r rs q in
    simp (le-ltb (max s r.lo) (min e r.hi) (omega arith)) (within_none (r.hi + 1) s e rs (omega arith) p.rest)

within_below : (least s e : ℕ) (rs : List Range) → sound least rs ≡ true → within s e rs ≡ within s e (drop (below (s + 1) rs) rs)
within_below least s e [] q = refl
within_below least s e (r ∷ rs) q =
    let p : Sound least r rs = sound_parts least r rs q in
    by_lt r.hi (s + 1)
    (λ k t. rw (t, add-one (below (s + 1) rs)) (simp (le-ltb (max s r.lo) (min e r.hi) (omega arith)) (within_below (r.hi + 1) s e rs p.rest)))
    (λ k t. rw t refl)

within_cut : (least i s e b : ℕ) (rs : List Range) → s < e → From (s + 1) rs → sound least rs ≡ true → within s e rs ≡ clipped s e (take ((cut i e b rs).upto - i) rs)
within_cut least i s e b [] h f q = ap (clipped s e) (sym (take-nil (i - i)))
within_cut least i s e b (r ∷ rs) h f q =
    let p : Sound least r rs = sound_parts least r rs q in
    by_lt r.lo e
    (λ l t.
    let g : Cut = cut (i + 1) e r.hi rs in
    let m : g.upto - i ≡ suc (g.upto - (i + 1)) = omega (arith, cut_from (i + 1) e r.hi rs) in
    simp (t, m, lt-ltb (max s r.lo) (min e r.hi) (omega (arith, f.0, p.some)))
    (ap (λ (x : List Range). record { lo = max s r.lo; hi = min e r.hi } ∷ x) (within_cut (r.hi + 1) (i + 1) s e r.hi rs h f.1 p.rest)))
    (λ l t. simp (t, sub_self, le-ltb (max s r.lo) (min e r.hi) (omega arith)) (within_none (r.hi + 1) s e rs (omega (arith, p.some)) p.rest))

-- what `cut_at` has found, for the parts
pub record Lying (l : List ℕ) (n s e lo : ℕ) (c : Cut) : Type 0 where
  pub above : lo ≤ c.upto
  pub fits : lo + (c.upto - lo) ≤ n
  pub numbers : within s e (read l 0 n) ≡ clipped s e (read l lo (c.upto - lo))
  pub size : length (clipped s e (read l lo (c.upto - lo))) ≡ c.upto - lo

pub lying : (l : List ℕ) (n s e lo : ℕ) (c : Cut) → s < e → Formed l n → Passed l n (s + 1) lo → c ≡ cut lo e 0 (read l lo (n - lo)) → Lying l n s e lo c
lying l n s e lo c h w p x =
    let rs : List Range = read l 0 n in
    let a : lo ≤ c.upto = rw x (cut_from lo e 0 (read l lo (n - lo))) in
    let b : c.upto ≤ lo + length (read l lo (n - lo)) = rw x (cut_upto lo e 0 (read l lo (n - lo))) in
    let d : c.upto ≤ n = omega (arith, length_read l lo (n - lo), p.low) in
    let f : From (s + 1) (drop lo rs) = rw p.is (from_below (s + 1) 0 rs w.sound) in
    let q : sound 0 (drop lo rs) ≡ true = sound_drop 0 lo rs w.sound in
    let y : within s e rs ≡ clipped s e (read l lo (c.upto - lo)) =
    within_below 0 s e rs w.sound ∙ ap (λ (i : ℕ). within s e (drop i rs)) (sym p.is)
    ∙ within_cut 0 lo s e 0 (drop lo rs) h f q
    ∙ ap (λ (z : List Range). clipped s e (take ((cut lo e 0 z).upto - lo) z)) (sym p.tail)
    ∙ ap (λ (z : Cut). clipped s e (take (z.upto - lo) (read l lo (n - lo)))) (sym x)
    ∙ ap (clipped s e) (read_take l lo (c.upto - lo) (n - lo) (omega arith)) in
    record {
      above = a;
      fits = omega arith;
      numbers = y;
      size = length_clipped s e (read l lo (c.upto - lo)) ∙ length_read l lo (c.upto - lo);
    }

-- all that `put_reporting` knows before it writes anything
pub record Plan (l : List ℕ) (n s e first : ℕ) (c : Cut) (lo : ℕ) (g : Grown) (m : List ℕ) : Type 0 where
  pub room : n ≤ length l / 2
  pub parts_fit : first + (c.upto - first) ≤ n
  pub above : lo ≤ g.upto
  pub upto : g.upto ≤ n
  pub is : replace_in l n s e m
      ≡ cond (leb (lo + 1 + (n - g.upto)) (length l / 2) && leb (c.upto - first) (length m / 2))
      (both (Ok (record { count = lo + 1 + (n - g.upto); parts = c.upto - first })) (over (flat (splice (read l 0 n) lo g.upto (grown_range g ∷ []))) l) (over (flat (clipped s e (read l first (c.upto - first)))) m))
      (refuse_both Full l m)

pub plan : (l : List ℕ) (n s e first : ℕ) (c : Cut) (lo : ℕ) (g : Grown) (m : List ℕ) → s < e → Formed l n
    → Passed l n (s + 1) first → c ≡ cut first e 0 (read l first (n - first)) → Passed l n s lo → g ≡ grown lo s e (read l lo (n - lo)) → Plan l n s e first c lo g m
unfolding replace_in
plan l n s e first c lo g m h v p x q y =
    let r : Reached l n s e lo g = reached l n s e lo g v q y in
    let w : Lying l n s e first c = lying l n s e first c h v p x in
    let rs : List Range = splice (read l 0 n) lo g.upto (grown_range g ∷ []) in
    let ps : List Range = clipped s e (read l first (c.upto - first)) in
    let a : length rs ≡ lo + 1 + (n - g.upto) = ap length (sym r.splices) ∙ r.size in
    let b : length ps ≡ c.upto - first = w.size in
    record {
      room = v.room;
      parts_fit = w.fits;
      above = r.above;
      upto = r.within;
      is = (λ i. settle_both (r.splices i) (w.numbers i) l m)
          ∙ (λ i. cond (leb (a i) (length l / 2) && leb (b i) (length m / 2)) (both (Ok (record { count = a i; parts = b i })) (over (flat rs) l) (over (flat ps) m)) (refuse_both Full l m));
    }

-- the answers of `put_reporting`
module _ (l : List ℕ) (n s e first : ℕ) (c : Cut) (lo : ℕ) (g : Grown) (m : List ℕ) (p : Plan l n s e first c lo g m) where
  pub reports_full : length l / 2 < lo + 1 + (n - g.upto) → refuse_both Full l m ≡ replace_in l n s e m
  reports_full h = rw p.is (simp (lt-leb _ _ h))

  pub reports_full_parts : lo + 1 + (n - g.upto) ≤ length l / 2 → length m / 2 < c.upto - first → refuse_both Full l m ≡ replace_in l n s e m
  reports_full_parts k h = rw p.is (simp (le-leb _ _ k, lt-leb _ _ h))

  pub reports_put : lo + 1 + (n - g.upto) ≤ length l / 2 → c.upto - first ≤ length m / 2 → (l' m' : List ℕ)
      → l' ≡ over (flat (splice (read l 0 n) lo g.upto (grown_range g ∷ []))) l → m' ≡ over (flat (clipped s e (read l first (c.upto - first)))) m
      → both (Ok (record { count = lo + 1 + (n - g.upto); parts = c.upto - first })) l' m' ≡ replace_in l n s e m
  reports_put k h l' m' x y = rw (p.is, x, y) (simp (le-leb _ _ k, le-leb _ _ h))
