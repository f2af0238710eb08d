-- What a remove makes of a set: it has the numbers that are not of s..e, is sound again, and is the splice that the code makes.
-- Assumes nothing.
use mathlib.Core.Path.{◌≡◌, refl, sym, ap, ◌∙◌}
use mathlib.Core.Bool.{true, false, cond, and-false}
use mathlib.Core.Logic.{◌⊎◌, inl, inr, ⊎_elim}
use mathlib.Core.List.{List, [], ◌∷◌, ◌++◌, append_assoc}
use Prim.Native.Nat.{ℕ, suc, ◌+◌, ◌-◌, ◌*◌, ◌/◌, ◌^◌, ◌≤◌, ◌<◌, min, max}
use native.Mathlib.Nat.{sub_self, add-zero, zero-add, min-eq_left, min-eq_right, max-eq_left, max-eq_right}
use native.Mathlib.Numerals.{add-one}
use native.Mathlib.Omega.{arith}
use lib.ListN.{length, take, drop, get_or, length-append, length-drop}
use lib.Seq.{drop-nil, drop-drop, get_or-drop, length-take-le}
use lib.Dec.{ltb}
use borrow.Author.Tests.{le-ltb, lt-ltb, le-leb, lt-leb}
use Rattle.range_list.specs.Ranges.{Range, range_at, read, flat, over, sound, splice, In}
use Rattle.range_list.proofs.Sound.{by_lt, Sound, sound_parts, sound_made, sound_weaker, sound_drop, Formed}
use Rattle.range_list.proofs.Laws.{read_at, length_read}
use Rattle.range_edit.specs.Edits.{below, piece, remove, meets, cut, done, refuse, stay, settle, remove_from}
use Rattle.range_edit.specs.declared.Changed.{Changed}
use Rattle.range_edit.specs.declared.Cut.{Cut}
use Rattle.std.specs.Prelude.{Ok}
use Rattle.answers.specs.declared.Refusal.TheVariants.{Full}
use Rattle.range_edit.proofs.Insert.{From, from_below, Passed}

piece_to : (x a b : ℕ) (rs : List Range) → In x (piece a b rs) → ((a ≤ x) × (x < b)) ⊎ In x rs
piece_to x a b rs = by_lt a b (λ h t. simp t (λ p. p)) (λ h t. simp t (λ p. inr p))

piece_from : (x a b : ℕ) (rs : List Range) → ((a ≤ x) × (x < b)) ⊎ In x rs → In x (piece a b rs)
piece_from x a b rs = by_lt a b (λ h t. simp t (λ p. p)) (λ h t. simp t (⊎_elim (λ p. absurd (omega arith)) (λ p. p)))

-- the numbers that a remove leaves are those of the list that are not of s..e
pub remove_to : (x s e : ℕ) (rs : List Range) → s < e → In x (remove s e rs) → In x rs × ((x < s) ⊎ (e ≤ x))
remove_to x s e [] h p = absurd p
remove_to x s e (r ∷ rs) h p =
    ⊎_elim (λ q. (inl (omega arith), inl (omega arith)))
    (λ q. ⊎_elim (λ z. (inl (omega arith), inr (omega arith)))
    (λ z. let y = remove_to x s e rs h z in (inr y.0, y.1))
    (piece_to x (max e r.lo) r.hi (remove s e rs) q))
    (piece_to x r.lo (min s r.hi) (piece (max e r.lo) r.hi (remove s e rs)) p)

pub remove_from_law : (x s e : ℕ) (rs : List Range) → In x rs → (x < s) ⊎ (e ≤ x) → In x (remove s e rs)
remove_from_law x s e [] p q = p
remove_from_law x s e (r ∷ rs) p q =
    piece_from x r.lo (min s r.hi) (piece (max e r.lo) r.hi (remove s e rs))
    (⊎_elim
    (λ a. ⊎_elim (λ b. inl (omega arith)) (λ b. inr (piece_from x (max e r.lo) r.hi (remove s e rs) (inl (omega arith)))) q)
    (λ a. inr (piece_from x (max e r.lo) r.hi (remove s e rs) (inr (remove_from_law x s e rs a q))))
    p)

-- a remove keeps a list sound
piece_sound : (least a b : ℕ) (rs : List Range) → least ≤ a → b ≤ 2 ^ 62 → (a < b → sound (b + 1) rs ≡ true) → (b ≤ a → sound least rs ≡ true) → sound least (piece a b rs) ≡ true
piece_sound least a b rs h k f g =
    by_lt a b
    (λ l t. rw t (sound_made least (record { lo = a; hi = b }) rs (record { from = h; some = l; upto = k; rest = f l })))
    (λ l t. simp t (g l))

pub remove_sound : (least s e : ℕ) (rs : List Range) → s < e → sound least rs ≡ true → sound least (remove s e rs) ≡ true
remove_sound least s e [] h q = refl
remove_sound least s e (r ∷ rs) h q =
    let p : Sound least r rs = sound_parts least r rs q in
    let i : sound (r.hi + 1) (remove s e rs) ≡ true = remove_sound (r.hi + 1) s e rs h p.rest in
    piece_sound least r.lo (min s r.hi) (piece (max e r.lo) r.hi (remove s e rs)) p.from (omega arith)
    (λ k. piece_sound (min s r.hi + 1) (max e r.lo) r.hi (remove s e rs) (omega arith) p.upto (λ _. i)
    (λ _. sound_weaker (min s r.hi + 1) (r.hi + 1) (remove s e rs) (omega arith) i))
    (λ k. piece_sound least (max e r.lo) r.hi (remove s e rs) (omega arith) p.upto (λ _. i)
    (λ _. sound_weaker least (r.hi + 1) (remove s e rs) (omega arith) i))

-- what starts at e or after it stays
pub remove_after : (least s e : ℕ) (rs : List Range) → s < e → e ≤ least → sound least rs ≡ true → remove s e rs ≡ rs
remove_after least s e [] h k q = refl
remove_after least s e (r ∷ rs) h k q =
    let p : Sound least r rs = sound_parts least r rs q in
    simp (le-ltb r.lo (min s r.hi) (omega arith), max-eq_right {n = e} {m = r.lo} (omega arith), lt-ltb r.lo r.hi p.some)
    (ap (λ (x : List Range). r ∷ x) (remove_after (r.hi + 1) s e rs h (omega arith) p.rest))

-- what ends at s or before it stays
remove_below : (least s e : ℕ) (rs : List Range) → s < e → sound least rs ≡ true
    → remove s e rs ≡ take (below (s + 1) rs) rs ++ remove s e (drop (below (s + 1) rs) rs)
remove_below least s e [] h q = refl
remove_below least s e (r ∷ rs) h q =
    let p : Sound least r rs = sound_parts least r rs q in
    by_lt r.hi (s + 1)
    (λ k t. rw t (rw (add-one (below (s + 1) rs)) (simp (min-eq_right {n = r.hi} {m = s} (omega arith), lt-ltb r.lo r.hi p.some, le-ltb (max e r.lo) r.hi (omega arith))
    (ap (λ (x : List Range). r ∷ x) (remove_below (r.hi + 1) s e rs h p.rest)))))
    (λ k t. rw t refl)

pub cut_from : (i e b : ℕ) (rs : List Range) → i ≤ (cut i e b rs).upto
cut_from i e b [] = omega arith
cut_from i e b (r ∷ rs) = by_lt r.lo e (λ h t. simp t (omega (arith, cut_from (i + 1) e r.hi rs))) (λ h t. simp t (omega arith))

pub cut_upto : (i e b : ℕ) (rs : List Range) → (cut i e b rs).upto ≤ i + length rs
cut_upto i e b [] = omega arith
cut_upto i e b (r ∷ rs) = by_lt r.lo e (λ h t. simp t (omega (arith, cut_upto (i + 1) e r.hi rs))) (λ h t. simp t (omega arith))

-- of the ranges that start below e, after one that ends at b, only the last leaves something
remove_cut : (i s e b : ℕ) (rs : List Range) → s < e → s ≤ b → sound (b + 1) rs ≡ true
    → piece e b (remove s e rs) ≡ piece e (cut i e b rs).last (drop ((cut i e b rs).upto - i) rs)
remove_cut i s e b [] h k q = ap (piece e b) (sym (drop-nil (i - i)))
remove_cut i s e b (r ∷ rs) h k q =
    let p : Sound (b + 1) r rs = sound_parts (b + 1) r rs q in
    by_lt r.lo e
    (λ l t.
    let g : Cut = cut (i + 1) e r.hi rs in
    let m : g.upto - i ≡ suc (g.upto - (i + 1)) = omega (arith, cut_from (i + 1) e r.hi rs) in
    simp (t, le-ltb e b (omega arith), le-ltb r.lo (min s r.hi) (omega arith), max-eq_left {n = e} {m = r.lo} (omega arith), m)
    (remove_cut (i + 1) s e r.hi rs h (omega arith) p.rest))
    (λ l t.
    let w : sound e (r ∷ rs) ≡ true = sound_made e r rs (record { from = l; some = p.some; upto = p.upto; rest = p.rest }) in
    rw (t, sub_self) (ap (piece e b) (remove_after e s e (r ∷ rs) h (omega arith) w)))

-- what is left where the ranges that end at s or before it are passed, and one is to be cut
pub remove_tail : (i s e : ℕ) (rs : List Range) (d : Range) → s < e → From (s + 1) rs → sound 0 rs ≡ true → i < (cut i e 0 rs).upto
    → remove s e rs ≡ piece (get_or rs 0 d).lo s (piece e (cut i e 0 rs).last (drop ((cut i e 0 rs).upto - i) rs))
remove_tail i s e [] d h f q = λ k. absurd (omega arith)
remove_tail i s e (r ∷ rs) d h f q =
    let p : Sound 0 r rs = sound_parts 0 r rs q in
    by_lt r.lo e
    (λ l t.
    let g : Cut = cut (i + 1) e r.hi rs in
    let m : g.upto - i ≡ suc (g.upto - (i + 1)) = omega (arith, cut_from (i + 1) e r.hi rs) in
    simp t (λ k. simp (min-eq_left {n = s} {m = r.hi} (omega (arith, f.0)), max-eq_left {n = e} {m = r.lo} (omega arith), m)
    (ap (piece r.lo s) (remove_cut (i + 1) s e r.hi rs h (omega (arith, f.0)) p.rest))))
    (λ l t. simp t (λ k. absurd (omega arith)))

meets_none : (least s e : ℕ) (rs : List Range) → e ≤ least → sound least rs ≡ true → meets s e rs ≡ false
meets_none least s e [] h q = refl
meets_none least s e (r ∷ rs) h q =
    let p : Sound least r rs = sound_parts least r rs q in
    simp (le-ltb r.lo e (omega arith)) (meets_none (r.hi + 1) s e rs (omega arith) p.rest)

meets_below : (s e : ℕ) (rs : List Range) → meets s e rs ≡ meets s e (drop (below (s + 1) rs) rs)
meets_below s e [] = refl
meets_below s e (r ∷ rs) =
    by_lt r.hi (s + 1)
    (λ k t. rw (t, add-one (below (s + 1) rs)) (simp (le-ltb s r.hi (omega arith), and-false) (meets_below s e rs)))
    (λ k t. rw t refl)

meets_tail : (i s e : ℕ) (rs : List Range) → From (s + 1) rs → sound 0 rs ≡ true → meets s e rs ≡ ltb i (cut i e 0 rs).upto
meets_tail i s e [] f q = sym (le-ltb i i (omega arith))
meets_tail i s e (r ∷ rs) f q =
    let p : Sound 0 r rs = sound_parts 0 r rs q in
    by_lt r.lo e
    (λ l t. simp (t, lt-ltb s r.hi (omega (arith, f.0))) (sym (lt-ltb i (cut (i + 1) e r.hi rs).upto (omega (arith, cut_from (i + 1) e r.hi rs)))))
    (λ l t. simp t (meets_none (r.hi + 1) s e rs (omega arith) p.rest ∙ sym (le-ltb i i (omega arith))))

piece_append : (a b : ℕ) (x y : List Range) → piece a b (x ++ y) ≡ piece a b x ++ y
piece_append a b x y = by_lt a b (λ h t. simp t) (λ h t. simp t)

-- what `cut_at` has found
pub record Cutting (l : List ℕ) (n s e lo : ℕ) (c : Cut) : Type 0 where
  pub above : lo ≤ c.upto
  pub within : c.upto ≤ n
  pub met : meets s e (read l 0 n) ≡ ltb lo c.upto
  pub splits : lo < c.upto → remove s e (read l 0 n) ≡ splice (read l 0 n) lo c.upto (piece (get_or l (lo * 2) 0) s (piece e c.last []))
  pub is : remove_from l n s e
      ≡ cond (ltb lo c.upto) (settle (splice (read l 0 n) lo c.upto (piece (get_or l (lo * 2) 0) s (piece e c.last []))) l) (stay l n)

pub cutting : (l : List ℕ) (n s e lo : ℕ) (c : Cut) → s < e → Formed l n → Passed l n (s + 1) lo → c ≡ cut lo e 0 (read l lo (n - lo)) → Cutting l n s e lo c
unfolding remove_from
cutting l n s e lo c h w p x =
    let rs : List Range = read l 0 n in
    let y : c ≡ cut lo e 0 (drop lo rs) = x ∙ ap (cut lo e 0) p.tail in
    let a : lo ≤ c.upto = rw x (cut_from lo e 0 (read l lo (n - lo))) in
    let b : c.upto ≤ lo + length (read l lo (n - lo)) = rw x (cut_upto lo e 0 (read l lo (n - lo))) in
    let f : From (s + 1) (drop lo rs) = rw p.is (from_below (s + 1) 0 rs w.sound) in
    let q : sound 0 (drop lo rs) ≡ true = sound_drop 0 lo rs w.sound in
    let m : meets s e rs ≡ ltb lo c.upto =
    meets_below s e rs ∙ ap (λ (i : ℕ). meets s e (drop i rs)) (sym p.is) ∙ meets_tail lo s e (drop lo rs) f q ∙ ap (λ (z : Cut). ltb lo z.upto) (sym y) in
    let u : lo < c.upto → remove s e rs ≡ splice rs lo c.upto (piece (get_or l (lo * 2) 0) s (piece e c.last [])) =
    λ z.
    let d : Range = range_at l 0 in
    let g : (get_or (drop lo rs) 0 d).lo ≡ get_or l (lo * 2) 0 =
    ap (λ (r : Range). r.lo) (get_or-drop lo rs 0 d ∙ ap (λ (i : ℕ). get_or rs i d) (add-zero lo) ∙ read_at l 0 n lo d (omega (arith, length_read l lo (n - lo), p.low)) ∙ ap (range_at l) (zero-add lo)) in
    let j : lo + (c.upto - lo) ≡ c.upto = omega arith in
    let o : remove s e (drop lo rs) ≡ piece (get_or l (lo * 2) 0) s (piece e c.last (drop c.upto rs)) =
    rw (← y) at (remove_tail lo s e (drop lo rs) d h f q (rw (← y) z))
    ∙ (λ i. piece (g i) s (piece e c.last ((drop-drop (c.upto - lo) lo rs ∙ ap (λ (i : ℕ). drop i rs) j) i))) in
    remove_below 0 s e rs h w.sound
    ∙ ap (λ (i : ℕ). take i rs ++ remove s e (drop i rs)) (sym p.is)
    ∙ ap (λ (r : List Range). take lo rs ++ r) (o ∙ ap (piece (get_or l (lo * 2) 0) s) (piece_append e c.last [] (drop c.upto rs)) ∙ piece_append (get_or l (lo * 2) 0) s (piece e c.last []) (drop c.upto rs))
    ∙ sym (append_assoc (take lo rs) (piece (get_or l (lo * 2) 0) s (piece e c.last [])) (drop c.upto rs)) in
    let v : remove_from l n s e ≡ cond (ltb lo c.upto) (settle (remove s e rs) l) (stay l n) = simp m in
    record {
      above = a;
      within = omega (arith, length_read l lo (n - lo), p.low);
      met = m;
      splits = u;
      is = v ∙ by_lt lo c.upto (λ z t. rw t (ap (λ (r : List Range). settle r l) (u z))) (λ z t. rw t refl);
    }

-- the pieces of a cut, as the code's tests have them
module _ (a s e b : ℕ) where
  pub pieces_two : a < s → e < b → piece a s (piece e b []) ≡ record { lo = a; hi = s } ∷ record { lo = e; hi = b } ∷ []
  pieces_two h k = simp (lt-ltb a s h, lt-ltb e b k)

  pub pieces_left : a < s → b ≤ e → piece a s (piece e b []) ≡ record { lo = a; hi = s } ∷ []
  pieces_left h k = simp (lt-ltb a s h, le-ltb e b k)

  pub pieces_right : s ≤ a → e < b → piece a s (piece e b []) ≡ record { lo = e; hi = b } ∷ []
  pieces_right h k = simp (le-ltb a s h, lt-ltb e b k)

  pub pieces_none : s ≤ a → b ≤ e → piece a s (piece e b []) ≡ []
  pieces_none h k = simp (le-ltb a s h, le-ltb e b k)

-- the answers of `take_out`
module _ (l : List ℕ) (n s e : ℕ) where
  module _ (lo : ℕ) (c : Cut) (x : Cutting l n s e lo c) where
    pub cuts_none : c.upto ≤ lo → stay l n ≡ remove_from l n s e
    cuts_none h = rw x.is (simp (le-ltb lo c.upto h))

    module _ (h : lo < c.upto) (mid : List Range) (m : piece (get_or l (lo * 2) 0) s (piece e c.last []) ≡ mid) where
      pub size : length (splice (read l 0 n) lo c.upto mid) ≡ lo + (n - c.upto) + length mid
      size = simp (length-append, length-drop, length-take-le lo (read l 0 n) (omega (arith, length_read l 0 n, x.within)), length_read) (omega arith)

      pub cuts_full : length l / 2 < lo + (n - c.upto) + length mid → refuse Full l ≡ remove_from l n s e
      cuts_full z = rw (x.is, m) (simp (lt-ltb lo c.upto h, size, lt-leb _ _ z))

      pub cuts_put : (r : Changed) → r ≡ record { count = lo + (n - c.upto) + length mid; changed = true } → (now : List ℕ) → lo + (n - c.upto) + length mid ≤ length l / 2 → now ≡ over (flat (splice (read l 0 n) lo c.upto mid)) l
          → done (Ok r) now ≡ remove_from l n s e
      cuts_put r f now z y = rw (f, x.is, m, y) (simp (lt-ltb lo c.upto h, size, le-leb _ _ z))

    pub cuts_all : lo < c.upto → n ≤ length l / 2 → piece (get_or l (lo * 2) 0) s (piece e c.last []) ≡ []
        → (r : Changed) → r ≡ record { count = lo + (n - c.upto); changed = true } → (now : List ℕ) → now ≡ over (flat (splice (read l 0 n) lo c.upto [])) l
        → done (Ok r) now ≡ remove_from l n s e
    cuts_all h k m r f now y =
        cuts_put h [] m r (f ∙ ap (λ (z : ℕ). record { count = z; changed = true }) (sym (add-zero (lo + (n - c.upto))))) now (omega (arith, x.within)) y
