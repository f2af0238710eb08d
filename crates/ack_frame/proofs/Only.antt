-- The reader accepts nothing else: what was read is a form of its number (varint), so a frame that was accepted is one of the grammar. Each
-- definition is taken apart once, into what its success shows.
use Prim.Native.Nat.{ℕ, zero, suc, ◌+◌, ◌-◌, ◌/◌, ◌<◌, ◌≤◌}
use mathlib.Core.Path.{◌≡◌, refl, ap, sym, ◌∙◌, subst}
use mathlib.Core.Bool.{false}
use mathlib.Core.List.{List, [], ◌∷◌, ◌++◌, append_assoc, reverse}
use native.Mathlib.Omega.{arith}
use lib.ListN.{length, get_or, drop, take-append-drop}
use lib.Seq.{get_or-drop, drop-drop}
use lib.Dec.{ltb, eqb}
use borrow.Author.Tests.{lt-ltb, eqb-true}
use Rattle.std.specs.Prelude.{Result, Ok, Err, IsOk}
use Rattle.answers.specs.declared.Refusal.{Refusal}
use Rattle.varint.specs.Varint.{read_varint, decoded, form, encode, size_of, log_of}
use Rattle.varint.specs.declared.Decoded.{Decoded}
use Rattle.varint.proofs.Theorems.{read_form, shortest}
use Rattle.range_list.specs.Ranges.{flat, over}
use Rattle.range_list.proofs.Sound.{by_bool, by_lt}
use Rattle.ack_frame.specs.Grammar.{Coded, bytes_of, FitsIn, Pair, Frame, pairs_bytes, frame_bytes, next_low, LegalBelow, low_of, ranges_of, Legal}
use Rattle.ack_frame.specs.Read.{is, int_of, int_at, kind_at, step_at, walk_of, fields_at, head_of, done, accepted, read_ack}
use Rattle.ack_frame.specs.declared.Int.{Int}
use Rattle.ack_frame.specs.declared.Below.{Below}
use Rattle.ack_frame.specs.declared.Head.{Head}
use Rattle.ack_frame.specs.declared.Ack.{Ack}
use Rattle.ack_frame.proofs.Laws.{walk_legal}
use Rattle.ack_frame.proofs.Exact.{accepts}

-- an integer that stands at `at`, with the bytes that it stands in, before what is left from `next` on
record Stands (f : List ℕ) (at v next : ℕ) : Type 0 where
  coded : Coded
  is : coded.value ≡ v
  fits : FitsIn coded
  split : drop at f ≡ bytes_of coded ++ drop next f

abbrev IntView : List ℕ → ℕ → Result Int Refusal → Type 0
IntView f at (Ok i) = Stands f at i.value i.next
IntView f at (Err w) = Unit

int_view : (f : List ℕ) → ((k : ℕ) → get_or f k 0 < 256) → (at : ℕ) → IntView f at (int_at f at)
unfolding int_at
int_view f h at = by_got (read_varint (drop at f)) refl where
  by_got : (x : Result Decoded Refusal) → read_varint (drop at f) ≡ x → IntView f at (int_of at x)
  by_got (Err w) p = tt
  by_got (Ok d) p =
      let s = drop at f in
      let v = d.value in
      let n = d.len in
      let g = read_form s (λ k. rw (get_or-drop at f k 0) (h (at + k))) v n p in
      record {
        coded = record { value = v; log = g.0 };
        is = refl;
        fits = g.1.0;
        split = sym (take-append-drop n s) ∙ (λ i. g.1.1.1 i ++ drop-drop n at f i);
      }

stands : (f : List ℕ) → ((k : ℕ) → get_or f k 0 < 256) → (at : ℕ) {v a : ℕ} → int_at f at ≡ is v a → Stands f at v a
stands f h at e = subst (IntView f at) e (int_view f h at)

-- the type
record Typed (f : List ℕ) (a : ℕ) : Type 0 where
  is_2 : int_at f 0 ≡ is 2 a
  is_short : a ≡ size_of 2

abbrev KindView : List ℕ → Result ℕ Refusal → Type 0
KindView f (Ok a) = Typed f a
KindView f (Err w) = Unit

kind_view : (f : List ℕ) → KindView f (kind_at f)
unfolding kind_at
kind_view f = by_int (int_at f 0) refl where
  by_int : (i : Result Int Refusal) → int_at f 0 ≡ i → KindView f (kind_at f)
  by_int (Err w) p = rw p tt
  by_int (Ok i) p =
      by_bool (eqb i.next (size_of i.value))
      (λ t. by_bool (eqb i.value 2)
      (λ u.
      let e : i.value ≡ 2 = eqb-true i.value 2 u in
      let z : i.next ≡ size_of i.value = eqb-true i.next (size_of i.value) t in
      rw (p, t, u) (record { is_2 = p ∙ ap (λ (k : ℕ). is k i.next) e; is_short = z ∙ ap size_of e }))
      (λ u. rw (p, t, u) tt))
      (λ t. rw (p, t) tt)

-- the four fields
record Known_as (f : List ℕ) (at e largest delay count low : ℕ) : Type 0 where
  a : ℕ
  b : ℕ
  d : ℕ
  first : ℕ
  largest_at : int_at f at ≡ is largest a
  delay_at : int_at f a ≡ is delay b
  count_at : int_at f b ≡ is count d
  first_at : int_at f d ≡ is first e
  in_order : first ≤ largest
  low_is : low ≡ largest - first

abbrev FieldsView : List ℕ → ℕ → Result Head Refusal → Type 0
FieldsView f at (Ok h) = Known_as f at h.at h.largest h.delay h.count h.low
FieldsView f at (Err w) = Unit

fields_view : (f : List ℕ) (at : ℕ) → FieldsView f at (fields_at f at)
unfolding fields_at
fields_view f at = one (int_at f at) refl where
  four : (x y z : Int) → int_at f at ≡ Ok x → int_at f x.next ≡ Ok y → int_at f y.next ≡ Ok z → (i : Result Int Refusal) → int_at f z.next ≡ i → FieldsView f at (fields_at f at)
  four x y z p q r (Err w) s = rw (p, q, r, s) tt
  four x y z p q r (Ok i) s =
      by_lt x.value i.value
      (λ t u. rw (p, q, r, s, u) tt)
      (λ t u. rw (p, q, r, s, u)
      (record { a = x.next; b = y.next; d = z.next; first = i.value; largest_at = p; delay_at = q; count_at = r; first_at = s; in_order = t; low_is = refl }))

  three : (x y : Int) → int_at f at ≡ Ok x → int_at f x.next ≡ Ok y → (i : Result Int Refusal) → int_at f y.next ≡ i → FieldsView f at (fields_at f at)
  three x y p q (Err w) r = rw (p, q, r) tt
  three x y p q (Ok i) r = four x y i p q r (int_at f i.next) refl

  two : (x : Int) → int_at f at ≡ Ok x → (i : Result Int Refusal) → int_at f x.next ≡ i → FieldsView f at (fields_at f at)
  two x p (Err w) q = rw (p, q) tt
  two x p (Ok i) q = three x i p q (int_at f i.next) refl

  one : (i : Result Int Refusal) → int_at f at ≡ i → FieldsView f at (fields_at f at)
  one (Err w) p = rw p tt
  one (Ok i) p = two i p (int_at f i.next) refl

-- the head: the type, and the fields behind it
record Headed (f : List ℕ) (e largest delay count low : ℕ) : Type 0 where
  from : ℕ
  typed : Typed f from
  known : Known_as f from e largest delay count low

abbrev HeadView : List ℕ → Result Head Refusal → Type 0
HeadView f (Ok h) = Headed f h.at h.largest h.delay h.count h.low
HeadView f (Err w) = Unit

head_view : (f : List ℕ) → HeadView f (head_of f)
unfolding head_of
head_view f = by_kind (kind_at f) refl (kind_view f) where
  by_head : (a : ℕ) → Typed f a → (h : Result Head Refusal) → FieldsView f a h → HeadView f h
  by_head a t (Ok h) v = record { from = a; typed = t; known = v }
  by_head a t (Err w) v = tt

  by_kind : (k : Result ℕ Refusal) → kind_at f ≡ k → KindView f (kind_at f) → HeadView f (head_of f)
  by_kind (Ok a) p v = rw p (by_head a (rw p at v) (fields_at f a) (fields_view f a))
  by_kind (Err w) p v = rw p tt

-- a pair
record Paired (f : List ℕ) (at low next lo : ℕ) : Type 0 where
  gap : ℕ
  mid : ℕ
  len : ℕ
  gap_at : int_at f at ≡ is gap mid
  len_at : int_at f mid ≡ is len next
  in_order : gap + 2 + len ≤ low
  low_is : lo ≡ low - (gap + 2) - len

abbrev StepView : List ℕ → ℕ → ℕ → Result Below Refusal → Type 0
StepView f at low (Ok b) = Paired f at low b.next b.lo
StepView f at low (Err w) = Unit

step_view : (f : List ℕ) (at low : ℕ) → StepView f at low (step_at f at low)
unfolding step_at
step_view f at low = one (int_at f at) refl where
  two : (g : Int) → int_at f at ≡ Ok g → g.value + 2 ≤ low → ltb low (g.value + 2) ≡ false → (i : Result Int Refusal) → int_at f g.next ≡ i → StepView f at low (step_at f at low)
  two g p o u (Err w) q = rw (p, u, q) tt
  two g p o u (Ok i) q =
      by_lt (low - (g.value + 2)) i.value
      (λ t v. rw (p, u, q, v) tt)
      (λ t v. rw (p, u, q, v) (record { gap = g.value; mid = g.next; len = i.value; gap_at = p; len_at = q; in_order = omega arith; low_is = refl }))

  one : (i : Result Int Refusal) → int_at f at ≡ i → StepView f at low (step_at f at low)
  one (Err w) p = rw p tt
  one (Ok g) p = by_lt low (g.value + 2) (λ t u. rw (p, u) tt) (λ t u. two g p t u (int_at f g.next) refl)

-- the pairs that a walk passed, as they stand
record Walked (f : List ℕ) (n at low e : ℕ) : Type 0 where
  pairs : List Pair
  counted : length pairs ≡ n
  legal : LegalBelow low pairs
  split : drop at f ≡ pairs_bytes pairs ++ drop e f

abbrev WalkView : List ℕ → ℕ → ℕ → ℕ → Result ℕ Refusal → Type 0
WalkView f n at low (Ok e) = Walked f n at low e
WalkView f n at low (Err w) = Unit

module _ (f : List ℕ) (h : (k : ℕ) → get_or f k 0 < 256) where
  one_more : (n at low a lo : ℕ) → Paired f at low a lo → (w : Result ℕ Refusal) → WalkView f n a lo w → WalkView f (suc n) at low w
  one_more n at low a lo p (Err w) v = tt
  one_more n at low a lo p (Ok e) v =
      let g = stands f h at p.gap_at in
      let l = stands f h p.mid p.len_at in
      let x : Pair = record { gap = g.coded; len = l.coded } in
      let gv : g.coded.value ≡ p.gap = g.is in
      let lv : l.coded.value ≡ p.len = l.is in
      let i : lo ≡ next_low low x = omega (arith, p.low_is) in
      record {
        pairs = x ∷ v.pairs;
        counted = ap suc v.counted;
        legal = (g.fits, (l.fits, (omega (arith, p.in_order), subst (λ (k : ℕ). LegalBelow k v.pairs) i v.legal)));
        split = g.split ∙ ap (λ (s : List ℕ). bytes_of g.coded ++ s) (l.split ∙ ap (λ (s : List ℕ). bytes_of l.coded ++ s) v.split) ∙ simp append_assoc;
      }

  walk_view : (n at low room : ℕ) → WalkView f n at low (walk_of f n at low room)
  unfolding walk_of
  walk_view zero at low room = record { pairs = []; counted = refl; legal = tt; split = refl }
  walk_view (suc n) at low room = by_step (walk_view n) (step_at f at low) refl (step_view f at low) where
    by_step : ((a lo r : ℕ) → WalkView f n a lo (walk_of f n a lo r)) → (s : Result Below Refusal) → step_at f at low ≡ s → StepView f at low (step_at f at low) →
        WalkView f (suc n) at low (walk_of f (suc n) at low room)
    by_step ih (Err w) p v = rw p tt
    by_step ih (Ok b) p v =
        by_lt 0 room
        (λ t u. rw (p, u) (one_more n at low b.next b.lo (rw p at v) (walk_of f n b.next b.lo (room - 1)) (ih b.next b.lo (room - 1))))
        (λ t u. rw (p, u) tt)

-- the type's byte
typed_2 : (f : List ℕ) → ((k : ℕ) → get_or f k 0 < 256) → (a : ℕ) → Typed f a → (a ≡ 1) × (f ≡ 2 ∷ drop 1 f)
unfolding int_at size_of log_of encode form
typed_2 f h a t = by_got (read_varint f) refl where
  by_got : (x : Result Decoded Refusal) → read_varint f ≡ x → (a ≡ 1) × (f ≡ 2 ∷ drop 1 f)
  by_got (Err w) p = let y : ◌≡◌ {A = ℕ} 0 1 = cc (sym (ap (int_of 0) p) ∙ t.is_2) in let z : ⊥ = omega arith in absurd z
  by_got (Ok d) p =
      let v = d.value in
      let n = d.len in
      let q : is v (0 + n) ≡ is 2 a = sym (ap (int_of 0) p) ∙ t.is_2 in
      let m : ◌≡◌ {A = Int} (record { value = v; next = 0 + n }) (record { value = 2; next = a }) = cc in
      let i : v ≡ 2 = ap (λ x. x.value) m in
      let j : 0 + n ≡ a = ap (λ x. x.next) m in
      let a1 : a ≡ 1 = t.is_short in
      let n1 : n ≡ 1 = omega arith in
      let r : read_varint f ≡ Ok (decoded 2 1) = p ∙ (λ m. Ok (decoded (i m) (n1 m))) in
      (a1, sym (take-append-drop 1 f) ∙ ap (λ (s : List ℕ). s ++ drop 1 f) (shortest f h 2 1 r refl))

-- A frame that was accepted: which frame of the grammar it is, what follows it, and that its ranges fit.
pub record Accepted (f l : List ℕ) : Type 0 where
  pub frame : Frame
  pub rest : List ℕ
  pub legal : Legal frame
  pub starts : f ≡ frame_bytes frame ++ rest
  pub fits : length frame.pairs < length l / 2

module _ (f l : List ℕ) (h : (k : ℕ) → get_or f k 0 < 256) where
  made : {e largest delay count low x : ℕ} → Headed f e largest delay count low → Walked f count e low x → count < length l / 2 → Accepted f l
  made {e} {largest} {delay} {count} {low} {x} t w c =
      let k = t.known in
      let y = typed_2 f h t.from t.typed in
      let s1 = stands f h t.from k.largest_at in
      let s2 = stands f h k.a k.delay_at in
      let s3 = stands f h k.b k.count_at in
      let s4 = stands f h k.d k.first_at in
      let g : Frame = record { largest = s1.coded; delay = s2.coded; count = s3.coded; first = s4.coded; pairs = w.pairs } in
      let v1 : s1.coded.value ≡ largest = s1.is in
      let v4 : s4.coded.value ≡ k.first = s4.is in
      let i : low ≡ low_of g = omega (arith, k.low_is) in
      let n : length w.pairs ≡ count = w.counted in
      let z1 : drop 1 f ≡ bytes_of s1.coded ++ drop k.a f = ap (λ (j : ℕ). drop j f) (sym y.0) ∙ s1.split in
      let z3 : drop k.b f ≡ bytes_of s3.coded ++ (bytes_of s4.coded ++ (pairs_bytes w.pairs ++ drop x f)) =
      s3.split ∙ ap (λ (s : List ℕ). bytes_of s3.coded ++ s) (s4.split ∙ ap (λ (s : List ℕ). bytes_of s4.coded ++ s) w.split) in
      let z2 : drop 1 f ≡ bytes_of s1.coded ++ (bytes_of s2.coded ++ (bytes_of s3.coded ++ (bytes_of s4.coded ++ (pairs_bytes w.pairs ++ drop x f)))) =
      z1 ∙ ap (λ (s : List ℕ). bytes_of s1.coded ++ s) (s2.split ∙ ap (λ (s : List ℕ). bytes_of s2.coded ++ s) z3) in
      record {
        frame = g;
        rest = drop x f;
        legal =
            record {
              largest_fits = s1.fits;
              delay_fits = s2.fits;
              count_fits = s3.fits;
              first_fits = s4.fits;
              counted = s3.is ∙ sym n;
              first_low = omega (arith, k.in_order);
              pairs_low = subst (λ (j : ℕ). LegalBelow j w.pairs) i w.legal;
            };
        starts = y.1 ∙ ap (λ (s : List ℕ). 2 ∷ s) z2 ∙ simp append_assoc;
        fits = omega arith;
      }

  -- Nothing but a frame of the grammar whose ranges fit is accepted.
  pub only : (a : Ack) → (read_ack f l).out ≡ Ok a → Accepted f l
  unfolding read_ack
  only a q = by_head (head_of f) refl (head_view f) where
    by_walk : (k : Head) → head_of f ≡ Ok k → HeadView f (Ok k) → 0 < length l / 2 →
        (w : Result ℕ Refusal) → walk_of f k.count k.at k.low (length l / 2 - 1) ≡ w → WalkView f k.count k.at k.low (walk_of f k.count k.at k.low (length l / 2 - 1)) → Accepted f l
    by_walk k p t o (Err w) r v = let z = rw (p, lt-ltb 0 (length l / 2) o, r) at q in let y : ⊥ = cc in absurd y
    by_walk k p t o (Ok x) r v =
        let u : Walked f k.count k.at k.low x = rw r at v in
        let m = (walk_legal f k.count k.at k.low (length l / 2 - 1) r).0 in
        made t u (omega arith)

    by_head : (k : Result Head Refusal) → head_of f ≡ k → HeadView f (head_of f) → Accepted f l
    by_head (Err w) p v = let z = rw p at q in let y : ⊥ = cc in absurd y
    by_head (Ok k) p v =
        by_lt 0 (length l / 2)
        (λ o u. by_walk k p (rw p at v) o (walk_of f k.count k.at k.low (length l / 2 - 1)) refl (walk_view f h k.count k.at k.low (length l / 2 - 1)))
        (λ o u. let z = rw (p, u) at q in let y : ⊥ = cc in absurd y)

-- What is answered of such a frame, and what the list then holds.
pub accepted_is : (f l : List ℕ) (a : Accepted f l) →
    read_ack f l
    ≡ done (Ok (accepted (length a.frame.pairs + 1) a.frame.largest.value a.frame.delay.value (length (frame_bytes a.frame)))) (over (flat (reverse (ranges_of a.frame))) l)
accepted_is f l a = ap (λ (x : List ℕ). read_ack x l) a.starts ∙ accepts a.frame a.legal a.rest l a.fits

-- an answer that is no refusal has its values
answered : (r : Result Ack Refusal) → IsOk r → (a : Ack) × (r ≡ Ok a)
answered (Ok a) h = (a, refl)
answered (Err w) h = let y : ⊥ = cc in absurd y

-- The reader accepts exactly the frames of the grammar whose ranges fit the list.
pub exact : (f l : List ℕ) → ((k : ℕ) → get_or f k 0 < 256) → (IsOk (read_ack f l).out → Accepted f l) × (Accepted f l → IsOk (read_ack f l).out)
exact f l h = (λ o. let a = answered (read_ack f l).out o in only f l h a.0 a.1, λ a. rw (accepted_is f l a) refl)
