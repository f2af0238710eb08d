-- The records that a loop has left, a table after a store, and the check record by record: each law is one turn or one return of the code.
-- Assumes nothing.
use mathlib.Core.Path.{◌≡◌, refl, sym, ◌∙◌, ap}
use mathlib.Core.Logic.{◌⊎◌, inl, inr, ⊎_elim}
use mathlib.Core.List.{List, [], ◌∷◌}
use mathlib.Core.Bool.{Bool, true, false, cond, ◌&&◌, not}
use Prim.Native.Nat.{ℕ, zero, suc, ◌+◌, ◌*◌, ◌-◌, ◌/◌, ◌%◌, ◌^◌, ◌<◌, ◌≤◌}
use native.Mathlib.Numerals.{add-one}
use native.Mathlib.Omega.{arith}
use lib.Dec.{eqb}
use borrow.Author.Tests.{eq-eqb, ne_eqb, le-leb, lt-leb, ltb-true, not-true, not-false}
use lib.ListN.{length, get_or, set, length-set}
use lib.Seq.{get_or-set_same, get_or-set_other, ext_get_or}
use Rattle.stream_record.specs.declared.Stream.{Stream}
use Rattle.stream_record.specs.Record.{none}
use Rattle.stream_conn.specs.declared.Conn.{Conn}
use Rattle.stream_conn.specs.Books.{admitted}
use Rattle.std.specs.Prelude.{Option, Some, None, is_ok}
use Rattle.stream_table.specs.Table.{find_in, rec_at, put_rec, recs_from, records, find_from, sum_ends, theirs, good_from, good_numbers, good_rec}

-- ---- a loop's rest
pub rest_step : (l : List ℕ) (n i : ℕ) → i < n → recs_from i (n - i) l ≡ rec_at l i ∷ recs_from (i + 1) (n - (i + 1)) l
rest_step l n i h =
    let e : n - i ≡ suc (n - (i + 1)) = omega arith in
    ap (λ (m : ℕ). recs_from i m l) e ∙ ap (λ (k : ℕ). rec_at l i ∷ recs_from k (n - (i + 1)) l) (sym (add-one i))

pub rest_end : (l : List ℕ) (n i : ℕ) → n ≤ i → recs_from i (n - i) l ≡ []
rest_end l n i h =
    let e : n - i ≡ 0 = omega arith in
    ap (λ (m : ℕ). recs_from i m l) e

pub find_here : (l : List ℕ) (n i id : ℕ) → i < n → get_or l (7 * i) 0 ≡ id → find_from i (recs_from i (n - i) l) id ≡ Some i
find_here l n i id h e = rw (rest_step l n i h, eq-eqb (get_or l (7 * i) 0) id e)

pub find_on : (l : List ℕ) (n i id : ℕ) → i < n → (get_or l (7 * i) 0 ≡ id → ⊥) → find_from i (recs_from i (n - i) l) id ≡ find_from (i + 1) (recs_from (i + 1) (n - (i + 1)) l) id
find_on l n i id h e = rw (rest_step l n i h, ne_eqb (get_or l (7 * i) 0) id e, add-one i)

pub find_end : (l : List ℕ) (n i id : ℕ) → n ≤ i → find_from i (recs_from i (n - i) l) id ≡ None
find_end l n i id h = rw (rest_end l n i h)

pub find_start : (l : List ℕ) (n id : ℕ) → find_from 0 (recs_from 0 (n - 0) l) id ≡ find_in (records n l) id
unfolding find_in records
find_start l n id =
    let e : n - 0 ≡ n = omega arith in
    ap (λ (m : ℕ). find_from 0 (recs_from 0 m l) id) e

-- ---- the records, by index
length_recs : (k n : ℕ) (l : List ℕ) → length (recs_from k n l) ≡ n
length_recs k zero l = refl
length_recs k (suc n) l = ap suc (length_recs (suc k) n l)

recs_at_law : (k n : ℕ) (l : List ℕ) (j : ℕ) → j < n → get_or (recs_from k n l) j none ≡ rec_at l (k + j)
recs_at_law k zero l j h = absurd (omega arith)
recs_at_law k (suc n) l zero h =
    let e : k ≡ k + 0 = omega arith in
    ap (rec_at l) e
recs_at_law k (suc n) l (suc j) h =
    let e : suc k + j ≡ k + suc j = omega arith in
    recs_at_law (suc k) n l j (omega arith) ∙ ap (rec_at l) e

pub length_records : (n : ℕ) (l : List ℕ) → length (records n l) ≡ n
unfolding records
length_records n l = length_recs 0 n l

pub records_at : (n : ℕ) (l : List ℕ) (j : ℕ) → j < n → get_or (records n l) j none ≡ rec_at l j
unfolding records
records_at n l j h =
    let e : 0 + j ≡ j = omega arith in
    recs_at_law 0 n l j h ∙ ap (rec_at l) e

-- ---- a table after a store
tri : (a b : ℕ) → (a ≡ b) ⊎ ((a < b) ⊎ (b < a))
tri zero zero = inl refl
tri zero (suc b) = inr (inl (omega arith))
tri (suc a) zero = inr (inr (omega arith))
tri (suc a) (suc b) = ⊎_elim (λ e. inl (ap suc e)) (⊎_elim (λ h. inr (inl (omega arith))) (λ h. inr (inr (omega arith)))) (tri a b)

below : (a j : ℕ) → j < a → (l : List ℕ) (v : ℕ) → get_or (set l a v) j 0 ≡ get_or l j 0
below a j h l v = get_or-set_other l a j v 0 (λ e. omega arith)

above : (a j : ℕ) → a < j → (l : List ℕ) (v : ℕ) → get_or (set l a v) j 0 ≡ get_or l j 0
above a j h l v = get_or-set_other l a j v 0 (λ e. omega arith)

pub length_store : (l : List ℕ) (i : ℕ) (s : Stream) → length (put_rec l i s) ≡ length l
length_store l i s = simp length-set

low : (l : List ℕ) (i : ℕ) (s : Stream) (j : ℕ) → j < 7 * i → get_or (put_rec l i s) j 0 ≡ get_or l j 0
low l i s j h = rw (below (7 * i + 6) j (omega arith), below (7 * i + 5) j (omega arith), below (7 * i + 4) j (omega arith), below (7 * i + 3) j (omega arith), below (7 * i + 2) j (omega arith), below (7 * i + 1) j (omega arith), below (7 * i) j (omega arith))

high : (l : List ℕ) (i : ℕ) (s : Stream) (j : ℕ) → 7 * i + 6 < j → get_or (put_rec l i s) j 0 ≡ get_or l j 0
high l i s j h = rw (above (7 * i + 6) j (omega arith), above (7 * i + 5) j (omega arith), above (7 * i + 4) j (omega arith), above (7 * i + 3) j (omega arith), above (7 * i + 2) j (omega arith), above (7 * i + 1) j (omega arith), above (7 * i) j (omega arith))

rec_eq : (l k : List ℕ) (i : ℕ) → ((m : ℕ) → m < 7 → get_or l (7 * i + m) 0 ≡ get_or k (7 * i + m) 0) → get_or l (7 * i) 0 ≡ get_or k (7 * i) 0 → rec_at l i ≡ rec_at k i
rec_eq l k i h z = λ t. record { id = z t; end = h 1 (omega arith) t; read = h 2 (omega arith) t; limit = h 3 (omega arith) t; phase = h 4 (omega arith) t; sending = h 5 (omega arith) t; class = h 6 (omega arith) t }

pub store_other : (l : List ℕ) (i : ℕ) (s : Stream) (k : ℕ) → (k < i) ⊎ (i < k) → rec_at (put_rec l i s) k ≡ rec_at l k
store_other l i s k (inl h) = rec_eq (put_rec l i s) l k (λ m lt. low l i s (7 * k + m) (omega arith)) (low l i s (7 * k) (omega arith))
store_other l i s k (inr h) = rec_eq (put_rec l i s) l k (λ m lt. high l i s (7 * k + m) (omega arith)) (high l i s (7 * k) (omega arith))

here : (a v : ℕ) (l m : List ℕ) → length m ≡ length l → a < length l → get_or (set m a v) a 0 ≡ v
here a v l m e h = get_or-set_same m a v 0 (omega arith)

pub store_same : (l : List ℕ) (i : ℕ) (s : Stream) → 7 * i + 7 ≤ length l → rec_at (put_rec l i s) i ≡ s
store_same l i s h =
    let p0 : get_or (put_rec l i s) (7 * i) 0 ≡ s.id = rw (below (7 * i + 6) (7 * i) (omega arith), below (7 * i + 5) (7 * i) (omega arith), below (7 * i + 4) (7 * i) (omega arith), below (7 * i + 3) (7 * i) (omega arith), below (7 * i + 2) (7 * i) (omega arith), below (7 * i + 1) (7 * i) (omega arith)) (here (7 * i) s.id l l refl (omega arith)) in
    let p1 : get_or (put_rec l i s) (7 * i + 1) 0 ≡ s.end = rw (below (7 * i + 6) (7 * i + 1) (omega arith), below (7 * i + 5) (7 * i + 1) (omega arith), below (7 * i + 4) (7 * i + 1) (omega arith), below (7 * i + 3) (7 * i + 1) (omega arith), below (7 * i + 2) (7 * i + 1) (omega arith)) (here (7 * i + 1) s.end l (set l (7 * i) s.id) (simp length-set) (omega arith)) in
    let p2 : get_or (put_rec l i s) (7 * i + 2) 0 ≡ s.read = rw (below (7 * i + 6) (7 * i + 2) (omega arith), below (7 * i + 5) (7 * i + 2) (omega arith), below (7 * i + 4) (7 * i + 2) (omega arith), below (7 * i + 3) (7 * i + 2) (omega arith)) (here (7 * i + 2) s.read l (set (set l (7 * i) s.id) (7 * i + 1) s.end) (simp length-set) (omega arith)) in
    let p3 : get_or (put_rec l i s) (7 * i + 3) 0 ≡ s.limit = rw (below (7 * i + 6) (7 * i + 3) (omega arith), below (7 * i + 5) (7 * i + 3) (omega arith), below (7 * i + 4) (7 * i + 3) (omega arith)) (here (7 * i + 3) s.limit l (set (set (set l (7 * i) s.id) (7 * i + 1) s.end) (7 * i + 2) s.read) (simp length-set) (omega arith)) in
    let p4 : get_or (put_rec l i s) (7 * i + 4) 0 ≡ s.phase = rw (below (7 * i + 6) (7 * i + 4) (omega arith), below (7 * i + 5) (7 * i + 4) (omega arith)) (here (7 * i + 4) s.phase l (set (set (set (set l (7 * i) s.id) (7 * i + 1) s.end) (7 * i + 2) s.read) (7 * i + 3) s.limit) (simp length-set) (omega arith)) in
    let p5 : get_or (put_rec l i s) (7 * i + 5) 0 ≡ s.sending = rw (below (7 * i + 6) (7 * i + 5) (omega arith)) (here (7 * i + 5) s.sending l (set (set (set (set (set l (7 * i) s.id) (7 * i + 1) s.end) (7 * i + 2) s.read) (7 * i + 3) s.limit) (7 * i + 4) s.phase) (simp length-set) (omega arith)) in
    let p6 : get_or (put_rec l i s) (7 * i + 6) 0 ≡ s.class = here (7 * i + 6) s.class l (set (set (set (set (set (set l (7 * i) s.id) (7 * i + 1) s.end) (7 * i + 2) s.read) (7 * i + 3) s.limit) (7 * i + 4) s.phase) (7 * i + 5) s.sending) (simp length-set) (omega arith) in
    λ t. record { id = p0 t; end = p1 t; read = p2 t; limit = p3 t; phase = p4 t; sending = p5 t; class = p6 t }

-- the model after a store is the model with the record set
pub records_store : (n : ℕ) (l : List ℕ) (i : ℕ) (s : Stream) → 7 * n ≤ length l → i < n → records n (put_rec l i s) ≡ set (records n l) i s
records_store n l i s room h =
    ext_get_or none (records n (put_rec l i s)) (set (records n l) i s)
    (length_records n (put_rec l i s) ∙ sym (length-set (records n l) i s ∙ length_records n l))
    (λ k below-k.
    let kn : k < n = omega (arith, length_records n (put_rec l i s)) in
    let len : length (records n l) ≡ n = length_records n l in
    records_at n (put_rec l i s) k kn ∙
    ⊎_elim
    (λ e. ap (rec_at (put_rec l i s)) e ∙ store_same l i s (omega arith) ∙ sym (ap (λ (m : ℕ). get_or (set (records n l) i s) m none) e ∙ get_or-set_same (records n l) i s none (omega arith)))
    (λ d. store_other l i s k d ∙ sym (get_or-set_other (records n l) i k s none (λ e. ⊎_elim (λ a. omega arith) (λ a. omega arith) d) ∙ records_at n l k kn))
    (tri k i))

-- the sum after a record is set
pub sum_set : (ss : List Stream) (i : ℕ) (s : Stream) → i < length ss → sum_ends (set ss i s) + (get_or ss i none).end ≡ sum_ends ss + s.end
sum_set [] i s h = absurd (omega arith)
sum_set (x ∷ ss) zero s h = omega arith
sum_set (x ∷ ss) (suc i) s h = omega (arith, sum_set ss i s (omega arith))

pub sum_store : (n : ℕ) (l : List ℕ) (i : ℕ) (s : Stream) → 7 * n ≤ length l → i < n → sum_ends (records n (put_rec l i s)) + (rec_at l i).end ≡ sum_ends (records n l) + s.end
sum_store n l i s room h =
    let len : length (records n l) ≡ n = length_records n l in
    let e1 : sum_ends (records n (put_rec l i s)) ≡ sum_ends (set (records n l) i s) = ap sum_ends (records_store n l i s room h) in
    let e2 : (get_or (records n l) i none).end ≡ (rec_at l i).end = ap (λ (r : Stream). r.end) (records_at n l i h) in
    omega (arith, sum_set (records n l) i s (omega arith))

-- ---- what is found is there
never : (j : ℕ) → None ≡ Some j → ⊥
never j p = let z : ◌≡◌ {A = ℕ} 0 1 = cc in omega arith

by_case : (b : Bool) (k j n : ℕ) (r : Option ℕ) → (r ≡ Some j → j < suc k + n) → cond b (Some k) r ≡ Some j → j < k + suc n
by_case true k j n r h p = let q : k ≡ j = cc in omega arith
by_case false k j n r h p = omega (arith, h p)

found_from : (k : ℕ) (ss : List Stream) (id j : ℕ) → find_from k ss id ≡ Some j → j < k + length ss
found_from k [] id j e = absurd (never j e)
found_from k (s ∷ ss) id j e = by_case (eqb s.id id) k j (length ss) (find_from (suc k) ss id) (found_from (suc k) ss id j) e

pub found_below : (n : ℕ) (l : List ℕ) (id j : ℕ) → find_in (records n l) id ≡ Some j → j < n
unfolding find_in
found_below n l id j e = omega (arith, found_from 0 (records n l) id j e, length_records n l)

-- ---- the check, record by record
module _ (c : Conn) (l : List ℕ) (n i low left b u : ℕ) (h : i < n) where
  abbrev rest : Bool
  rest = good_from c (recs_from i (n - i) l) low left b u

  pub check_bad : good_rec c (rec_at l i) ≡ false → rest ≡ false
  check_bad e = rw (rest_step l n i h, e)

  pub check_order : good_rec c (rec_at l i) ≡ true → (rec_at l i).id < low → rest ≡ false
  check_order e o = rw (rest_step l n i h, e, lt-leb low (rec_at l i).id o)

  pub check_over : good_rec c (rec_at l i) ≡ true → low ≤ (rec_at l i).id → left < (rec_at l i).end → rest ≡ false
  check_over e o a = rw (rest_step l n i h, e, le-leb low (rec_at l i).id o, lt-leb (rec_at l i).end left a)

  pub check_on : good_rec c (rec_at l i) ≡ true → low ≤ (rec_at l i).id → (rec_at l i).end ≤ left
      → rest ≡ good_from c (recs_from (i + 1) (n - (i + 1)) l) ((rec_at l i).id + 1) (left - (rec_at l i).end) (b + theirs c 0 (rec_at l i).id) (u + theirs c 1 (rec_at l i).id)
  check_on e o a = rw (rest_step l n i h, e, le-leb low (rec_at l i).id o, le-leb (rec_at l i).end left a)

pub check_end : (c : Conn) (l : List ℕ) (n i low left b u : ℕ) → n ≤ i → good_from c (recs_from i (n - i) l) low left b u ≡ (eqb left 0 && (eqb b c.bi.ralloc && eqb u c.uni.ralloc))
check_end c l n i low left b u h = rw (rest_end l n i h)

pub check_start : (c : Conn) (l : List ℕ) (n low left b u : ℕ) → good_from c (recs_from 0 (n - 0) l) low left b u ≡ good_from c (records n l) low left b u
unfolding records
check_start c l n low left b u =
    let e : n - 0 ≡ n = omega arith in
    ap (λ (m : ℕ). good_from c (recs_from 0 m l) low left b u) e

-- ---- the parts of a test
pub by_cond : {A : Type 0} (P : A → Type 0) (b : Bool) (x y : A) → (b ≡ true → P x) → (b ≡ false → P y) → P (cond b x y)
by_cond P true x y f g = f refl
by_cond P false x y f g = g refl

never_bool : false ≡ true → ⊥
never_bool p = let z : ◌≡◌ {A = ℕ} 0 1 = cc in omega arith

pub and_left : (a b : Bool) → (a && b) ≡ true → a ≡ true
and_left true b e = refl
and_left false b e = e

pub and_right : (a b : Bool) → (a && b) ≡ true → b ≡ true
and_right true b e = e
and_right false b e = absurd (never_bool e)

pub good_id : (c : Conn) (s : Stream) → good_rec c s ≡ true → s.id < 2 ^ 62
unfolding good_rec good_numbers
good_id c s e = ltb-true s.id (2 ^ 62) (and_left _ _ (and_right (is_ok (admitted c s.id)) _ e))

-- the same as the loop's returns and its next turn: `s` is the record that was loaded, `g` what `good` said of it, `f` what the whole comes to
module _ (c : Conn) (l : List ℕ) (n i low left b u : ℕ) {f g : Bool} {s : Stream} (v : good_from c (recs_from i (n - i) l) low left b u ≡ f) (h : i < n) (es : s ≡ rec_at l i) (eg : g ≡ good_rec c s) where
  good_at : g ≡ true → good_rec c (rec_at l i) ≡ true
  good_at e = ap (good_rec c) (sym es) ∙ sym eg ∙ e

  pub turn_bad : not g ≡ true → false ≡ f
  turn_bad e = sym (check_bad c l n i low left b u h (ap (good_rec c) (sym es) ∙ sym eg ∙ not-true g e)) ∙ v

  pub turn_order : not g ≡ false → s.id < low → false ≡ f
  turn_order e o =
      let d : s.id ≡ (rec_at l i).id = ap (λ (x : Stream). x.id) es in
      sym (check_order c l n i low left b u h (good_at (not-false g e)) (omega arith)) ∙ v

  pub turn_over : not g ≡ false → low ≤ s.id → left < s.end → false ≡ f
  turn_over e o a =
      let d : s.id ≡ (rec_at l i).id = ap (λ (x : Stream). x.id) es in
      let q : s.end ≡ (rec_at l i).end = ap (λ (x : Stream). x.end) es in
      sym (check_over c l n i low left b u h (good_at (not-false g e)) (omega arith) (omega arith)) ∙ v

  pub turn_on : {x y : ℕ} → not g ≡ false → low ≤ s.id → s.end ≤ left → x ≡ theirs c 0 s.id → y ≡ theirs c 1 s.id
      → good_from c (recs_from (i + 1) (n - (i + 1)) l) (s.id + 1) (left - s.end) (b + x) (u + y) ≡ f
  turn_on e o a ex ey =
      let d : s.id ≡ (rec_at l i).id = ap (λ (x : Stream). x.id) es in
      let q : s.end ≡ (rec_at l i).end = ap (λ (x : Stream). x.end) es in
      rw (ex, ey, d, q) (sym (check_on c l n i low left b u h (good_at (not-false g e)) (omega arith) (omega arith)) ∙ v)

pub turn_end : (c : Conn) (l : List ℕ) (n i low left b u : ℕ) {f : Bool} → good_from c (recs_from i (n - i) l) low left b u ≡ f → n ≤ i → (eqb left 0 && (eqb b c.bi.ralloc && eqb u c.uni.ralloc)) ≡ f
turn_end c l n i low left b u v h = sym (check_end c l n i low left b u h) ∙ v

pub one_most : (c : Conn) (d id : ℕ) → theirs c d id ≤ 1
unfolding theirs
one_most c d id = by_cond (λ (x : ℕ). x ≤ 1) (eqb (id % 2) c.side) _ _ (λ _. omega arith) (λ _. by_cond (λ (x : ℕ). x ≤ 1) (eqb (id / 2 % 2) d) _ _ (λ _. omega arith) (λ _. omega arith))
