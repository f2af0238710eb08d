-- Lists of records: one put in, one changed, one dropped, ours left out; what each keeps of order, of the records and of any sum over them. And that
-- the words after a move hold that list.
-- Assumes nothing.
use mathlib.Core.Path.{◌≡◌, refl, ap, sym, ◌∙◌}
use mathlib.Core.Logic.{inl}
use mathlib.Core.Bool.{Bool, true, false, cond, ◌&&◌}
use mathlib.Core.List.{List, [], ◌∷◌}
use Prim.Native.Nat.{ℕ, zero, suc, ◌+◌, ◌*◌, ◌-◌, ◌%◌, ◌≤◌, ◌<◌}
use native.Mathlib.Numerals.{add-one}
use native.Mathlib.Omega.{arith}
use lib.Dec.{eqb, ltb, leb}
use lib.ListN.{length, get_or, set}
use borrow.Author.Tests.{lt-ltb, le-leb, ltb-true, ltb-false, leb-true}
use Rattle.std.specs.Prelude.{is_ok}
use Rattle.stream_record.specs.declared.Stream.{Stream}
use Rattle.stream_record.specs.Record.{none}
use Rattle.stream_conn.specs.declared.Conn.{Conn}
use Rattle.stream_conn.specs.Books.{admitted}
use Rattle.stream_table.specs.declared.Stripped.{Stripped}
use Rattle.stream_table.specs.Table.{good_rec, rec_at, put_rec, recs_from, records, put_recs, lower, upper, insert_id, inserted, removed, Left, left, strip_from, stripped}
use Rattle.stream_table.proofs.Tables.{by_cond, and_left, and_right, store_other, store_same, length_store}
use Rattle.stream_form.specs.Form.{sum_of, ours, end_of, read_of}
use Rattle.stream_form.proofs.Facts.{and_both, rec_admits, rec_numbers}

abbrev pub all_good : Conn → List Stream → Bool
all_good c [] = true
all_good c (s ∷ ss) = good_rec c s && all_good c ss

abbrev pub rising : ℕ → List Stream → Bool
rising low [] = true
rising low (s ∷ ss) = leb low s.id && rising (s.id + 1) ss

-- the records that are not ours
abbrev pub keep : ℕ → List Stream → List Stream
keep side [] = []
keep side (s ∷ ss) = cond (eqb (s.id % 2) side) (keep side ss) (s ∷ keep side ss)

-- ---- what was written is there
pub put_before : (l : List ℕ) (k : ℕ) (ss : List Stream) (j : ℕ) → j < k → rec_at (put_recs l k ss) j ≡ rec_at l j
put_before l k [] j h = refl
put_before l k (s ∷ ss) j h = put_before (put_rec l k s) (suc k) ss j (omega arith) ∙ store_other l k s j (inl h)

pub recs_put : (l : List ℕ) (k : ℕ) (ss : List Stream) → 7 * (k + length ss) ≤ length l → recs_from k (length ss) (put_recs l k ss) ≡ ss
recs_put l k [] h = refl
recs_put l k (s ∷ ss) h =
    ap (λ (x : Stream). x ∷ recs_from (suc k) (length ss) (put_recs (put_rec l k s) (suc k) ss)) (put_before (put_rec l k s) (suc k) ss k (omega arith) ∙ store_same l k s (omega arith))
    ∙ ap (λ (xs : List Stream). s ∷ xs) (recs_put (put_rec l k s) (suc k) ss (omega (arith, length_store l k s)))

pub length_recs : (k n : ℕ) (l : List ℕ) → length (recs_from k n l) ≡ n
length_recs k zero l = refl
length_recs k (suc n) l = ap suc (length_recs (suc k) n l)

length_insert : (s : Stream) (ss : List Stream) → length (insert_id s ss) ≡ suc (length ss)
length_insert s [] = refl
length_insert s (x ∷ xs) = ap suc (length_insert (upper s x) xs)

pub inserted_records : (l : List ℕ) (n : ℕ) (s : Stream) → 7 * n + 7 ≤ length l → records (n + 1) (inserted l n s) ≡ insert_id s (records n l)
unfolding inserted records
inserted_records l n s h =
    let e : n + 1 ≡ length (insert_id s (recs_from 0 n l)) = omega (arith, length_insert s (recs_from 0 n l), length_recs 0 n l) in
    ap (λ (m : ℕ). recs_from 0 m (put_recs l 0 (insert_id s (recs_from 0 n l)))) e ∙ recs_put l 0 (insert_id s (recs_from 0 n l)) (omega arith)

-- ---- one more record
pub good_insert : (c : Conn) (s : Stream) (ss : List Stream) → good_rec c s ≡ true → all_good c ss ≡ true → all_good c (insert_id s ss) ≡ true
good_insert c s [] g e = and_both (good_rec c s) true g refl
good_insert c s (x ∷ xs) g e =
    let gx = and_left (good_rec c x) _ e in
    and_both (good_rec c (lower s x)) (all_good c (insert_id (upper s x) xs))
    (by_cond (λ (r : Stream). good_rec c r ≡ true) (ltb s.id x.id) s x (λ _. g) (λ _. gx))
    (good_insert c (upper s x) xs (by_cond (λ (r : Stream). good_rec c r ≡ true) (ltb s.id x.id) x s (λ _. gx) (λ _. g)) (and_right (good_rec c x) _ e))

insert_front : (x : Stream) (xs : List Stream) → rising (x.id + 1) xs ≡ true → insert_id x xs ≡ x ∷ xs
insert_front x [] e = refl
insert_front x (y ∷ ys) e =
    let t : ltb x.id y.id ≡ true = lt-ltb x.id y.id (omega (arith, leb-true (x.id + 1) y.id (and_left (leb (x.id + 1) y.id) _ e))) in
    let r : insert_id y ys ≡ y ∷ ys = insert_front y ys (and_right (leb (x.id + 1) y.id) _ e) in
    (rw t) ∙ ap (λ (zs : List Stream). x ∷ zs) r

rise_case : (s x : Stream) (xs : List Stream) (low : ℕ) (b : Bool) → ltb s.id x.id ≡ b → low ≤ s.id → low ≤ x.id → rising (x.id + 1) xs ≡ true → (x.id ≡ s.id → ⊥)
    → (x.id + 1 ≤ s.id → rising (x.id + 1) (insert_id s xs) ≡ true) → rising low (cond b s x ∷ insert_id (cond b x s) xs) ≡ true
rise_case s x xs low true e h k r n ih =
    and_both _ _ (le-leb low s.id h) (ap (rising (s.id + 1)) (insert_front x xs r) ∙ and_both _ _ (le-leb (s.id + 1) x.id (omega (arith, ltb-true s.id x.id e))) r)
rise_case s x xs low false e h k r n ih =
    and_both _ _ (le-leb low x.id k) (ih (omega (arith, n, ltb-false s.id x.id e)))

pub rising_insert : (c : Conn) (s : Stream) (ss : List Stream) (low : ℕ) → rising low ss ≡ true → all_good c ss ≡ true → (is_ok (admitted c s.id) ≡ true → ⊥) → low ≤ s.id → rising low (insert_id s ss) ≡ true
rising_insert c s [] low e g n h = and_both _ _ (le-leb low s.id h) refl
rising_insert c s (x ∷ xs) low e g n h =
    let ax : is_ok (admitted c x.id) ≡ true = rec_admits c x (and_left (good_rec c x) _ g) in
    let r = and_right (leb low x.id) _ e in
    rise_case s x xs low (ltb s.id x.id) refl h (leb-true low x.id (and_left (leb low x.id) _ e)) r (λ q. n (ap (λ (y : ℕ). is_ok (admitted c y)) (sym q) ∙ ax))
    (λ k. rising_insert c s xs (x.id + 1) r (and_right (good_rec c x) _ g) n k)

-- ---- one record less
abbrev pub drop_at : ℕ → List Stream → List Stream
drop_at i [] = []
drop_at zero (s ∷ ss) = ss
drop_at (suc i) (s ∷ ss) = s ∷ drop_at i ss

weaken : (lo hi : ℕ) (ss : List Stream) → lo ≤ hi → rising hi ss ≡ true → rising lo ss ≡ true
weaken lo hi [] h e = refl
weaken lo hi (s ∷ ss) h e = and_both _ _ (le-leb lo s.id (omega (arith, leb-true hi s.id (and_left (leb hi s.id) _ e)))) (and_right (leb hi s.id) _ e)

pub rising_drop : (i low : ℕ) (ss : List Stream) → rising low ss ≡ true → rising low (drop_at i ss) ≡ true
rising_drop i low [] e = refl
rising_drop zero low (s ∷ ss) e = weaken low (s.id + 1) ss (omega (arith, leb-true low s.id (and_left (leb low s.id) _ e))) (and_right (leb low s.id) _ e)
rising_drop (suc i) low (s ∷ ss) e = and_both _ _ (and_left (leb low s.id) _ e) (rising_drop i (s.id + 1) ss (and_right (leb low s.id) _ e))

pub good_drop : (c : Conn) (i : ℕ) (ss : List Stream) → all_good c ss ≡ true → all_good c (drop_at i ss) ≡ true
good_drop c i [] e = refl
good_drop c zero (s ∷ ss) e = and_right (good_rec c s) _ e
good_drop c (suc i) (s ∷ ss) e = and_both _ _ (and_left (good_rec c s) _ e) (good_drop c i ss (and_right (good_rec c s) _ e))

-- the table after `remove` is the list with that record dropped
drop_recs : (l : List ℕ) (k i m : ℕ) → i ≤ m → 7 * (k + m) ≤ length l → recs_from k m (put_recs l (k + i) (recs_from (suc (k + i)) (m - i) l)) ≡ drop_at i (recs_from k (suc m) l)
drop_recs l k zero m h room =
    let z : k + zero ≡ k = omega arith in
    let y : m - zero ≡ m = omega arith in
    let w : length (recs_from (suc k) m l) ≡ m = length_recs (suc k) m l in
    ap (λ (j : ℕ). recs_from k m (put_recs l j (recs_from (suc j) (m - zero) l))) z
    ∙ ap (λ (j : ℕ). recs_from k m (put_recs l k (recs_from (suc k) j l))) y
    ∙ ap (λ (j : ℕ). recs_from k j (put_recs l k (recs_from (suc k) m l))) (sym w)
    ∙ recs_put l k (recs_from (suc k) m l) (omega arith)
drop_recs l k (suc i) zero h room = absurd (omega arith)
drop_recs l k (suc i) (suc m) h room =
    let z : k + suc i ≡ suc k + i = omega arith in
    let y : suc m - suc i ≡ m - i = omega arith in
    ap (λ (x : Stream). x ∷ recs_from (suc k) m (put_recs l (k + suc i) (recs_from (suc (k + suc i)) (suc m - suc i) l))) (put_before l (k + suc i) (recs_from (suc (k + suc i)) (suc m - suc i) l) k (omega arith))
    ∙ ap (λ (xs : List Stream). rec_at l k ∷ xs)
    (ap (λ (j : ℕ). recs_from (suc k) m (put_recs l j (recs_from (suc j) (suc m - suc i) l))) z
    ∙ ap (λ (j : ℕ). recs_from (suc k) m (put_recs l (suc k + i) (recs_from (suc (suc k + i)) j l))) y
    ∙ drop_recs l (suc k) i m (omega arith) (omega arith))

pub removed_records : (l : List ℕ) (n i : ℕ) → i < n → 7 * n ≤ length l → records (n - 1) (removed l n i) ≡ drop_at i (records n l)
unfolding removed records
removed_records l zero i h k = absurd (omega arith)
removed_records l (suc m) i h k =
    let a : suc m - 1 ≡ m = omega arith in
    let b : suc m - (i + 1) ≡ m - i = omega arith in
    let z : i ≡ 0 + i = omega arith in
    ap (λ (x : ℕ). recs_from 0 x (put_recs l i (recs_from (i + 1) (suc m - (i + 1)) l))) a
    ∙ ap (λ (x : ℕ). recs_from 0 m (put_recs l i (recs_from (i + 1) x l))) b
    ∙ ap (λ (x : ℕ). recs_from 0 m (put_recs l i (recs_from x (m - i) l))) (add-one i)
    ∙ ap (λ (x : ℕ). recs_from 0 m (put_recs l x (recs_from (suc x) (m - i) l))) z
    ∙ drop_recs l 0 i m (omega arith) (omega arith)

-- ---- one record changed
pub good_set : (c : Conn) (ss : List Stream) (i : ℕ) (t : Stream) → all_good c ss ≡ true → good_rec c t ≡ true → all_good c (set ss i t) ≡ true
good_set c [] i t e g = refl
good_set c (s ∷ ss) zero t e g = and_both _ _ g (and_right (good_rec c s) _ e)
good_set c (s ∷ ss) (suc i) t e g = and_both _ _ (and_left (good_rec c s) _ e) (good_set c ss i t (and_right (good_rec c s) _ e) g)

pub rising_set : (low : ℕ) (ss : List Stream) (i : ℕ) (t : Stream) → t.id ≡ (get_or ss i none).id → i < length ss → rising low ss ≡ true → rising low (set ss i t) ≡ true
rising_set low [] i t e h r = refl
rising_set low (s ∷ ss) zero t e h r = rw e r
rising_set low (s ∷ ss) (suc i) t e h r = and_both _ _ (and_left (leb low s.id) _ r) (rising_set (s.id + 1) ss i t e (omega arith) (and_right (leb low s.id) _ r))

pub good_at : (c : Conn) (ss : List Stream) (i : ℕ) → i < length ss → all_good c ss ≡ true → good_rec c (get_or ss i none) ≡ true
good_at c [] i h e = absurd (omega arith)
good_at c (s ∷ ss) zero h e = and_left _ _ e
good_at c (s ∷ ss) (suc i) h e = good_at c ss i (omega arith) (and_right (good_rec c s) _ e)

-- ---- ours left out
pub rising_keep : (side low : ℕ) (ss : List Stream) → rising low ss ≡ true → rising low (keep side ss) ≡ true
rising_keep side low [] e = refl
rising_keep side low (s ∷ ss) e =
    let lo : low ≤ s.id = leb-true low s.id (and_left (leb low s.id) _ e) in
    let r = rising_keep side (s.id + 1) ss (and_right (leb low s.id) _ e) in
    by_cond (λ (x : List Stream). rising low x ≡ true) (eqb (s.id % 2) side) _ _
    (λ _. weaken low (s.id + 1) (keep side ss) (omega arith) r)
    (λ _. and_both _ _ (and_left (leb low s.id) _ e) r)

pub length_keep : (side : ℕ) (ss : List Stream) → length (keep side ss) ≤ length ss
length_keep side [] = omega arith
length_keep side (s ∷ ss) =
    let r = length_keep side ss in
    by_cond (λ (x : List Stream). length x ≤ suc (length ss)) (eqb (s.id % 2) side) _ _ (λ _. omega arith) (λ _. omega arith)

-- each record that is left is good of a connection that admits the peer's streams as before
pub good_keep : (c d : Conn) (ss : List Stream) → ((s : Stream) → eqb (s.id % 2) c.side ≡ false → good_rec c s ≡ true → good_rec d s ≡ true) → all_good c ss ≡ true → all_good d (keep c.side ss) ≡ true
good_keep c d [] f e = refl
good_keep c d (s ∷ ss) f e =
    let r = good_keep c d ss f (and_right (good_rec c s) _ e) in
    by_cond (λ (x : List Stream). all_good d x ≡ true) (eqb (s.id % 2) c.side) _ _ (λ _. r) (λ q. and_both _ _ (f s q (and_left (good_rec c s) _ e)) r)

pub good_all : (c d : Conn) (ss : List Stream) → ((s : Stream) → good_rec c s ≡ true → good_rec d s ≡ true) → all_good c ss ≡ true → all_good d ss ≡ true
good_all c d [] f e = refl
good_all c d (s ∷ ss) f e = and_both _ _ (f s (and_left (good_rec c s) _ e)) (good_all c d ss f (and_right (good_rec c s) _ e))

-- ---- sums
module _ (f : Stream → ℕ) where
  pair_sum : (b : Bool) (s x : Stream) → f (cond b s x) + f (cond b x s) ≡ f s + f x
  pair_sum true s x = refl
  pair_sum false s x = omega arith

  pub sum_insert : (s : Stream) (ss : List Stream) → sum_of f (insert_id s ss) ≡ f s + sum_of f ss
  sum_insert s [] = refl
  sum_insert s (x ∷ xs) = omega (arith, sum_insert (upper s x) xs, pair_sum (ltb s.id x.id) s x)

  pub sum_drop : (i : ℕ) (ss : List Stream) → i < length ss → f (get_or ss i none) + sum_of f (drop_at i ss) ≡ sum_of f ss
  sum_drop i [] h = absurd (omega arith)
  sum_drop zero (s ∷ ss) h = refl
  sum_drop (suc i) (s ∷ ss) h = omega (arith, sum_drop i ss (omega arith))

  pub sum_put : (ss : List Stream) (i : ℕ) (t : Stream) → i < length ss → sum_of f (set ss i t) + f (get_or ss i none) ≡ sum_of f ss + f t
  sum_put [] i t h = absurd (omega arith)
  sum_put (x ∷ ss) zero t h = omega arith
  sum_put (x ∷ ss) (suc i) t h = omega (arith, sum_put ss i t (omega arith))

  pub sum_keep : (side : ℕ) (ss : List Stream) → sum_of f (keep side ss) + sum_of f (ours side ss) ≡ sum_of f ss
  sum_keep side [] = refl
  sum_keep side (s ∷ ss) = keep_case (eqb (s.id % 2) side) (sum_keep side ss)
    where
      keep_case : (b : Bool) → sum_of f (keep side ss) + sum_of f (ours side ss) ≡ sum_of f ss
          → sum_of f (cond b (keep side ss) (s ∷ keep side ss)) + sum_of f (cond b (s ∷ ours side ss) (ours side ss)) ≡ f s + sum_of f ss
      keep_case true e = omega arith
      keep_case false e = omega arith

  pub sum_same : (g : Stream → ℕ) (ss : List Stream) → ((s : Stream) → f s ≡ g s) → sum_of f ss ≡ sum_of g ss
  sum_same g [] e = refl
  sum_same g (s ∷ ss) e = omega (arith, e s, sum_same g ss e)

abbrev pub left_with : ℕ → ℕ → List ℕ → Left Stripped
left_with n total l = left (record { count = n; total = total }) l

-- what is left after `strip`: the peer's records from the first place on, and the sum of the ends of ours
strip_case : (side : ℕ) (l : List ℕ) (w total : ℕ) (s : Stream) (ss : List Stream) (b : Bool)
    → ((l' : List ℕ) (w' total' : ℕ) → strip_from side l' w' total' ss ≡ left_with (w' + length (keep side ss)) (total' + sum_of (λ (x : Stream). x.end) (ours side ss)) (put_recs l' w' (keep side ss)))
    → strip_from side (cond b l (put_rec l w s)) (cond b w (w + 1)) (cond b (total + s.end) total) ss
    ≡ left_with (w + length (cond b (keep side ss) (s ∷ keep side ss))) (total + sum_of (λ (x : Stream). x.end) (cond b (s ∷ ours side ss) (ours side ss))) (put_recs l w (cond b (keep side ss) (s ∷ keep side ss)))
strip_case side l w total s ss true f =
    let e : total + s.end + sum_of (λ (x : Stream). x.end) (ours side ss) ≡ total + (s.end + sum_of (λ (x : Stream). x.end) (ours side ss)) = omega arith in
    f l w (total + s.end) ∙ ap (λ (y : ℕ). left_with (w + length (keep side ss)) (y) (put_recs l w (keep side ss))) e
strip_case side l w total s ss false f =
    let e : w + 1 + length (keep side ss) ≡ w + suc (length (keep side ss)) = omega arith in
    f (put_rec l w s) (w + 1) total
    ∙ ap (λ (y : ℕ). left_with (y) (total + sum_of (λ (x : Stream). x.end) (ours side ss)) (put_recs (put_rec l w s) (w + 1) (keep side ss))) e
    ∙ ap (λ (y : ℕ). left_with (w + suc (length (keep side ss))) (total + sum_of (λ (x : Stream). x.end) (ours side ss)) (put_recs (put_rec l w s) y (keep side ss))) (add-one w)

strip_from_law : (side : ℕ) (ss : List Stream) (l : List ℕ) (w total : ℕ)
    → strip_from side l w total ss ≡ left_with (w + length (keep side ss)) (total + sum_of (λ (x : Stream). x.end) (ours side ss)) (put_recs l w (keep side ss))
strip_from_law side [] l w total =
    let a : w ≡ w + 0 = omega arith in
    let b : total ≡ total + 0 = omega arith in
    ap (λ (y : ℕ). left_with (y) (total) l) a ∙ ap (λ (y : ℕ). left_with (w + 0) (y) l) b
strip_from_law side (s ∷ ss) l w total = strip_case side l w total s ss (eqb (s.id % 2) side) (λ l' w' t'. strip_from_law side ss l' w' t')

pub stripped_is : (side : ℕ) (l : List ℕ) (n : ℕ)
    → stripped side l n ≡ left_with (length (keep side (records n l))) (sum_of (λ (x : Stream). x.end) (ours side (records n l))) (put_recs l 0 (keep side (records n l)))
unfolding stripped
stripped_is side l n =
    let ks : List Stream = keep side (records n l) in
    let a : 0 + length ks ≡ length ks = omega arith in
    let b : 0 + sum_of (λ (x : Stream). x.end) (ours side (records n l)) ≡ sum_of (λ (x : Stream). x.end) (ours side (records n l)) = omega arith in
    strip_from_law side (records n l) l 0 0
    ∙ ap (λ (y : ℕ). left_with (y) (0 + sum_of (λ (x : Stream). x.end) (ours side (records n l))) (put_recs l 0 ks)) a
    ∙ ap (λ (y : ℕ). left_with (length ks) (y) (put_recs l 0 ks)) b

pub records_put : (l : List ℕ) (ss : List Stream) → 7 * length ss ≤ length l → records (length ss) (put_recs l 0 ss) ≡ ss
unfolding records
records_put l ss h = recs_put l 0 ss (omega arith)

-- no more is credited of ours than is charged
pub read_ours : (c : Conn) (side : ℕ) (ss : List Stream) → all_good c ss ≡ true → sum_of read_of (ours side ss) ≤ sum_of end_of (ours side ss)
read_ours c side [] e = omega arith
read_ours c side (s ∷ ss) e =
    let r = read_ours c side ss (and_right (good_rec c s) _ e) in
    let q : s.read ≤ s.end = (rec_numbers c s (and_left (good_rec c s) _ e)).re in
    by_cond (λ (x : List Stream). sum_of read_of x ≤ sum_of end_of x) (eqb (s.id % 2) side) _ _ (λ _. omega arith) (λ _. r)

pub read_all : (c : Conn) (ss : List Stream) → all_good c ss ≡ true → sum_of read_of ss ≤ sum_of end_of ss
read_all c [] e = omega arith
read_all c (s ∷ ss) e =
    let q : s.read ≤ s.end = (rec_numbers c s (and_left (good_rec c s) _ e)).re in
    omega (arith, read_all c ss (and_right (good_rec c s) _ e))
