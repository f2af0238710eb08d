-- One record more and one less: what is left of a loop comes to the whole.
-- Assumes nothing.
use mathlib.Core.Path.{◌≡◌, refl, ap, sym, ◌∙◌}
use mathlib.Core.Logic.{inr}
use mathlib.Core.Bool.{true}
use mathlib.Core.List.{List, [], ◌∷◌}
use Prim.Native.Nat.{ℕ, zero, suc, ◌+◌, ◌*◌, ◌-◌, ◌≤◌, ◌<◌}
use native.Mathlib.Numerals.{add-one}
use native.Mathlib.Omega.{arith}
use borrow.Author.Tests.{lt-ltb, le-leb, leb-true, ltb-true}
use lib.Dec.{ltb}
use lib.ListN.{length}
use Rattle.stream_record.specs.declared.Stream.{Stream}
use Rattle.stream_table.specs.Table.{rec_at, put_rec, recs_from, records, put_recs, lower, upper, insert_id, inserted, removed, has_place, stored_at, inserted_at, removed_at}
use Rattle.stream_table.proofs.Tables.{rest_step, rest_end, store_other, length_store, and_left, and_right}

-- a store leaves the records after it
pub recs_after : (k m : ℕ) (l : List ℕ) (j : ℕ) (s : Stream) → j < k → recs_from k m (put_rec l j s) ≡ recs_from k m l
recs_after k zero l j s h = refl
recs_after k (suc m) l j s h =
    ap (λ (r : Stream). r ∷ recs_from (suc k) m (put_rec l j s)) (store_other l j s k (inr h)) ∙ ap (λ (rs : List Stream). rec_at l k ∷ rs) (recs_after (suc k) m l j s (omega arith))

-- one more
pub insert_start : (l : List ℕ) (n : ℕ) (s : Stream) → put_recs l 0 (insert_id s (recs_from 0 (n - 0) l)) ≡ inserted l n s
unfolding inserted records
insert_start l n s =
    let e : n - 0 ≡ n = omega arith in
    ap (λ (m : ℕ). put_recs l 0 (insert_id s (recs_from 0 m l))) e

module _ (l : List ℕ) (n i : ℕ) (hand : Stream) {f : List ℕ} (v : put_recs l i (insert_id hand (recs_from i (n - i) l)) ≡ f) where
  pub insert_turn : {l' : List ℕ} {t lo hand' : Stream} → i < n → t ≡ rec_at l i → lo ≡ lower hand t → l' ≡ put_rec l i lo → hand' ≡ upper hand t
      → put_recs l' (i + 1) (insert_id hand' (recs_from (i + 1) (n - (i + 1)) l')) ≡ f
  insert_turn {l'} {t} {lo} {hand'} h et elo el eh =
      let a : recs_from (i + 1) (n - (i + 1)) l' ≡ recs_from (i + 1) (n - (i + 1)) l = ap (recs_from (i + 1) (n - (i + 1))) el ∙ recs_after (i + 1) (n - (i + 1)) l i lo (omega arith) in
      let b : lo ≡ lower hand (rec_at l i) = elo ∙ ap (lower hand) et in
      let d : hand' ≡ upper hand (rec_at l i) = eh ∙ ap (upper hand) et in
      let w : put_recs (put_rec l i (lower hand (rec_at l i))) (suc i) (insert_id (upper hand (rec_at l i)) (recs_from (i + 1) (n - (i + 1)) l)) ≡ f = ap (λ (rs : List Stream). put_recs l i (insert_id hand rs)) (sym (rest_step l n i h)) ∙ v in
      ap (λ (rs : List Stream). put_recs l' (i + 1) (insert_id hand' rs)) a
      ∙ ap (λ (x : Stream). put_recs l' (i + 1) (insert_id x (recs_from (i + 1) (n - (i + 1)) l))) d
      ∙ ap (λ (k : List ℕ). put_recs k (i + 1) (insert_id (upper hand (rec_at l i)) (recs_from (i + 1) (n - (i + 1)) l))) (el ∙ ap (put_rec l i) b)
      ∙ ap (λ (j : ℕ). put_recs (put_rec l i (lower hand (rec_at l i))) j (insert_id (upper hand (rec_at l i)) (recs_from (i + 1) (n - (i + 1)) l))) (add-one i)
      ∙ w

  pub insert_done : {l' : List ℕ} → n ≤ i → i ≤ n → l' ≡ put_rec l n hand → l' ≡ f
  insert_done h k el =
      let e : n ≡ i = omega arith in
      el ∙ ap (λ (j : ℕ). put_rec l j hand) e ∙ ap (λ (rs : List Stream). put_recs l i (insert_id hand rs)) (sym (rest_end l n i h)) ∙ v

-- one less
pub remove_start : (l : List ℕ) (n i : ℕ) → put_recs l i (recs_from (i + 1) (n - (i + 1)) l) ≡ removed l n i
unfolding removed
remove_start l n i = refl

module _ (l : List ℕ) (n i : ℕ) {f : List ℕ} (v : put_recs l i (recs_from (i + 1) (n - (i + 1)) l) ≡ f) where
  pub remove_turn : {l' : List ℕ} {t : Stream} → i + 1 < n → t ≡ rec_at l (i + 1) → l' ≡ put_rec l i t → put_recs l' (i + 1) (recs_from (i + 1 + 1) (n - (i + 1 + 1)) l') ≡ f
  remove_turn {l'} {t} h et el =
      let a : recs_from (i + 1 + 1) (n - (i + 1 + 1)) l' ≡ recs_from (i + 1 + 1) (n - (i + 1 + 1)) l = ap (recs_from (i + 1 + 1) (n - (i + 1 + 1))) el ∙ recs_after (i + 1 + 1) (n - (i + 1 + 1)) l i t (omega arith) in
      let w : put_recs (put_rec l i (rec_at l (i + 1))) (suc i) (recs_from (i + 1 + 1) (n - (i + 1 + 1)) l) ≡ f = ap (put_recs l i) (sym (rest_step l n (i + 1) h)) ∙ v in
      ap (put_recs l' (i + 1)) a
      ∙ ap (λ (k : List ℕ). put_recs k (i + 1) (recs_from (i + 1 + 1) (n - (i + 1 + 1)) l)) (el ∙ ap (put_rec l i) et)
      ∙ ap (λ (j : ℕ). put_recs (put_rec l i (rec_at l (i + 1))) j (recs_from (i + 1 + 1) (n - (i + 1 + 1)) l)) (add-one i)
      ∙ w

  pub remove_done : n ≤ i + 1 → l ≡ f
  remove_done h = ap (put_recs l i) (sym (rest_end l n (i + 1) h)) ∙ v

-- lengths
pub length_after : (l : List ℕ) (i : ℕ) (s : Stream) {l' : List ℕ} → l' ≡ put_rec l i s → length l' ≡ length l
length_after l i s e = ap length e ∙ length_store l i s

pub length_put : (l : List ℕ) (k : ℕ) (ss : List Stream) → length (put_recs l k ss) ≡ length l
length_put l k [] = refl
length_put l k (s ∷ ss) = length_put (put_rec l k s) (suc k) ss ∙ length_store l k s

pub length_removed : (l : List ℕ) (n i : ℕ) {l' : List ℕ} → l' ≡ removed l n i → length l' ≡ length l
unfolding removed
length_removed l n i e = ap length e ∙ length_put l i (recs_from (i + 1) (n - (i + 1)) l)

pub length_inserted : (l : List ℕ) (n : ℕ) (s : Stream) {l' : List ℕ} → l' ≡ inserted l n s → length l' ≡ length l
unfolding inserted
length_inserted l n s e = ap length e ∙ length_put l 0 (insert_id s (records n l))

-- ---- is there a place
module _ (l : List ℕ) (n : ℕ) where
  pub has_shut : n < 256 → 7 * n + 7 ≤ length l → has_place l n ≡ true
  unfolding has_place
  has_shut h k = rw (lt-ltb n 256 h, le-leb (7 * n + 7) (length l) k)

  pub has_room : has_place l n ≡ true → 7 * n + 7 ≤ length l
  unfolding has_place
  has_room e = leb-true (7 * n + 7) (length l) (and_right (ltb n 256) _ e)

  pub has_few : has_place l n ≡ true → n < 256
  unfolding has_place
  has_few e = ltb-true n 256 (and_left (ltb n 256) _ e)

module _ (l : List ℕ) (n i : ℕ) where
  pub remove_now : {l' : List ℕ} → i < n → n ≤ 256 → 7 * n ≤ length l → l' ≡ removed l n i → l' ≡ removed_at l n i
  unfolding removed_at
  remove_now h k m e = rw (lt-ltb i n h, le-leb n 256 k, le-leb (7 * n) (length l) m) e

-- the words as the upper crates see them
pub stored_is : (l : List ℕ) (n : ℕ) (s : Stream) → n < 256 → 7 * n + 7 ≤ length l → stored_at l n s ≡ put_rec l n s
unfolding stored_at
stored_is l n s h k = rw (has_shut l n h k)

pub inserted_is : (l : List ℕ) (n : ℕ) (s : Stream) → n < 256 → 7 * n + 7 ≤ length l → inserted_at l n s ≡ inserted l n s
unfolding inserted_at
inserted_is l n s h k = rw (has_shut l n h k)

pub removed_is : (l : List ℕ) (n i : ℕ) → i < n → n ≤ 256 → 7 * n ≤ length l → removed_at l n i ≡ removed l n i
removed_is l n i h k m = sym (remove_now l n i h k m refl)
