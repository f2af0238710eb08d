-- Laws of writing: a run of writes is one write, one range of a list is one pair of a frame, and what write answers, one law for each return.
use Prim.Native.Nat.{ℕ, zero, suc, ◌+◌, ◌-◌, ◌*◌, ◌<◌, ◌≤◌, ◌^◌}
use mathlib.Core.Path.{◌≡◌, refl, ap, sym, ◌∙◌, subst}
use mathlib.Core.Bool.{Bool, true, false, not}
use mathlib.Core.Logic.{⊎_elim}
use mathlib.Core.List.{List, [], ◌∷◌, ◌++◌, append_assoc, append-nil, reverse}
use native.Mathlib.Omega.{arith}
use native.Mathlib.Nat.{add-zero, zero-add}
use lib.ListN.{length, get_or, take, drop, set, length-drop, length-append, drop_of_length-le, take-append-drop}
use lib.Seq.{drop-drop, length-take-le, take_at, drop_at, set_split}
use borrow.Author.Tests.{le-leb, lt-leb, lt-ltb, le-ltb}
use borrow.Rule.Slice.PartMut.{put_mid}
use Rattle.answers.proofs.Tests.{split}
use Rattle.std.specs.Prelude.{Result, Ok, Err}
use Rattle.answers.specs.declared.Refusal.{Refusal}
use Rattle.answers.specs.declared.Refusal.TheVariants as why
use Rattle.varint.specs.Varint.{encode, len_of, write_varint}
use Rattle.varint.specs.Varint as varint
use Rattle.varint.proofs.Laws.{rest, log_0, log_1, log_2, log_3}
use Rattle.varint.proofs.Theorems.{length_encode}
use Rattle.range_list.specs.Ranges.{Range, range_at, read, well_formed}
use Rattle.ack_frame.specs.Grammar.{pairs_bytes, pairs_for, Descends, frame_of}
use Rattle.ack_frame.proofs.Round.{highest_first, length_descending, formed_descends}
use Rattle.ack_write.specs.Write.{put, pairs_of, Ordered, head_bytes, done, fitted, write_ack}

-- what a write of a number below the limit comes to where there is room
written_is : (l : List ℕ) (v : ℕ) → v < 2 ^ 62 → len_of v ≤ length l → write_varint l v ≡ varint.done (Ok (len_of v)) (encode v ++ drop (len_of v) l)
unfolding write_varint
written_is l v h k = rw (lt-ltb v (2 ^ 62) h, le-leb (len_of v) (length l) k)

-- the part `&mut out[at..]` comes back with v at its start, by what the write of it answered
module _ (l : List ℕ) (at v : ℕ) {r : Result ℕ Refusal} {ys : List ℕ} (h : v < 2 ^ 62) (o : at + len_of v ≤ length l)
    (q : varint.done r ys ≡ write_varint (take (length l - at) (drop at l)) v) where
  part_is : varint.done r ys ≡ varint.done (Ok (len_of v)) (encode v ++ drop (len_of v) (drop at l))
  part_is =
      let d = length-drop at l in
      q ∙ ap (λ (t : List ℕ). write_varint t v) (rest l at) ∙ written_is (drop at l) v h (omega arith)

  pub len_back : r ≡ Ok (len_of v)
  len_back = ap (λ d. d.out) part_is

  pub put_back : put_mid at (length l - at) l ys ≡ put l at (encode v)
  unfolding put
  put_back =
      let d = length-drop at l in
      let y : ys ≡ encode v ++ drop (at + len_of v) l = ap (λ d. d.mem) part_is ∙ ap (λ (t : List ℕ). encode v ++ t) (drop-drop (len_of v) at l) in
      let z : drop (length l - at) (drop at l) ≡ [] = drop_of_length-le (drop at l) {i = length l - at} (omega arith) in
      rw (z, y, append-nil, length_encode)

-- two writes one after the other are one.
pub put_put : (l xs ys : List ℕ) (at : ℕ) → at + length xs + length ys ≤ length l → put (put l at xs) (at + length xs) ys ≡ put l at (xs ++ ys)
unfolding put
put_put l xs ys at h =
    let a : length (take at l) ≡ at = length-take-le at l (omega arith) in
    let b : length (take at l ++ xs) ≡ at + length xs = simp (length-append, a) in
    let e : take at l ++ (xs ++ drop (at + length xs) l) ≡ (take at l ++ xs) ++ drop (at + length xs) l = sym (append_assoc (take at l) xs (drop (at + length xs) l)) in
    let t : take (at + length xs) ((take at l ++ xs) ++ drop (at + length xs) l) ≡ take at l ++ xs = take_at (take at l ++ xs) (drop (at + length xs) l) (at + length xs) b in
    let d : drop (at + length xs + length ys) ((take at l ++ xs) ++ drop (at + length xs) l) ≡ drop (at + length xs + length ys) l =
    sym (drop-drop (length ys) (at + length xs) ((take at l ++ xs) ++ drop (at + length xs) l)) ∙ ap (drop (length ys)) (drop_at (take at l ++ xs) (drop (at + length xs) l) (at + length xs) b) ∙ drop-drop (length ys) (at + length xs) l in
    let n : at + length (xs ++ ys) ≡ at + length xs + length ys = simp length-append (omega arith) in
    rw (e, t, d, n, append_assoc (take at l) xs (ys ++ drop (at + length xs + length ys) l), append_assoc xs ys (drop (at + length xs + length ys) l))

pub length_put : (l xs : List ℕ) (at : ℕ) → at + length xs ≤ length l → length (put l at xs) ≡ length l
unfolding put
length_put l xs at h = let a : length (take at l) ≡ at = length-take-le at l (omega arith) in simp (length-append, a, length-drop) (omega arith)

pub put_none : (l : List ℕ) (at : ℕ) → put l at [] ≡ l
unfolding put
put_none l at = rw (add-zero at, take-append-drop at l)

pub len_le : (v : ℕ) → len_of v ≤ 8
len_le v =
    ⊎_elim (λ l. rw (log_0 v l) (omega arith))
    (λ g. ⊎_elim (λ l. rw (log_1 v g l) (omega arith))
    (λ g. ⊎_elim (λ l. rw (log_2 v g l) (omega arith)) (λ g. rw (log_3 v g) (omega arith)) (split v 1073741824))
    (split v 16384))
    (split v 64)

-- three writes in a row.
pub put_three : (l : List ℕ) (at a b : ℕ) (r : List ℕ) → at + len_of a + len_of b + length r ≤ length l →
    put (put (put l at (encode a)) (at + len_of a) (encode b)) (at + len_of a + len_of b) r ≡ put l at (encode a ++ (encode b ++ r))
put_three l at a b r h =
    let x = length_encode a in
    let y = length_encode b in
    let z : length (encode b ++ r) ≡ len_of b + length r = simp (length-append, y) in
    let w : length (put l at (encode a)) ≡ length l = length_put l (encode a) at (omega arith) in
    let p : put (put (put l at (encode a)) (at + len_of a) (encode b)) (at + len_of a + len_of b) r ≡ put (put l at (encode a)) (at + len_of a) (encode b ++ r) =
    subst (λ (k : ℕ). put (put (put l at (encode a)) (at + len_of a) (encode b)) (at + len_of a + k) r ≡ put (put l at (encode a)) (at + len_of a) (encode b ++ r)) y
    (put_put (put l at (encode a)) (encode b) r (at + len_of a) (omega arith)) in
    let q : put (put l at (encode a)) (at + len_of a) (encode b ++ r) ≡ put l at (encode a ++ (encode b ++ r)) =
    subst (λ (k : ℕ). put (put l at (encode a)) (at + k) (encode b ++ r) ≡ put l at (encode a ++ (encode b ++ r))) x
    (put_put l (encode a) (encode b ++ r) at (omega arith)) in
    p ∙ q

pub put_turn : (l : List ℕ) (at a b : ℕ) (r : List ℕ) {at1 at2 : ℕ} {l1 l2 : List ℕ} → at + len_of a + len_of b + length r ≤ length l →
    at1 ≡ at + len_of a → l1 ≡ put l at (encode a) → at2 ≡ at1 + len_of b → l2 ≡ put l1 at1 (encode b) → put l2 at2 r ≡ put l at (encode a ++ (encode b ++ r))
put_turn l at a b r h p q s t = cc (put_three l at a b r h)

-- a write behind others is one write with them.
pub put_then : (l xs : List ℕ) (at : ℕ) (ys : List ℕ) {l1 : List ℕ} {at1 : ℕ} → l1 ≡ put l at xs → at1 ≡ at + length xs → at + length xs + length ys ≤ length l → put l1 at1 ys ≡ put l at (xs ++ ys)
put_then l xs at ys p q h = cc (put_put l xs ys at h)

pub put_first : (l : List ℕ) (v : ℕ) → 0 < length l → set l 0 v ≡ put l 0 (v ∷ [])
unfolding put
put_first l v h = set_split l 0 v h

-- one range of the list is one pair of the frame
module _ (l : List ℕ) (low : ℕ) where
  last_is : (n : ℕ) → 0 < n → reverse (read l 0 n) ≡ range_at l (n - 1) ∷ reverse (read l 0 (n - 1))
  last_is n p =
      let m : n ≡ n - 1 + 1 = omega arith in
      ap (λ (k : ℕ). reverse (read l 0 k)) m ∙ highest_first l (n - 1)

  pub ordered_on : (n : ℕ) → 0 < n → Ordered l n low →
      (get_or l ((n - 1) * 2) 0 < get_or l ((n - 1) * 2 + 1) 0) × ((get_or l ((n - 1) * 2 + 1) 0 < low) × Ordered l (n - 1) (get_or l ((n - 1) * 2) 0))
  unfolding Ordered
  ordered_on n p o = subst (Descends low) (last_is n p) o

  pub pairs_on : (n : ℕ) → 0 < n →
      pairs_of l n low ≡ encode (low - get_or l ((n - 1) * 2 + 1) 0 - 1) ++ (encode (get_or l ((n - 1) * 2 + 1) 0 - 1 - get_or l ((n - 1) * 2) 0) ++ pairs_of l (n - 1) (get_or l ((n - 1) * 2) 0))
  unfolding pairs_of encode
  pairs_on n p = ap (λ (rs : List Range). pairs_bytes (pairs_for low rs)) (last_is n p)

  pub size_on : (n : ℕ) → 0 < n →
      length (pairs_of l n low) ≡ len_of (low - get_or l ((n - 1) * 2 + 1) 0 - 1) + (len_of (get_or l ((n - 1) * 2 + 1) 0 - 1 - get_or l ((n - 1) * 2) 0) + length (pairs_of l (n - 1) (get_or l ((n - 1) * 2) 0)))
  size_on n p = ap length (pairs_on n p) ∙ simp (length-append, length_encode)

pub pairs_end : (l : List ℕ) (low n : ℕ) → n ≡ 0 → pairs_of l n low ≡ []
unfolding pairs_of
pairs_end l low n e = rw e

pub pairs_short : (l : List ℕ) (n low : ℕ) → length (pairs_of l n low) ≤ 16 * n
pairs_short l zero low = rw (pairs_end l low 0 refl) (omega arith)
pairs_short l (suc n) low =
    let m : suc n - 1 ≡ n = omega arith in
    let z = rw m at (size_on l low (suc n) (omega arith)) in
    omega (arith, len_le (low - get_or l (n * 2 + 1) 0 - 1), len_le (get_or l (n * 2 + 1) 0 - 1 - get_or l (n * 2) 0), pairs_short l n (get_or l (n * 2) 0))

-- the highest range of a well_formed_law set is in order, and so are those below it
pub top_is : (l : List ℕ) (n : ℕ) → well_formed l (n + 1) ≡ true → (get_or l (n * 2) 0 < get_or l (n * 2 + 1) 0) × ((get_or l (n * 2 + 1) 0 < 2 ^ 62 + 1) × Ordered l n (get_or l (n * 2) 0))
unfolding Ordered
top_is l n w = formed_descends l n w

pub head_length : (largest delay count first : ℕ) → length (head_bytes largest delay count first) ≡ 1 + len_of largest + len_of delay + len_of count + len_of first
unfolding head_bytes
head_length largest delay count first = simp (length-append, length_encode) (omega arith)

-- the frame is its head and its pairs
pub frame_split : (l : List ℕ) (n delay : ℕ) →
    frame_of (reverse (read l 0 (n + 1))) delay
    ≡ head_bytes (get_or l (n * 2 + 1) 0 - 1) delay n (get_or l (n * 2 + 1) 0 - 1 - get_or l (n * 2) 0) ++ pairs_of l n (get_or l (n * 2) 0)
unfolding frame_of head_bytes pairs_of encode
frame_split l n delay = rw (highest_first l n, length_descending l n) (simp append_assoc)

pub frame_length : (l : List ℕ) (n delay : ℕ) →
    length (frame_of (reverse (read l 0 (n + 1))) delay)
    ≡ length (head_bytes (get_or l (n * 2 + 1) 0 - 1) delay n (get_or l (n * 2 + 1) 0 - 1 - get_or l (n * 2) 0)) + length (pairs_of l n (get_or l (n * 2) 0))
frame_length l n delay = ap length (frame_split l n delay) ∙ length-append (head_bytes (get_or l (n * 2 + 1) 0 - 1) delay n (get_or l (n * 2 + 1) 0 - 1 - get_or l (n * 2) 0)) (pairs_of l n (get_or l (n * 2) 0))

-- the five writes of a head
pub head_put : (out : List ℕ) (v1 v2 v3 v4 : ℕ) {o1 o2 o3 : List ℕ} {a b d : ℕ} → length (head_bytes v1 v2 v3 v4) ≤ length out →
    a ≡ 1 + len_of v1 → o1 ≡ put (set out 0 2) 1 (encode v1) →
    b ≡ a + len_of v2 → o2 ≡ put o1 a (encode v2) →
    d ≡ b + len_of v3 → o3 ≡ put o2 b (encode v3) →
    put o3 d (encode v4) ≡ put out 0 (head_bytes v1 v2 v3 v4)
unfolding head_bytes
head_put out v1 v2 v3 v4 {o1} {o2} {o3} {a} {b} {d} h p1 q1 p2 q2 p3 q3 =
    let z = head_length v1 v2 v3 v4 in
    let n1 = length_encode v1 in
    let n2 = length_encode v2 in
    let n3 = length_encode v3 in
    let n4 = length_encode v4 in
    let x0 : List ℕ = 2 ∷ [] in
    let x1 = x0 ++ encode v1 in
    let x2 = x1 ++ encode v2 in
    let x3 = x2 ++ encode v3 in
    let m1 : length x1 ≡ 1 + len_of v1 = simp n1 (omega arith) in
    let m2 : length x2 ≡ 1 + len_of v1 + len_of v2 = simp (length-append, n1, n2) (omega arith) in
    let m3 : length x3 ≡ 1 + len_of v1 + len_of v2 + len_of v3 = simp (length-append, n1, n2, n3) (omega arith) in
    let w1 : o1 ≡ put out 0 x1 = q1 ∙ put_then out x0 0 (encode v1) (put_first out 2 (omega arith)) refl (omega arith) in
    let w2 : o2 ≡ put out 0 x2 = q2 ∙ put_then out x1 0 (encode v2) w1 (omega arith) (omega arith) in
    let w3 : o3 ≡ put out 0 x3 = q3 ∙ put_then out x2 0 (encode v3) w2 (omega arith) (omega arith) in
    let j : x3 ++ encode v4 ≡ head_bytes v1 v2 v3 v4 = simp append_assoc in
    put_then out x3 0 (encode v4) w3 (omega arith) (omega arith) ∙ ap (put out 0) j

-- a test of `!b`
pub no_is_false : (b : Bool) → not b ≡ true → b ≡ false
no_is_false true e = sym e
no_is_false false e = refl

pub yes_is_true : (b : Bool) → not b ≡ false → b ≡ true
yes_is_true true e = refl
yes_is_true false e = sym e

-- what write answers and leaves, in each of its cases
module _ (out l : List ℕ) (count delay : ℕ) where
  pub none_set : count ≡ 0 → done (Err why.Range) out ≡ write_ack out l count delay
  unfolding write_ack
  none_set e = rw e

  module _ (c : 0 < count) where
    pub late : 2 ^ 62 ≤ delay → done (Err why.Range) out ≡ write_ack out l count delay
    unfolding write_ack
    late h = rw (lt-ltb 0 count c, le-ltb delay (2 ^ 62) h)

    module _ (h : delay < 2 ^ 62) where
      pub ill : {b : Bool} → b ≡ well_formed l count → not b ≡ true → done (Err why.Range) out ≡ write_ack out l count delay
      unfolding write_ack
      ill {b} e q = let w : well_formed l count ≡ false = sym e ∙ no_is_false b q in rw (lt-ltb 0 count c, lt-ltb delay (2 ^ 62) h, w)

      module _ (w : well_formed l count ≡ true) where
        pub no_room : length out < length (frame_of (reverse (read l 0 count)) delay) → done (Err why.Room) out ≡ write_ack out l count delay
        unfolding write_ack fitted
        no_room k = rw (lt-ltb 0 count c, lt-ltb delay (2 ^ 62) h, w, lt-leb (length (frame_of (reverse (read l 0 count)) delay)) (length out) k)

        pub all_put : {n : ℕ} {m : List ℕ} → length (frame_of (reverse (read l 0 count)) delay) ≤ length out → n ≡ length (frame_of (reverse (read l 0 count)) delay)
            → m ≡ put out 0 (frame_of (reverse (read l 0 count)) delay) → done (Ok n) m ≡ write_ack out l count delay
        unfolding write_ack fitted put
        all_put k e q =
            let bs = frame_of (reverse (read l 0 count)) delay in
            let y : 0 + length bs ≡ length bs = zero-add (length bs) in
            rw (lt-ltb 0 count c, lt-ltb delay (2 ^ 62) h, w, le-leb (length bs) (length out) k, e, q, y)
