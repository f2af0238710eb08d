-- Reading ranges one by one, and what a splice leaves in memory: both follow by induction on the number of ranges.
-- Assumes nothing.
use mathlib.Core.Path.{◌≡◌, refl, sym, ap, ◌∙◌}
use mathlib.Core.List.{List, [], ◌∷◌, ◌++◌, append_assoc}
use Prim.Native.Nat.{ℕ, zero, suc, ◌+◌, ◌-◌, ◌*◌, ◌/◌, ◌≤◌, ◌<◌}
use native.Mathlib.Numerals.{add-one}
use native.Mathlib.Nat.{add-zero, sub-zero, zero-add, not-suc-le-zero, le_of_suc-le-suc}
use native.Mathlib.Omega.{arith}
use lib.ListN.{length, take, drop, get_or, set, length-append, length-drop, take-append-drop}
use lib.Seq.{paste, length-paste, drop-cons, set-append_seam, append_snoc, length-take-le, take-append-le, take-take, drop_at, sets, sets-eq, take-add}
use Rattle.range_list.specs.Ranges.{Range, range_at, read, flat, over, splice}

-- the ranges from number i on are range i and those from i + 1 on
pub read_step : (l : List ℕ) (i n : ℕ) → i < n → read l i (n - i) ≡ range_at l i ∷ read l (i + 1) (n - (i + 1))
read_step l i n h =
    let e : n - i ≡ suc (n - (i + 1)) = omega arith in
    rw e

-- from number n on there are none up to n
pub read_end : (l : List ℕ) (i n : ℕ) → n ≤ i → read l i (n - i) ≡ []
read_end l i n h =
    let e : n - i ≡ 0 = omega arith in
    rw e

-- parts of what is read
pub read_take : (l : List ℕ) (i j k : ℕ) → j ≤ k → take j (read l i k) ≡ read l i j
read_take l i zero k h = refl
read_take l i (suc j) zero h = absurd (not-suc-le-zero h)
read_take l i (suc j) (suc k) h = ap (λ (r : List Range). range_at l i ∷ r) (read_take l (i + 1) j k (le_of_suc-le-suc h))

pub read_drop : (l : List ℕ) (i j k : ℕ) → j ≤ k → drop j (read l i k) ≡ read l (i + j) (k - j)
read_drop l i zero k h = (λ t. read l (sym (add-zero i) t) (sym (sub-zero k) t))
read_drop l i (suc j) zero h = absurd (not-suc-le-zero h)
read_drop l i (suc j) (suc k) h =
    let a : i + 1 + j ≡ i + suc j = omega arith in
    let b : k - j ≡ suc k - suc j = omega arith in
    read_drop l (i + 1) j k (le_of_suc-le-suc h) ∙ (λ t. read l (a t) (b t))

pub length_read : (l : List ℕ) (i k : ℕ) → length (read l i k) ≡ k
length_read l i zero = refl
length_read l i (suc k) = ap suc (length_read l (i + 1) k)

pub flat_append : (a b : List Range) → flat (a ++ b) ≡ flat a ++ flat b
flat_append [] b = refl
flat_append (r ∷ a) b = ap (λ (x : List ℕ). r.lo ∷ r.hi ∷ x) (flat_append a b)

pub flat_read : (l : List ℕ) (i k : ℕ) → (i + k) * 2 ≤ length l → flat (read l i k) ≡ take (k * 2) (drop (i * 2) l)
flat_read l i zero h = refl
flat_read l i (suc k) h =
    let a : suc k * 2 ≡ suc (suc (k * 2)) = omega arith in
    let b : suc (i * 2) ≡ i * 2 + 1 = omega arith in
    let d : suc (i * 2 + 1) ≡ (i + 1) * 2 = omega arith in
    let f : drop (i * 2) l ≡ get_or l (i * 2) 0 ∷ get_or l (i * 2 + 1) 0 ∷ drop ((i + 1) * 2) l =
    drop-cons l (i * 2) 0 (omega arith)
    ∙ ap (λ (m : ℕ). get_or l (i * 2) 0 ∷ drop m l) b
    ∙ ap (λ (x : List ℕ). get_or l (i * 2) 0 ∷ x) (drop-cons l (i * 2 + 1) 0 (omega arith))
    ∙ ap (λ (m : ℕ). get_or l (i * 2) 0 ∷ get_or l (i * 2 + 1) 0 ∷ drop m l) d in
    ap (λ (x : List ℕ). get_or l (i * 2) 0 ∷ get_or l (i * 2 + 1) 0 ∷ x) (flat_read l (i + 1) k (omega arith))
    ∙ (λ t. take (sym a t) (sym f t))

-- The numbers of a splice: a part of l moves to make room for m, which is then stored. Nothing after what is written changes
pub splice_flat : (l m : List ℕ) (a b k : ℕ) → a ≤ b → b + k ≤ length l → a + length m + k ≤ length l
    → sets (paste l (a + length m) (drop b l) k) a m ≡ over (take a l ++ m ++ take k (drop b l)) l
splice_flat l m a b k h p q =
    let t : List ℕ = take k (drop b l) in
    let d : List ℕ = drop (a + length m + k) l in
    let lt : length t ≡ k = length-take-le k (drop b l) (simp length-drop (omega arith)) in
    let la : length (take a l) ≡ a = length-take-le a l (omega arith) in
    let lam : length (take (a + length m) l) ≡ a + length m = length-take-le (a + length m) l (omega arith) in
    let lp : length (paste l (a + length m) (drop b l) k) ≡ length l = length-paste l (a + length m) (drop b l) k q (simp length-drop (omega arith)) in
    let ln : length (take a l ++ m ++ t) ≡ a + length m + k = simp (length-append, la, lt) in
    let e1 : take a (paste l (a + length m) (drop b l) k) ≡ take a l =
    take-append-le a (take (a + length m) l ++ t) d (simp (length-append, lam) (omega arith))
    ∙ take-append-le a (take (a + length m) l) t (omega arith)
    ∙ take-take a (a + length m) l (omega arith) in
    let e2 : drop (a + length m) (paste l (a + length m) (drop b l) k) ≡ t ++ d =
    ap (drop (a + length m)) (append_assoc (take (a + length m) l) t d)
    ∙ drop_at (take (a + length m) l) (t ++ d) (a + length m) lam in
    sets-eq m (paste l (a + length m) (drop b l) k) a (omega arith)
    ∙ (λ j. e1 j ++ m ++ e2 j)
    ∙ sym (append_assoc (take a l ++ m) t d)
    ∙ ap (λ (x : ℕ). take a l ++ m ++ t ++ drop x l) (sym ln)

-- the numbers of a spliced list of ranges
pub flat_splice : (l : List ℕ) (n lo hi : ℕ) (mid : List Range) → lo ≤ hi → hi ≤ n → n ≤ length l / 2
    → take (lo * 2) l ++ flat mid ++ take ((n - hi) * 2) (drop (hi * 2) l) ≡ flat (splice (read l 0 n) lo hi mid)
flat_splice l n lo hi mid h p q =
    let a : flat (take lo (read l 0 n)) ≡ take (lo * 2) l = ap flat (read_take l 0 lo n (omega arith)) ∙ flat_read l 0 lo (omega arith) in
    let b : flat (drop hi (read l 0 n)) ≡ take ((n - hi) * 2) (drop (hi * 2) l) =
    ap flat (read_drop l 0 hi n p ∙ ap (λ (i : ℕ). read l i (n - hi)) (zero-add hi)) ∙ flat_read l hi (n - hi) (omega arith) in
    sym (flat_append (take lo (read l 0 n) ++ mid) (drop hi (read l 0 n)) ∙ (λ j. flat_append (take lo (read l 0 n)) mid j ++ b j) ∙ (λ j. a j ++ flat mid ++ take ((n - hi) * 2) (drop (hi * 2) l)))

-- what `splice_one` leaves
pub splice_one_is : (l now : List ℕ) (n lo hi a b : ℕ) → lo ≤ hi → hi ≤ n → n ≤ length l / 2 → lo + 1 + (n - hi) ≤ length l / 2
    → now ≡ paste l (lo * 2 + 2) (drop (hi * 2) l) ((n - hi) * 2)
    → set (set now (lo * 2) a) (lo * 2 + 1) b ≡ over (flat (splice (read l 0 n) lo hi (record { lo = a; hi = b } ∷ []))) l
splice_one_is l now n lo hi a b h p q r e =
    (λ j. set (set (e j) (lo * 2) a) (add-one (lo * 2) j) b)
    ∙ splice_flat l (a ∷ b ∷ []) (lo * 2) (hi * 2) ((n - hi) * 2) (omega arith) (omega arith) (omega arith)
    ∙ ap (λ (x : List ℕ). over x l) (flat_splice l n lo hi (record { lo = a; hi = b } ∷ []) h p q)

pub splice_none_is : (l : List ℕ) (n lo hi : ℕ) → lo ≤ hi → hi ≤ n → n ≤ length l / 2
    → paste l (lo * 2) (drop (hi * 2) l) ((n - hi) * 2) ≡ over (flat (splice (read l 0 n) lo hi [])) l
splice_none_is l n lo hi h p q =
    ap (λ (x : ℕ). paste l x (drop (hi * 2) l) ((n - hi) * 2)) (sym (add-zero (lo * 2)))
    ∙ splice_flat l [] (lo * 2) (hi * 2) ((n - hi) * 2) (omega arith) (omega arith) (omega arith)
    ∙ ap (λ (x : List ℕ). over x l) (flat_splice l n lo hi [] h p q)

pub splice_two_is : (l now : List ℕ) (n lo hi a b x y : ℕ) → lo ≤ hi → hi ≤ n → n ≤ length l / 2 → lo + 2 + (n - hi) ≤ length l / 2
    → now ≡ paste l (lo * 2 + 4) (drop (hi * 2) l) ((n - hi) * 2)
    → set (set (set (set now (lo * 2) a) (lo * 2 + 1) b) (lo * 2 + 2) x) (lo * 2 + 3) y ≡ over (flat (splice (read l 0 n) lo hi (record { lo = a; hi = b } ∷ record { lo = x; hi = y } ∷ []))) l
splice_two_is l now n lo hi a b x y h p q r e =
    let k1 : lo * 2 + 1 ≡ suc (lo * 2) = omega arith in
    let k2 : lo * 2 + 2 ≡ suc (suc (lo * 2)) = omega arith in
    let k3 : lo * 2 + 3 ≡ suc (suc (suc (lo * 2))) = omega arith in
    (λ j. set (set (set (set (e j) (lo * 2) a) (k1 j) b) (k2 j) x) (k3 j) y)
    ∙ splice_flat l (a ∷ b ∷ x ∷ y ∷ []) (lo * 2) (hi * 2) ((n - hi) * 2) (omega arith) (omega arith) (omega arith)
    ∙ ap (λ (z : List ℕ). over z l) (flat_splice l n lo hi (record { lo = a; hi = b } ∷ record { lo = x; hi = y } ∷ []) h p q)

-- a list that is written from its front: one more number
pub over_put : (xs m : List ℕ) (a : ℕ) → length xs < length m → set (over xs m) (length xs) a ≡ over (xs ++ (a ∷ [])) m
over_put xs m a h =
    let n : length (xs ++ (a ∷ [])) ≡ suc (length xs) = length-append xs (a ∷ []) ∙ add-one (length xs) in
    ap (λ (d : List ℕ). set (xs ++ d) (length xs) a) (drop-cons m (length xs) 0 h)
    ∙ set-append_seam xs (get_or m (length xs) 0) (drop (suc (length xs)) m) a
    ∙ sym (append_snoc xs a (drop (suc (length xs)) m))
    ∙ ap (λ (k : ℕ). xs ++ (a ∷ []) ++ drop k m) (sym n)

pub length_flat : (rs : List Range) → length (flat rs) ≡ length rs * 2
length_flat [] = refl
length_flat (r ∷ rs) = let e : length (flat rs) ≡ length rs * 2 = length_flat rs in omega arith

-- one more range, at range number k
pub over_range : (rs : List Range) (m now : List ℕ) (k a b : ℕ) → length rs ≡ k → k < length m / 2 → now ≡ over (flat rs) m
    → set (set now (k * 2) a) (k * 2 + 1) b ≡ over (flat (rs ++ (record { lo = a; hi = b } ∷ []))) m
over_range rs m now k a b e h q =
    let l : length (flat rs) ≡ k * 2 = length_flat rs ∙ ap (λ (n : ℕ). n * 2) e in
    let n : length (flat rs ++ (a ∷ [])) ≡ k * 2 + 1 = length-append (flat rs) (a ∷ []) ∙ ap (λ (n : ℕ). n + 1) l in
    (λ i. set (set (q i) (sym l i) a) (sym n i) b)
    ∙ ap (λ (z : List ℕ). set z (length (flat rs ++ (a ∷ []))) b) (over_put (flat rs) m a (omega arith))
    ∙ over_put (flat rs ++ (a ∷ [])) m b (omega arith)
    ∙ ap (λ (z : List ℕ). over z m) (append_assoc (flat rs) (a ∷ []) (b ∷ []) ∙ sym (flat_append rs (record { lo = a; hi = b } ∷ [])))

pub read_snoc : (l : List ℕ) (i k : ℕ) → read l i (k + 1) ≡ read l i k ++ (range_at l (i + k) ∷ [])
read_snoc l i k = ap (read l i) (add-one k) ∙ go l i k
  where
    go : (l : List ℕ) (i k : ℕ) → read l i (suc k) ≡ read l i k ++ (range_at l (i + k) ∷ [])
    go l i zero = ap (λ (j : ℕ). range_at l j ∷ []) (sym (add-zero i))
    go l i (suc k) =
        let e : i + 1 + k ≡ i + suc k = omega arith in
        ap (λ (x : List Range). range_at l i ∷ x) (go l (i + 1) k ∙ ap (λ (j : ℕ). read l (i + 1) k ++ (range_at l j ∷ [])) e)

-- range number m of what is read
pub read_at : (l : List ℕ) (i k m : ℕ) (d : Range) → m < k → get_or (read l i k) m d ≡ range_at l (i + m)
read_at l i zero m d h = absurd (not-suc-le-zero h)
read_at l i (suc k) zero d h = ap (range_at l) (sym (add-zero i))
read_at l i (suc k) (suc m) d h =
    let e : i + 1 + m ≡ i + suc m = omega arith in
    read_at l (i + 1) k m d (le_of_suc-le-suc h) ∙ ap (range_at l) e

-- a part that moves to where it stands
pub paste_same : (l : List ℕ) (at n : ℕ) → paste l at (drop at l) n ≡ l
paste_same l at n = ap (λ (r : List ℕ). r ++ drop (at + n) l) (sym (take-add at n l)) ∙ take-append-drop (at + n) l
