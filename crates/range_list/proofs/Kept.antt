-- What is written is read back, and one list written over another: `over` keeps what lies past it.
-- Assumes nothing.
use mathlib.Core.Path.{◌≡◌, refl, sym, ap, ◌∙◌}
use mathlib.Core.Bool.{Bool, true}
use mathlib.Core.List.{List, [], ◌∷◌, ◌++◌, append_assoc}
use Prim.Native.Nat.{ℕ, zero, suc, ◌+◌, ◌-◌, ◌*◌, ◌/◌, ◌≤◌}
use native.Mathlib.Omega.{arith}
use lib.ListN.{length, take, drop, get_or, length-append, length-drop, take-append-drop}
use lib.Seq.{get_or_at, get_or-append-add, get_or-drop, drop-drop, drop-append-add}
use borrow.Author.Tests.{le-leb}
use Rattle.range_list.specs.Ranges.{Range, read, flat, over, sound, well_formed}
use Rattle.range_list.proofs.Laws.{length_flat, flat_read, length_read}

pub well_formed_is : (l : List ℕ) (n : ℕ) (b : Bool) → n ≤ length l / 2 → sound 0 (read l 0 n) ≡ b → b ≡ well_formed l n
well_formed_is l n b h e = simp (le-leb _ _ h) (sym e)

read_flat : (pre : List ℕ) (rs : List Range) (post : List ℕ) (i : ℕ) → length pre ≡ i * 2 → read (pre ++ (flat rs ++ post)) i (length rs) ≡ rs
read_flat pre [] post i h = refl
read_flat pre (r ∷ rs) post i h =
    let rest = flat rs ++ post in
    let k : length (pre ++ (r.lo ∷ [])) ≡ i * 2 + 1 = simp length-append (omega arith) in
    let k2 : length (pre ++ (r.lo ∷ r.hi ∷ [])) ≡ (i + 1) * 2 = simp length-append (omega arith) in
    let a : get_or (pre ++ (r.lo ∷ r.hi ∷ rest)) (i * 2) 0 ≡ r.lo = get_or_at pre r.lo (r.hi ∷ rest) 0 (i * 2) h in
    let b : get_or (pre ++ (r.lo ∷ r.hi ∷ rest)) (i * 2 + 1) 0 ≡ r.hi =
    ap (λ (z : List ℕ). get_or z (i * 2 + 1) 0) (sym (append_assoc pre (r.lo ∷ []) (r.hi ∷ rest)))
    ∙ get_or_at (pre ++ (r.lo ∷ [])) r.hi rest 0 (i * 2 + 1) k in
    let c : read (pre ++ (r.lo ∷ r.hi ∷ rest)) (i + 1) (length rs) ≡ rs =
    ap (λ (z : List ℕ). read z (i + 1) (length rs)) (sym (append_assoc pre (r.lo ∷ r.hi ∷ []) rest))
    ∙ read_flat (pre ++ (r.lo ∷ r.hi ∷ [])) rs post (i + 1) k2 in
    (λ j. record { lo = a j; hi = b j } ∷ c j)

pub read_over : (rs : List Range) (l : List ℕ) → read (over (flat rs) l) 0 (length rs) ≡ rs
read_over rs l = read_flat [] rs (drop (length (flat rs)) l) 0 refl

pub formed_over : (rs : List Range) (l : List ℕ) → length rs ≤ length l / 2 → sound 0 rs ≡ true → well_formed (over (flat rs) l) (length rs) ≡ true
formed_over rs l h q =
    let k : length (over (flat rs) l) ≡ length (flat rs) + (length l - length (flat rs)) = simp (length-append, length-drop) in
    sym (well_formed_is (over (flat rs) l) (length rs) true (omega (arith, length_flat rs)) (ap (sound 0) (read_over rs l) ∙ q))

-- a longer list over a shorter one leaves what the longer one alone leaves
pub over_over : (new mid old : List ℕ) → length mid ≤ length new → over new (over mid old) ≡ over new old
over_over new mid old h =
    let k : length new ≡ length mid + (length new - length mid) = omega arith in
    ap (λ (x : List ℕ). new ++ x)
    (ap (λ (n : ℕ). drop n (over mid old)) k ∙ drop-append-add mid (drop (length mid) old) (length new - length mid)
    ∙ drop-drop (length new - length mid) (length mid) old ∙ ap (λ (n : ℕ). drop n old) (sym k))

-- a list over itself changes nothing
pub over_same : (l : List ℕ) (n : ℕ) → n ≤ length l / 2 → over (flat (read l 0 n)) l ≡ l
over_same l n h =
    let e : flat (read l 0 n) ≡ take (n * 2) l = flat_read l 0 n (omega arith) in
    let k : length (flat (read l 0 n)) ≡ n * 2 = length_flat (read l 0 n) ∙ ap (λ (m : ℕ). m * 2) (length_read l 0 n) in
    (λ j. e j ++ drop (k j) l) ∙ take-append-drop (n * 2) l

-- past what was written the old numbers are read, and the old ranges
pub get_d_past : (new old : List ℕ) (m : ℕ) → length new ≤ m → get_or (over new old) m 0 ≡ get_or old m 0
get_d_past new old m g =
    let e : m ≡ length new + (m - length new) = omega arith in
    ap (λ (n : ℕ). get_or (over new old) n 0) e ∙ get_or-append-add new (drop (length new) old) (m - length new) 0
    ∙ get_or-drop (length new) old (m - length new) 0 ∙ ap (λ (n : ℕ). get_or old n 0) (sym e)

pub read_past : (new old : List ℕ) (i k : ℕ) → length new ≤ i * 2 → read (over new old) i k ≡ read old i k
read_past new old i zero h = refl
read_past new old i (suc k) h =
    (λ j. record { lo = get_d_past new old (i * 2) h j; hi = get_d_past new old (i * 2 + 1) (omega arith) j } ∷ read_past new old (i + 1) k (omega arith) j)

pub length_over : (rs : List Range) (l : List ℕ) → length rs ≤ length l / 2 → length (over (flat rs) l) ≡ length l
length_over rs l h = simp (length-append, length-drop, length_flat) (omega arith)
