-- The five places hold the map: a list of five is the table of whatever it shows under the five numbers from a on, since these have different places.
-- Assumes nothing.
use mathlib.Core.Path.{◌≡◌, refl, ap, sym, ◌∙◌}
use mathlib.Core.Bool.{Bool, true, false, cond}
use mathlib.Core.Logic.{◌⊎◌, inl, inr, ⊎_elim}
use mathlib.Core.List.{List, map}
use Prim.Native.Nat.{ℕ, zero, suc, ◌+◌, ◌-◌, ◌%◌, ◌≤◌, ◌<◌, min}
use native.Mathlib.Omega.{arith}
use native.Mathlib.Nat.{max-eq_left, max-eq_right}
use lib.Dec.{eqb, ltb}
use lib.ListN.{length, get_or, set, length-set, length-map}
use lib.Seq.{ext_get_or, get_or-set_same, get_or-set_other}
use borrow.Author.Tests.{lt-ltb, le-ltb, le-leb, lt-leb, eq-eqb, ne_eqb, eqb-true, eqb-false}
use Rattle.answers.proofs.Tests.{split}
use Rattle.std.specs.Prelude.{Option, None}
use Rattle.cid_ring.specs.declared.Cid.{Cid}
use Rattle.cid_ring.specs.declared.Ring.{Ring}
use Rattle.cid_ring.specs.Cids.{under, number_at, table, ring_of, retired, put}

-- by what a test says, with that as a fact
pub by : {P : Type 0} (b : Bool) → (b ≡ true → P) → (b ≡ false → P) → P
by true f g = f refl
by false f g = g refl

-- a test does not say both
pub clash : {P : Type 0} (b : Bool) → b ≡ true → b ≡ false → P
clash b e f = let z : ◌≡◌ {A = ℕ} 0 1 = cc in let y : ⊥ = omega arith in absurd y

-- two numbers are equal, or not
pub same : (a b : ℕ) → (a ≡ b) ⊎ (a ≡ b → ⊥)
same a b = by (eqb a b) (λ e. inl (eqb-true a b e)) (λ e. inr (eqb-false a b e))

-- what a parameter's own form says of its five places
pub five : (A B : Type 0) (f : A → B) (l : List A) (n : ℕ) → length (map f l) ≡ n → length l ≡ n
five A B f l n e = sym (length-map l f) ∙ e

pub numbered : (a n : ℕ) → a ≤ n → n < a + 5 → number_at a (n % 5) ≡ n
numbered a n l u = omega arith

pub placed : (a p : ℕ) → p < 5 → number_at a p % 5 ≡ p
placed a p h = omega arith

pub number_from_law : (a p : ℕ) → a ≤ number_at a p
number_from_law a p = omega arith

pub number_below : (a p : ℕ) → number_at a p < a + 5
number_below a p = omega arith

pub table_at : (f : ℕ → Option Cid) (a p : ℕ) → p < 5 → get_or (table f a) p None ≡ f (number_at a p)
table_at f a zero h = refl
table_at f a (suc zero) h = refl
table_at f a (suc (suc zero)) h = refl
table_at f a (suc (suc (suc zero))) h = refl
table_at f a (suc (suc (suc (suc zero)))) h = refl
table_at f a (suc (suc (suc (suc (suc p))))) h = let z : ⊥ = omega arith in absurd z

-- a table shows under each of its numbers what the map has there
pub table_shows : (f : ℕ → Option Cid) (a n : ℕ) → a ≤ n → n < a + 5 → get_or (table f a) (n % 5) None ≡ f n
table_shows f a n l u = table_at f a (n % 5) (omega arith) ∙ ap f (numbered a n l u)

-- five places that show f under the five numbers are its table
pub tabled : (f : ℕ → Option Cid) (a : ℕ) (l : List (Option Cid)) → length l ≡ 5 → ((n : ℕ) → a ≤ n → n < a + 5 → get_or l (n % 5) None ≡ f n) → l ≡ table f a
tabled f a l e h =
    ext_get_or None l (table f a) e
    (λ p k.
    let m : p < 5 = omega arith in
    ap (λ (x : ℕ). get_or l x None) (sym (placed a p m)) ∙ h (number_at a p) (number_from_law a p) (number_below a p) ∙ sym (table_at f a p m))

-- what stands under a number that has a place
pub under_in : (q : Ring) (n : ℕ) → q.offset ≤ n → n < q.offset + 5 → get_or q.slots (n % 5) None ≡ under q n
unfolding under
under_in q n l u = rw (le-leb q.offset n l, lt-ltb n (q.offset + 5) u)

pub under_below : (q : Ring) (n : ℕ) → n < q.offset → None ≡ under q n
unfolding under
under_below q n l = rw (lt-leb q.offset n l)

pub under_past : (q : Ring) (n : ℕ) → q.offset + 5 ≤ n → None ≡ under q n
unfolding under
under_past q n l = let k : q.offset ≤ n = omega arith in rw (le-leb q.offset n k, le-ltb n (q.offset + 5) l)

-- what a queue that was made of a map holds
module _ (f : ℕ → Option Cid) (a n : ℕ) where
  pub ring_in : a ≤ n → n < a + 5 → under (ring_of f a) n ≡ f n
  unfolding ring_of
  ring_in l u = sym (under_in (ring_of f a) n l u) ∙ table_shows f a n l u

  pub ring_below : n < a → under (ring_of f a) n ≡ None
  unfolding ring_of
  ring_below l = sym (under_below (ring_of f a) n l)

  pub ring_past : a + 5 ≤ n → under (ring_of f a) n ≡ None
  unfolding ring_of
  ring_past l = sym (under_past (ring_of f a) n l)

-- the record is the map: a queue of five places is made of what it holds
pub canonical : (q : Ring) → length q.slots ≡ 5 → q ≡ ring_of (under q) q.offset
unfolding ring_of
canonical q e = λ i. record { slots = tabled (under q) q.offset q.slots e (under_in q) i; offset = q.offset }

-- a place written is the number's that has it
pub put_place : (q : Ring) (m : ℕ) (s : Option Cid) → length q.slots ≡ 5 → q.offset ≤ m → m < q.offset + 5
    → ◌≡◌ {A = Ring} (record { slots = set q.slots (m % 5) s; offset = q.offset }) (put q m s)
unfolding ring_of put
put_place q m s e l u =
    λ i.
    record {
      slots = tabled (λ n. cond (eqb n m) s (under q n)) q.offset (set q.slots (m % 5) s) (length-set q.slots (m % 5) s ∙ e) shows i;
      offset = q.offset;
    }
  where
    shows : (n : ℕ) → q.offset ≤ n → n < q.offset + 5 → get_or (set q.slots (m % 5) s) (n % 5) None ≡ cond (eqb n m) s (under q n)
    shows n k v =
        ⊎_elim
        (λ e'. rw (eq-eqb n m e', e') (get_or-set_same q.slots (m % 5) s None (omega arith)))
        (λ d. rw (ne_eqb n m d) (get_or-set_other q.slots (m % 5) (n % 5) s None (λ z. d (omega arith)) ∙ under_in q n k v))
        (same n m)

-- a number with no place changes nothing
pub put_out : (q : Ring) (m : ℕ) (s : Option Cid) → length q.slots ≡ 5 → ((n : ℕ) → q.offset ≤ n → n < q.offset + 5 → n ≡ m → ⊥) → q ≡ put q m s
unfolding ring_of put
put_out q m s e d =
    λ i.
    record {
      slots = tabled (λ n. cond (eqb n m) s (under q n)) q.offset q.slots e (λ n l u. rw (ne_eqb n m (d n l u)) (under_in q n l u)) i;
      offset = q.offset;
    }

-- the places from a on with the numbers below n vacated
abbrev pub below : Ring → ℕ → List (Option Cid)
below q n = table (λ m. cond (ltb m n) None (under q m)) q.offset

pub below_none : (q : Ring) → length q.slots ≡ 5 → q.slots ≡ below q q.offset
below_none q e =
    tabled (λ m. cond (ltb m q.offset) None (under q m)) q.offset q.slots e
    (λ n l u. rw (le-ltb n q.offset l) (under_in q n l u))

pub below_more : (q : Ring) (n : ℕ) → q.offset ≤ n → n < q.offset + 5 → set (below q n) (n % 5) None ≡ below q (n + 1)
below_more q n l u =
    tabled (λ m. cond (ltb m (n + 1)) None (under q m)) q.offset (set (below q n) (n % 5) None) (length-set (below q n) (n % 5) None)
    (λ m k v.
    ⊎_elim
    (λ e.
    let h : m < n + 1 = omega arith in
    let g : n % 5 < 5 = omega arith in
    rw (lt-ltb m (n + 1) h)
    (ap (λ (x : ℕ). get_or (set (below q n) (n % 5) None) (x % 5) None) e ∙ get_or-set_same (below q n) (n % 5) None None g))
    (λ d.
    get_or-set_other (below q n) (n % 5) (m % 5) None None (λ z. d (omega arith))
    ∙ table_shows (λ x. cond (ltb x n) None (under q x)) q.offset m k v
    ∙ ⊎_elim
    (λ h. let g : m < n + 1 = omega arith in rw (lt-ltb m n h, lt-ltb m (n + 1) g))
    (λ h. let g : n + 1 ≤ m = omega (arith, d) in rw (le-ltb m n h, le-ltb m (n + 1) g))
    (split m n))
    (same m n))

-- the first of the five numbers that `to` leaves
abbrev pub past : Ring → ℕ → ℕ
past q to = q.offset + min (to - q.offset) 5

-- and the numbers from `to` on have the same places
pub below_all : (q : Ring) (to : ℕ) → q.offset ≤ to
    → ◌≡◌ {A = Ring} (record { slots = below q (past q to); offset = to }) (retired q to)
unfolding ring_of retired
below_all q to l =
    rw (max-eq_right l)
    (λ i.
    record { slots = tabled (λ n. cond (ltb n to) None (under q n)) to (below q (past q to)) refl shows i; offset = to })
  where
    shows : (n : ℕ) → to ≤ n → n < to + 5 → get_or (below q (past q to)) (n % 5) None ≡ cond (ltb n to) None (under q n)
    shows n k v =
        rw (le-ltb n to k)
        (⊎_elim
        (λ h.
        let g : past q to ≤ n = omega arith in
        table_shows (λ x. cond (ltb x (past q to)) None (under q x)) q.offset n (omega arith) h ∙ rw (le-ltb n (past q to) g))
        (λ h.
        let g : number_at q.offset (n % 5) < past q to = omega arith in
        table_at (λ x. cond (ltb x (past q to)) None (under q x)) q.offset (n % 5) (omega arith)
        ∙ rw (lt-ltb (number_at q.offset (n % 5)) (past q to) g) (under_past q n h))
        (split n (q.offset + 5)))

-- a number that is not above the active one changes nothing
pub retired_none : (q : Ring) (to : ℕ) → length q.slots ≡ 5 → to ≤ q.offset → q ≡ retired q to
unfolding ring_of retired
retired_none q to e l =
    rw (max-eq_left l)
    (λ i.
    record {
      slots = tabled (λ n. cond (ltb n to) None (under q n)) q.offset q.slots e
          (λ n k v. let g : to ≤ n = omega arith in rw (le-ltb n to g) (under_in q n k v)) i;
      offset = q.offset;
    })

-- Each law below is one return's: its premises are the code's tests.
module _ (q : Ring) (m : ℕ) (s : Option Cid) (e : length q.slots ≡ 5) where
  pub put_below : m < q.offset → q ≡ put q m s
  put_below l = put_out q m s e (λ n k v z. omega arith)

  pub put_past : q.offset ≤ m → 5 ≤ m - q.offset → q ≡ put q m s
  put_past l u = put_out q m s e (λ n k v z. omega arith)

  pub put_in : q.offset ≤ m → m - q.offset < 5 → ◌≡◌ {A = Ring} (record { slots = set q.slots (m % 5) s; offset = q.offset }) (put q m s)
  put_in l u = put_place q m s e l (omega arith)

pub ruleset puts = (five, put_below, put_past, put_in)
