-- What the definitions of the two calls come to by cases, and what the range set's laws say of the sizes: an insert adds one range at most, and a
-- removal from the bottom adds none, as it splits none. By recursion on the list of ranges. Assumes nothing.
use mathlib.Core.Path.{◌≡◌, refl, ap}
use mathlib.Core.Bool.{true, false, ◌&&◌}
use mathlib.Core.List.{List, [], ◌∷◌}
use Prim.Native.Nat.{ℕ, ◌+◌, ◌/◌, ◌^◌, ◌≤◌, ◌<◌, min, max}
use native.Mathlib.Omega.{arith}
use lib.ListN.{length}
use lib.Dec.{ltb, leb}
use borrow.Author.Tests.{ltb-true, leb-true, leb-false, le-ltb}
use Rattle.std.specs.Prelude.{Ok, Err, Option, Some, None}
use Rattle.answers.specs.declared.Refusal.TheVariants.{Range as OutOfRange, Full}
use Rattle.range_set.specs.declared.Span.{Span}
use Rattle.range_list.specs.Ranges.{Range, read, flat, over, well_formed}
use Rattle.range_list.proofs.Sound.{by_bool, both}
use Rattle.range_list.proofs.Laws.{length_read}
use Rattle.range_edit.specs.Edits.{insert, covers, remove, meets, piece, Done, done}
use Rattle.range_set.proofs.AtLimit.{insert_length}
use Rattle.pending_acks.specs.Acks.{Left, left, refuse, stay, put, drop_lowest, insert_one, subtract_below, usable}

piece_length : (a b : ℕ) (rs : List Range) → length (piece a b rs) ≤ length rs + 1
piece_length a b rs = by_bool (ltb a b) (λ t. rw t (omega arith)) (λ t. rw t (omega arith))

-- nothing lies below 0
piece_none : (a b : ℕ) (rs : List Range) → piece a (min 0 b) rs ≡ rs
piece_none a b rs = rw (le-ltb a (min 0 b) (omega arith))

pub remove_length : (e : ℕ) (rs : List Range) → length (remove 0 e rs) ≤ length rs
remove_length e [] = omega arith
remove_length e (r ∷ rs) =
    let k = piece_length (max e r.lo) r.hi (remove 0 e rs) in
    rw (piece_none r.lo r.hi (piece (max e r.lo) r.hi (remove 0 e rs))) (omega (arith, remove_length e rs))

-- what the test of a number and a list shows
pub record Usable (l : List ℕ) (n x : ℕ) : Type 0 where
  pub number : x < 2 ^ 62
  pub few : n ≤ 64
  pub formed : well_formed l n ≡ true

pub is_usable : (l : List ℕ) (n x : ℕ) → usable l n x ≡ true → Usable l n x
is_usable l n x t =
    let p = both (ltb x (2 ^ 62)) (leb n 64 && well_formed l n) t in
    let q = both (leb n 64) (well_formed l n) p.1 in
    record { number = ltb-true x (2 ^ 62) p.0; few = leb-true n 64 q.0; formed = q.1 }

-- the outcome with the set rs, where d was dropped
abbrev pub putting : List Range → Option Span → List ℕ → Left
putting rs d l = left (Ok (record { count = length rs; new = true; dropped = d })) (over (flat rs) l)

module _ (l : List ℕ) (n x : ℕ) (P : Left → Type 0) (bad : P (refuse OutOfRange l)) (full : P (refuse Full l)) where
  put_cases : (rs : List Range) (d : Option Span) → (length rs ≤ length l / 2 → P (putting rs d l)) → P (put rs d l)
  put_cases rs d f =
      by_bool (leb (length rs) (length l / 2)) (λ u. rw u (f (leb-true (length rs) (length l / 2) u))) (λ u. rw u full)

  abbrev with : List Range
  with = insert x (x + 1) (read l 0 n)

  abbrev pub Dropping : Type 0
  Dropping = (r : Range) (rs : List Range) → with ≡ r ∷ rs → length rs ≡ 64 → length rs ≤ length l / 2 → P (putting rs (Some (record { start = r.lo; end = r.hi })) l)

  drop_cases : n ≤ 64 → Dropping → (qs : List Range) → with ≡ qs → 64 < length qs → P (drop_lowest qs l)
  drop_cases few f [] e k = absurd (omega arith)
  drop_cases few f (r ∷ rs) e k =
      let a = insert_length x (x + 1) (read l 0 n) in
      let b = length_read l 0 n in
      let c : length with ≡ length (r ∷ rs) = ap length e in
      put_cases rs (Some (record { start = r.lo; end = r.hi })) (λ room. f r rs e (omega arith) room)

  -- what `insert_one` comes to: refused, the number there already, put in, or put in with the lowest range dropped
  pub insert_cases : (Usable l n x → covers x (x + 1) (read l 0 n) ≡ true → P (stay l n))
      → (Usable l n x → covers x (x + 1) (read l 0 n) ≡ false → length with ≤ 64 → length with ≤ length l / 2 → P (putting with None l))
      → (Usable l n x → covers x (x + 1) (read l 0 n) ≡ false → Dropping)
      → P (insert_one l n x)
  unfolding insert_one
  insert_cases same fits drops =
      by_bool (usable l n x)
      (λ t.
      let k : Usable l n x = is_usable l n x t in
      by_bool (covers x (x + 1) (read l 0 n))
      (λ u. rw (t, u) (same k u))
      (λ u. by_bool (leb (length with) 64)
      (λ v. rw (t, u, v) (put_cases with None (fits k u (leb-true _ _ v))))
      (λ v. rw (t, u, v) (drop_cases k.few (drops k u) with refl (leb-false _ _ v)))))
      (λ t. rw t bad)

module _ (l : List ℕ) (n x : ℕ) (P : Done → Type 0) (bad : P (done (Err OutOfRange) l)) where
  abbrev without : List Range
  without = remove 0 (x + 1) (read l 0 n)

  -- what `subtract_below` comes to: refused, nothing there to remove, or something removed
  pub below_cases : (Usable l n x → meets 0 (x + 1) (read l 0 n) ≡ false → P (done (Ok (record { count = n; changed = false })) l))
      → (Usable l n x → meets 0 (x + 1) (read l 0 n) ≡ true → P (done (Ok (record { count = length without; changed = true })) (over (flat without) l)))
      → P (subtract_below l n x)
  unfolding subtract_below
  below_cases same goes =
      by_bool (usable l n x)
      (λ t. by_bool (meets 0 (x + 1) (read l 0 n)) (λ u. rw (t, u) (goes (is_usable l n x t) u)) (λ u. rw (t, u) (same (is_usable l n x t) u)))
      (λ t. rw t bad)
