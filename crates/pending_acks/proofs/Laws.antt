-- The returns of the two calls: what `range_set` promises of its insert at a limit and of its remove is what is defined here. A number that is
-- there already makes no range more, a drop needs no place more, nor does a removal from the bottom. Assumes nothing.
use mathlib.Core.Path.{◌≡◌, ap, ◌∙◌}
use mathlib.Core.List.{List, [], ◌∷◌}
use Prim.Native.Nat.{ℕ, ◌+◌, ◌/◌, ◌^◌, ◌≤◌, ◌<◌}
use native.Mathlib.Omega.{arith}
use lib.ListN.{length}
use lib.Dec.{leb}
use borrow.Author.Tests.{leb-false, lt-ltb, le-ltb, le-leb, lt-leb}
use Rattle.range_list.specs.Ranges.{Range, read, well_formed}
use Rattle.range_list.proofs.Sound.{by_bool, formed}
use Rattle.range_list.proofs.Laws.{length_read}
use Rattle.range_edit.specs.declared.Changed.{Changed}
use Rattle.range_edit.specs.Edits.{insert, covers, remove, meets, done, insert_into, remove_from}
use Rattle.std.specs.Prelude.{Result, Ok, Err}
use Rattle.answers.specs.declared.Refusal.{Refusal}
use Rattle.answers.specs.declared.Refusal.TheVariants.{Range as OutOfRange}
use Rattle.range_set.specs.declared.Capped.{Capped}
use Rattle.pending_acks.specs.declared.Recorded.{Recorded}
use Rattle.range_set.specs.Set.{Cap, cap, lowest_out, cappable, insert_capped, valid, on_range, remove_range}
use Rattle.range_set.proofs.AtLimit.{insert_length}
use Rattle.range_edit.proofs.Changes.{covered_same}
use Rattle.pending_acks.specs.Acks.{Left, left, drop_lowest, usable, insert_one, subtract_below}
use Rattle.pending_acks.proofs.Sets.{remove_length, Usable, is_usable}

-- what `range_set` says, in our words
abbrev said_of : Result Capped Refusal → Result Recorded Refusal
said_of (Ok r) = Ok (record { count = r.count; new = r.changed; dropped = r.dropped })
said_of (Err why) = Err why

abbrev said : Cap → Left
said c = left (said_of c.out) c.mem

-- the lowest of 65 ranges goes, and the list has places for the rest
drop_is : (l : List ℕ) (n : ℕ) → n ≤ length l / 2 → (qs : List Range) → length qs ≤ n + 1 → 0 < length qs → said (lowest_out qs l) ≡ drop_lowest qs l
drop_is l n room [] e p = absurd (omega arith)
drop_is l n room (r ∷ rs) e p = rw (le-leb (length rs) (length l / 2) (omega arith))

module _ (l : List ℕ) (n x : ℕ) where
  abbrev with : List Range
  with = insert x (x + 1) (read l 0 n)

  capped_is : said (insert_capped l n x 64) ≡ insert_one l n x
  unfolding insert_capped cappable insert_into insert_one
  capped_is =
      by_bool (usable l n x)
      (λ t.
      let g : Usable l n x = is_usable l n x t in
      let w = formed l n g.formed in
      let a = insert_length x (x + 1) (read l 0 n) in
      let b = length_read l 0 n in
      by_bool (covers x (x + 1) (read l 0 n))
      (λ u.
      let e : length with ≡ length (read l 0 n) = ap length (covered_same x (x + 1) (read l 0 n) (omega arith) (omega (arith, g.number)) w.sound u) in
      rw (t, u, le-leb (length with) 64 (omega (arith, g.few))))
      (λ u.
      by_bool (leb (length with) 64)
      (λ v. by_bool (leb (length with) (length l / 2)) (λ z. rw (t, u, v, z)) (λ z. rw (t, u, v, z)))
      (λ v. rw (t, u, v) (drop_is l n w.room with (omega arith) (omega (arith, leb-false (length with) 64 v))))))
      (λ t. rw t)

  -- `insert_one`
  pub says_insert : {r : Capped} {m : List ℕ} → cap (Ok r) m ≡ insert_capped l n x 64
      → left (Ok (record { count = r.count; new = r.changed; dropped = r.dropped })) m ≡ insert_one l n x
  says_insert e = ap said e ∙ capped_is

  pub says_refused : {why : Refusal} {m : List ℕ} → cap (Err why) m ≡ insert_capped l n x 64 → left (Err why) m ≡ insert_one l n x
  says_refused e = ap said e ∙ capped_is

  -- `subtract_below`
  pub says_far : 2 ^ 62 ≤ x → done (Err OutOfRange) l ≡ subtract_below l n x
  unfolding subtract_below
  says_far k = rw (le-ltb x (2 ^ 62) k)

  pub says_many : x < 2 ^ 62 → 64 < n → done (Err OutOfRange) l ≡ subtract_below l n x
  unfolding subtract_below
  says_many k j = rw (lt-ltb x (2 ^ 62) k, lt-leb n 64 j)

  removed_is : x < 2 ^ 62 → n ≤ 64 → remove_range l n 0 (x + 1) ≡ subtract_below l n x
  unfolding on_range valid remove_from subtract_below
  removed_is k j =
      by_bool (well_formed l n)
      (λ t.
      let w = formed l n t in
      let f : length (remove 0 (x + 1) (read l 0 n)) ≤ length l / 2 = omega (arith, remove_length (x + 1) (read l 0 n), length_read l 0 n, w.room) in
      by_bool (meets 0 (x + 1) (read l 0 n))
      (λ u. simp (lt-ltb x (2 ^ 62) k, le-leb n 64 j, le-leb (x + 1) (2 ^ 62) (omega arith), t, lt-ltb 0 (x + 1) (omega arith), u, le-leb _ _ f))
      (λ u. simp (lt-ltb x (2 ^ 62) k, le-leb n 64 j, le-leb (x + 1) (2 ^ 62) (omega arith), t, lt-ltb 0 (x + 1) (omega arith), u)))
      (λ t. simp (lt-ltb x (2 ^ 62) k, le-leb n 64 j, le-leb (x + 1) (2 ^ 62) (omega arith), t))

  pub says_removed : x < 2 ^ 62 → n ≤ 64 → {r : Result Changed Refusal} {m : List ℕ} → done r m ≡ remove_range l n 0 (x + 1) → done r m ≡ subtract_below l n x
  says_removed k j e = e ∙ removed_is k j

pub ruleset says = (says_insert, says_refused, says_far, says_many, says_removed)
