-- A refusal leaves the lists and the count as they were (docs/EVENTS.md), whatever the event, by the definitions of specs/Sets.antt: each call of the
-- libraries either answers OK or leaves its list. So rs.new, too, is all or nothing. Assumes nothing.
use mathlib.Core.Path.{◌≡◌, refl}
use mathlib.Core.Bool.{Bool, true, false, cond, ◌&&◌}
use mathlib.Core.List.{List, [], ◌∷◌}
use Prim.Native.Nat.{ℕ, ◌+◌, ◌/◌}
use lib.ListN.{length, get_or}
use lib.Dec.{eqb, ltb, leb}
use Prim.{tt}
use Rattle.std.specs.Prelude.{Result, Ok, Err, Option, Some, None, OnErr}
use Rattle.answers.specs.Answers.{OK}
use Rattle.answers.specs.declared.Refusal.{Refusal}
use Rattle.answers.specs.declared.Refusal.TheVariants.{Range as OutOfRange, Full}
use Rattle.codes.specs.Codes.{PA_NEW, PA_INSERT, RS_ONE, RS_INSERT, RS_REMOVE, RS_REPLACE, RS_POP, RS_ADD, RS_SUB, RS_CONTAINS, RS_MIN, RS_MAX}
use Rattle.range_list.specs.Ranges.{Range, read, well_formed}
use Rattle.range_edit.specs.Edits as edits
use Rattle.range_edit.specs.Edits.{settle, insert, remove, covers, meets, within, insert_into, remove_from, replace_in}
use Rattle.range_edit.specs.declared.Changed.{Changed}
use Rattle.range_edit.specs.declared.Replaced.{Replaced}
use Rattle.range_many.specs.declared.Way.{Way}
use Rattle.range_many.specs.declared.Way.TheVariants.{PutIn, TakeOut}
use Rattle.range_many.specs.Many.{edit_all, idle_all, merge_into}
use Rattle.range_set.specs.Set.{valid, on_range, on_sets, insert_range, remove_range, replace_range, add_set, subtract_set, least, greatest, bound_of, size_of, held_of, Pop, pop_first, pop_min}
use Rattle.range_set.specs.declared.Popped.{Popped}
use Rattle.range_set.specs.declared.Span.{Span}
use Rattle.pending_acks.specs.declared.Recorded.{Recorded}
use Rattle.pending_acks.specs.Acks.{MAX_ACK_BLOCKS, usable, Left, put, drop_lowest, keep, insert_one, subtract_below}
use Rattle.said.specs.Said.{bit_of}
use Rattle.drive_sets.specs.declared.Did.{Did}
use Rattle.drive_sets.specs.Sets.{Done, done, record_of, ok_map, as_changed, recorded, told_of, subtracted, Both, both, beside, changes, popped_of, popped, value_of, ask_of, edit_of, replaced_of, replaced, set_of, filled, became_of, taken, renewed, renew_of}

-- both ways of a test
either : {A : Type 0} (P : A → Type 0) (b : Bool) {x y : A} → P x → P y → P (cond b x y)
either P true p q = p
either P false p q = q

-- an answer other than OK
abbrev Refused : ℕ → Type 0
Refused a = a ≡ OK → ⊥

-- ---- the libraries' calls: OK, or the lists are as they were
record Still (l : List ℕ) (d : edits.Done) : Type 0 where
  same : OnErr d.out (d.mem ≡ l)

record StillPop (l : List ℕ) (d : Pop) : Type 0 where
  same : OnErr d.out (d.mem ≡ l)

record StillLeft (l : List ℕ) (d : Left) : Type 0 where
  same : OnErr d.out (d.mem ≡ l)

record StillBoth (l m : List ℕ) (d : edits.Both) : Type 0 where
  same : OnErr d.out ((d.mem ≡ l) × (d.parts ≡ m))

module _ (l : List ℕ) where
  stays : (n : ℕ) → Still l (edits.stay l n)
  stays n = record { same = tt }

  refuses : (why : Refusal) → Still l (edits.refuse why l)
  refuses why = record { same = refl }

  settled : (rs : List Range) → Still l (settle rs l)
  settled rs = either (Still l) (leb (length rs) (length l / 2)) (record { same = tt }) (refuses Full)

  on_range_law : (n s e : ℕ) (d : edits.Done) → Still l d → Still l (on_range l n s e d)
  unfolding on_range
  on_range_law n s e d k = either (Still l) (valid l n s e) (either (Still l) (ltb s e) k (stays n)) (refuses OutOfRange)

  put_in : (n s e : ℕ) → Still l (insert_into l n s e)
  unfolding insert_into
  put_in n s e = either (Still l) (covers s e (read l 0 n)) (stays n) (settled (insert s e (read l 0 n)))

  taken_out : (n s e : ℕ) → Still l (remove_from l n s e)
  unfolding remove_from
  taken_out n s e = either (Still l) (meets s e (read l 0 n)) (settled (remove s e (read l 0 n))) (stays n)

  merged : (way : Way) (n : ℕ) (o : List ℕ) (k : ℕ) → Still l (on_sets l n o k (merge_into way l n (read o 0 k)))
  unfolding on_sets merge_into
  merged way n o k =
      either (Still l) (well_formed l n && well_formed o k)
      (either (Still l) (idle_all way (read l 0 n) (read o 0 k)) (stays n) (settled (edit_all way (read l 0 n) (read o 0 k))))
      (refuses OutOfRange)

  first_out : (rs : List Range) → StillPop l (pop_first rs l)
  first_out [] = record { same = refl }
  first_out (r ∷ rs) = record { same = tt }

  pop_still : (n : ℕ) → StillPop l (pop_min l n)
  unfolding pop_min
  pop_still n = either (StillPop l) (well_formed l n) (first_out (read l 0 n)) (record { same = refl })

  put_still : (rs : List Range) (d : Option Span) → StillLeft l (put rs d l)
  put_still rs d = either (StillLeft l) (leb (length rs) (length l / 2)) (record { same = tt }) (record { same = refl })

  lowest_out_law : (rs : List Range) → StillLeft l (drop_lowest rs l)
  lowest_out_law [] = put_still [] None
  lowest_out_law (r ∷ rs) = put_still rs (Some (record { start = r.lo; end = r.hi }))

  kept : (rs : List Range) → StillLeft l (keep rs l)
  kept rs = either (StillLeft l) (leb (length rs) MAX_ACK_BLOCKS) (put_still rs None) (lowest_out_law rs)

  insert_still : (n x : ℕ) → StillLeft l (insert_one l n x)
  unfolding insert_one
  insert_still n x =
      either (StillLeft l) (usable l n x)
      (either (StillLeft l) (covers x (x + 1) (read l 0 n)) (record { same = tt }) (kept (insert x (x + 1) (read l 0 n))))
      (record { same = refl })

  below_still : (n x : ℕ) → Still l (subtract_below l n x)
  unfolding subtract_below
  below_still n x =
      either (Still l) (usable l n x)
      (either (Still l) (meets 0 (x + 1) (read l 0 n)) (record { same = tt }) (record { same = tt }))
      (record { same = refl })

  replace_still : (n s e : ℕ) (m : List ℕ) → StillBoth l m (replace_range l n s e m)
  unfolding replace_range replace_in
  replace_still n s e m =
      let rs = insert s e (read l 0 n) in
      let ps = within s e (read l 0 n) in
      either (StillBoth l m) (valid l n s e)
      (either (StillBoth l m) (ltb s e)
      (either (StillBoth l m) (leb (length rs) (length l / 2) && leb (length ps) (length m / 2)) (record { same = tt }) (record { same = (refl, refl) }))
      (record { same = tt }))
      (record { same = (refl, refl) })

-- ---- the events

-- what was refused left the list l and the count n
pub record Keeps (l : List ℕ) (n : ℕ) (d : Done) : Type 0 where
  pub same : Refused d.out.said.answer → (d.out.count ≡ n) × (d.mem ≡ l)

-- and the second list m
pub record KeepsBoth (l : List ℕ) (n : ℕ) (m : List ℕ) (d : Both) : Type 0 where
  pub same : Refused d.out.said.answer → (d.out.count ≡ n) × ((d.mem ≡ l) × (d.second ≡ m))

-- of a result: an Ok is no refusal, and an Err left the list
module _ (l : List ℕ) (n : ℕ) (m : List ℕ) where
  recorded_of_keeps : (r : Result Recorded Refusal) → OnErr r (m ≡ l) → Keeps l n (done (told_of (ok_map as_changed r) n) m)
  recorded_of_keeps (Ok r) k = record { same = λ f. absurd (f refl) }
  recorded_of_keeps (Err why) k = record { same = λ f. (refl, k) }

  told_of_keeps : (r : Result Changed Refusal) → OnErr r (m ≡ l) → Keeps l n (done (told_of r n) m)
  told_of_keeps (Ok r) k = record { same = λ f. absurd (f refl) }
  told_of_keeps (Err why) k = record { same = λ f. (refl, k) }

  popped_of_keeps : (r : Result Popped Refusal) → OnErr r (m ≡ l) → Keeps l n (done (popped_of r n) m)
  popped_of_keeps (Ok r) k = record { same = λ f. absurd (f refl) }
  popped_of_keeps (Err why) k = record { same = λ f. (refl, k) }

replaced_of_keeps : (l : List ℕ) (n : ℕ) (m x y : List ℕ) (r : Result Replaced Refusal) → OnErr r ((x ≡ l) × (y ≡ m)) → KeepsBoth l n m (both (replaced_of r n) x y)
replaced_of_keeps l n m x y (Ok r) k = record { same = λ f. absurd (f refl) }
replaced_of_keeps l n m x y (Err why) k = record { same = λ f. (refl, k) }

module _ (l : List ℕ) (n : ℕ) where
  recorded_keeps : (d : Left) → StillLeft l d → Keeps l n (recorded d n)
  recorded_keeps d k = recorded_of_keeps l n d.mem d.out k.same

  subtracted_keeps : (d : edits.Done) → Still l d → Keeps l n (subtracted d n)
  subtracted_keeps d k = told_of_keeps l n d.mem d.out k.same

  changes_keep : (d : edits.Done) → Still l d → Keeps l n (changes d n)
  changes_keep d k = told_of_keeps l n d.mem d.out k.same

  popped_keeps : (d : Pop) → StillPop l d → Keeps l n (popped d n)
  popped_keeps d k = popped_of_keeps l n d.mem d.out k.same

  replaced_keeps : (m : List ℕ) (d : edits.Both) → StillBoth l m d → KeepsBoth l n m (replaced d n)
  replaced_keeps m d k = replaced_of_keeps l n m d.mem d.parts d.out k.same

  beside_keeps : (m : List ℕ) (d : Done) → Keeps l n d → KeepsBoth l n m (beside d m)
  beside_keeps m d k = record { same = λ f. ((k.same f).0, ((k.same f).1, refl)) }

module _ (code : ℕ) (l : List ℕ) (n : ℕ) where
  pub record_keeps : (x : ℕ) → Keeps l n (record_of code x l n)
  unfolding record_of
  record_keeps x =
      either (Keeps l n) (eqb code PA_NEW) (record { same = λ f. absurd (f refl) })
      (either (Keeps l n) (eqb code PA_INSERT) (recorded_keeps l n (insert_one l n x) (insert_still l n x)) (subtracted_keeps l n (subtract_below l n x) (below_still l n x)))

  abbrev Counts : Did → Type 0
  Counts d = d.count ≡ n

  value_counts : (r : Result ℕ Refusal) → Counts (value_of r n)
  value_counts (Ok x) = refl
  value_counts (Err why) = refl

  held_counts : (r : Result Bool Refusal) → Counts (value_of (ok_map bit_of r) n)
  held_counts (Ok is) = refl
  held_counts (Err why) = refl

  ask_keeps : (x : ℕ) → Keeps l n (done (ask_of code x l n) l)
  unfolding ask_of
  ask_keeps x =
      record {
        same = λ f. (
          either Counts (eqb code RS_CONTAINS) (held_counts (held_of l n x))
              (either Counts (eqb code RS_MIN) (value_counts (bound_of l n (least (read l 0 n))))
              (either Counts (eqb code RS_MAX) (value_counts (bound_of l n (greatest (read l 0 n)))) (value_counts (size_of l n)))),
          refl,
        );
      }

  edit_keeps : (a b : ℕ) (ws : List ℕ) (k : ℕ) → Keeps l n (edit_of code a b ws k l n)
  unfolding edit_of
  edit_keeps a b ws k =
      either (Keeps l n) (eqb code RS_ONE) (changes_keep l n (insert_range l n a (a + 1)) (on_range_law l n a (a + 1) (insert_into l n a (a + 1)) (put_in l n a (a + 1))))
      (either (Keeps l n) (eqb code RS_INSERT) (changes_keep l n (insert_range l n a b) (on_range_law l n a b (insert_into l n a b) (put_in l n a b)))
      (either (Keeps l n) (eqb code RS_REMOVE) (changes_keep l n (remove_range l n a b) (on_range_law l n a b (remove_from l n a b) (taken_out l n a b)))
      (either (Keeps l n) (eqb code RS_ADD) (changes_keep l n (add_set l n ws k) (merged l PutIn n ws k))
      (either (Keeps l n) (eqb code RS_SUB) (changes_keep l n (subtract_set l n ws k) (merged l TakeOut n ws k))
      (either (Keeps l n) (eqb code RS_POP) (popped_keeps l n (pop_min l n) (pop_still l n)) (ask_keeps a))))))

  pub set_keeps : (ws : List ℕ) (w : ℕ) (m : List ℕ) → KeepsBoth l n m (set_of code ws w l n m)
  unfolding set_of
  set_keeps ws w m =
      let a = get_or ws 0 0 in
      let b = get_or ws 1 0 in
      either (KeepsBoth l n m) (eqb code RS_REPLACE) (replaced_keeps l n m (replace_range l n a b m) (replace_still l n a b m))
      (beside_keeps l n m (edit_of code a b ws (w / 2) l n) (edit_keeps a b ws (w / 2)))

-- of rs.new the spare list is no part of the state, and may have changed
pub record KeepsFirst (l : List ℕ) (n : ℕ) (d : Both) : Type 0 where
  pub same : Refused d.out.said.answer → (d.out.count ≡ n) × (d.mem ≡ l)

became_of_keeps : (l : List ℕ) (n : ℕ) (x m : List ℕ) (r : Result Changed Refusal) → OnErr r (x ≡ l) → KeepsFirst l n (both (became_of r n) x m)
became_of_keeps l n x m (Ok r) k = record { same = λ f. absurd (f refl) }
became_of_keeps l n x m (Err why) k = record { same = λ f. (refl, k) }

taken_keeps : (l : List ℕ) (n : ℕ) (d : edits.Done) (m : List ℕ) → Still l d → KeepsFirst l n (taken n d m)
taken_keeps l n d m k = became_of_keeps l n d.mem m d.out k.same

made_keeps : (l : List ℕ) (n : ℕ) (r : Result ℕ Refusal) (m : List ℕ) → KeepsFirst l n (renewed l n r m)
made_keeps l n (Ok k) m = taken_keeps l n (add_set l 0 m k) m (merged l PutIn 0 m k)
made_keeps l n (Err why) m = record { same = λ g. (refl, refl) }

pub renew_keeps : (l : List ℕ) (n : ℕ) (ws : List ℕ) (w : ℕ) (m : List ℕ) → KeepsFirst l n (renew_of ws w l n m)
unfolding renew_of
renew_keeps l n ws w m = made_keeps l n (filled (w / 2) ws m 0).out (filled (w / 2) ws m 0).mem
