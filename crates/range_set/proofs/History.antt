-- After any calls on a list that began empty, the list is in good form, and has exactly the numbers that were put in and not taken out since: each call
-- keeps that, and a history is made of what the functions' own contracts allow. And it is the only list in good form with those numbers.
-- Assumes nothing.
use mathlib.Core.Path.{◌≡◌, refl, sym, subst}
use mathlib.Core.Bool.{Bool, true, false, not}
use mathlib.Core.Logic.{◌⊎◌, inl, inr, ⊎_elim}
use mathlib.Core.List.{List, [], ◌∷◌}
use Prim.Native.Nat.{ℕ, ◌+◌, ◌/◌, ◌^◌, ◌≤◌, ◌<◌}
use native.Mathlib.Omega.{arith}
use lib.ListN.{length}
use lib.Dec.{ltb, leb}
use contract.Lifetimes.{Lfts}
use denote.Ref.{Bor, MutBor, at_last}
use borrow.Author.Tests.{ltb-true, ltb-false, leb-true}
use Rattle.range_list.specs.Ranges.{Range, read, flat, over, sound, well_formed, In}
use Rattle.range_list.proofs.Sound.{by_bool, Sound, sound_parts, sound_weaker, formed}
use Rattle.range_list.proofs.Laws.{length_read}
use Rattle.range_list.proofs.Kept.{read_over, formed_over, well_formed_is}
use Rattle.range_list.proofs.Canon.{canonical, in_least}
use Rattle.range_edit.specs.Edits.{insert, covers, remove, meets, within, Done, stay, settle, insert_into, remove_from, Both, settle_both, replace_in}
use Rattle.range_edit.specs.declared.Changed.{Changed}
use Rattle.range_edit.specs.declared.Replaced.{Replaced}
use Rattle.range_edit.proofs.Insert.{insert_to, insert_from, insert_sound}
use Rattle.range_edit.proofs.Remove.{remove_to, remove_from_law, remove_sound}
use Rattle.range_many.specs.Many.{edit_all, idle_all, merge_into}
use Rattle.range_list.proofs.Sound as sounds
use Rattle.range_set.specs.Set.{valid, on_range, on_sets, insert_range, remove_range, replace_range, Pop, pop_first, pop_min, Cap, lowest_out, cappable, insert_capped}
use Rattle.std.specs.Prelude.{Result, Ok, Err, Option, Some, None}
use Rattle.answers.specs.declared.Refusal.{Refusal}
use Rattle.range_many.specs.declared.Way.{Way}
use Rattle.range_many.specs.declared.Way.TheVariants.{PutIn, TakeOut}
use Rattle.range_set.specs.declared.Popped.{Popped}
use Rattle.range_set.specs.declared.Span.{Span}
use Rattle.range_set.specs.declared.Capped.{Capped}
use Rattle.range_set.specs.History.{Event, put, cut, refused, Holds}
use Rattle.range_set.proofs.Laws.{is_valid}
use Rattle.range_set.proofs.AtLimit.{Taken, is_taken, insert_length}
use Rattle.range_edit.proofs.Changes.{covers_in, clear}
use Rattle.range_set.proofs.insert as insert_fn
use Rattle.range_set.proofs.remove as remove_fn
use Rattle.range_set.proofs.replace as replace_fn
use Rattle.range_set.proofs.add as add_fn
use Rattle.range_set.proofs.subtract as subtract_fn
use Rattle.range_set.proofs.pop_min as pop_fn
use Rattle.range_set.proofs.insert_one_capped as capped_fn

-- ---- ranges and histories: rs has exactly the numbers that h comes to
pub record Has (rs : List Range) (h : List Event) : Type 0 where
  pub sound : sound 0 rs ≡ true
  pub to : (x : ℕ) → In x rs → Holds x h
  pub from : (x : ℕ) → Holds x h → In x rs

module _ (rs : List Range) (h : List Event) (w : Has rs h) (s e : ℕ) where
  pub has_insert : s < e → e ≤ 2 ^ 62 → Has (insert s e rs) (put s e ∷ h)
  has_insert a b =
      record {
        sound = insert_sound 0 s e rs (omega arith) a b w.sound;
        to = λ x k. ⊎_elim (λ j. inl (w.to x j)) (λ j. inr j) (insert_to x s e rs k);
        from = λ x k. insert_from x s e rs (⊎_elim (λ j. inl (w.from x j)) (λ j. inr j) k);
      }

  pub has_remove : s < e → Has (remove s e rs) (cut s e ∷ h)
  has_remove a =
      record {
        sound = remove_sound 0 s e rs a w.sound;
        to = λ x k. let j = remove_to x s e rs a k in (w.to x j.0, j.1);
        from = λ x k. remove_from_law x s e rs (w.from x k.0) k.1;
      }

  -- nothing comes where all is there, or where there is nothing to come; nothing goes where nothing is there
  pub has_covered : covers s e rs ≡ true → Has rs (put s e ∷ h)
  has_covered u = record { sound = w.sound; to = λ x k. inl (w.to x k); from = λ x. ⊎_elim (λ k. w.from x k) (λ k. covers_in x s e rs u k.0 k.1) }

  pub has_clear : meets s e rs ≡ false → Has rs (cut s e ∷ h)
  has_clear u = record { sound = w.sound; to = λ x k. (w.to x k, clear x s e rs u k); from = λ x k. w.from x k.0 }

  pub has_put_empty : e ≤ s → Has rs (put s e ∷ h)
  has_put_empty a = record { sound = w.sound; to = λ x k. inl (w.to x k); from = λ x. ⊎_elim (λ k. w.from x k) (λ k. absurd (omega arith)) }

  pub has_cut_empty : e ≤ s → Has rs (cut s e ∷ h)
  has_cut_empty a = record { sound = w.sound; to = λ x k. (w.to x k, outside x); from = λ x k. w.from x k.0 }
    where
      outside : (x : ℕ) → (x < s) ⊎ (e ≤ x)
      outside x = by_bool (ltb x s) (λ t. inl (ltb-true x s t)) (λ t. inr (omega (arith, ltb-false x s t)))

-- a second set comes, or goes, range by range
abbrev pub all_events : Way → List Range → List Event → List Event
all_events way [] h = h
all_events TakeOut (q ∷ qs) h = all_events TakeOut qs (cut q.lo q.hi ∷ h)
all_events PutIn (q ∷ qs) h = all_events PutIn qs (put q.lo q.hi ∷ h)

pub has_all : (way : Way) (least : ℕ) (qs rs : List Range) (h : List Event) → sound least qs ≡ true → Has rs h → Has (edit_all way rs qs) (all_events way qs h)
has_all TakeOut least [] rs h s w = w
has_all PutIn least [] rs h s w = w
has_all TakeOut least (q ∷ qs) rs h s w =
    let p : Sound least q qs = sound_parts least q qs s in
    has_all TakeOut (q.hi + 1) qs (remove q.lo q.hi rs) (cut q.lo q.hi ∷ h) p.rest (has_remove rs h w q.lo q.hi p.some)
has_all PutIn least (q ∷ qs) rs h s w =
    let p : Sound least q qs = sound_parts least q qs s in
    has_all PutIn (q.hi + 1) qs (insert q.lo q.hi rs) (put q.lo q.hi ∷ h) p.rest (has_insert rs h w q.lo q.hi p.some p.upto)

-- where none of it changes anything
pub has_idle : (way : Way) (qs rs : List Range) (h : List Event) → idle_all way rs qs ≡ true → Has rs h → Has rs (all_events way qs h)
has_idle TakeOut [] rs h i w = w
has_idle PutIn [] rs h i w = w
has_idle TakeOut (q ∷ qs) rs h i w =
    let p = sounds.both (not (meets q.lo q.hi rs)) (idle_all TakeOut rs qs) i in
    has_idle TakeOut qs rs (cut q.lo q.hi ∷ h) p.1 (has_clear rs h w q.lo q.hi (unmet (meets q.lo q.hi rs) p.0))
  where
    unmet : (b : Bool) → not b ≡ true → b ≡ false
    unmet true e = sym e
    unmet false e = refl
has_idle PutIn (q ∷ qs) rs h i w =
    let p = sounds.both (covers q.lo q.hi rs) (idle_all PutIn rs qs) i in
    has_idle PutIn qs rs (put q.lo q.hi ∷ h) p.1 (has_covered rs h w q.lo q.hi p.0)

-- the lowest range goes
pub has_rest : (r : Range) (rs : List Range) (h : List Event) → Has (r ∷ rs) h → Has rs (cut r.lo r.hi ∷ h)
has_rest r rs h w =
    let p : Sound 0 r rs = sound_parts 0 r rs w.sound in
    record {
      sound = sound_weaker 0 (r.hi + 1) rs (omega arith) p.rest;
      to = λ x k. (w.to x (inr k), inr (omega (arith, in_least (r.hi + 1) x rs p.rest k)));
      from = λ x k. ⊎_elim (λ j. absurd (⊎_elim (λ b. omega arith) (λ b. omega arith) k.1)) (λ j. j) (w.from x k.0);
    }

-- ---- lists and histories
pub record Kept (h : List Event) (l : List ℕ) (n : ℕ) : Type 0 where
  pub formed : well_formed l n ≡ true
  pub has : Has (read l 0 n) h

pub kept_over : (rs : List Range) (h : List Event) (l : List ℕ) → Has rs h → length rs ≤ length l / 2 → Kept h (over (flat rs) l) (length rs)
kept_over rs h l w k = record { formed = formed_over rs l k w.sound; has = subst (λ (x : List Range). Has x h) (sym (read_over rs l)) w }

-- the event that a call is, and the count that its caller goes on with: a refusal changes neither
module _ {A : Type 0} where
  abbrev pub if_ok : (A → Event) → Result A Refusal → Event
  if_ok event (Ok a) = event a
  if_ok event (Err why) = refused

  abbrev pub count_after : (A → ℕ) → Result A Refusal → ℕ → ℕ
  count_after count (Ok a) old = count a
  count_after count (Err why) old = old

-- what a call with a second set adds to the history h
abbrev pub set_events : List Event → Way → List Range → Result Changed Refusal → List Event
set_events h way qs (Ok r) = all_events way qs h
set_events h way qs (Err why) = refused ∷ h

-- and an insert at a limit: it puts the number in, and takes out the range that it drops
abbrev pub drop_events : Option Span → List Event → List Event
drop_events (Some d) g = cut d.start d.end ∷ g
drop_events None g = g

abbrev pub cap_events : List Event → ℕ → Result Capped Refusal → List Event
cap_events h x (Ok r) = drop_events r.dropped (put x (x + 1) ∷ h)
cap_events h x (Err why) = refused ∷ h

-- the counts of the calls' results
abbrev pub changed_count : Changed → ℕ
changed_count r = r.count

abbrev pub replaced_count : Replaced → ℕ
replaced_count r = r.count

abbrev pub popped_count : Popped → ℕ
popped_count r = r.count

abbrev pub capped_count : Capped → ℕ
capped_count r = r.count

module _ (h : List Event) (l : List ℕ) (n : ℕ) (w : Kept h l n) where
  still : Kept (refused ∷ h) l n
  still = record { formed = w.formed; has = record { sound = w.has.sound; to = w.has.to; from = w.has.from } }

  abbrev After : Event → Done → Type 0
  After v d = Kept (if_ok (λ _. v) d.out ∷ h) d.mem (count_after changed_count d.out n)

  stays : (v : Event) → Has (read l 0 n) (v ∷ h) → After v (stay l n)
  stays v p = record { formed = w.formed; has = p }

  settles : (v : Event) (rs : List Range) → Has rs (v ∷ h) → After v (settle rs l)
  settles v rs p =
      by_bool (leb (length rs) (length l / 2))
      (λ t. rw t (kept_over rs (v ∷ h) l p (leb-true (length rs) (length l / 2) t)))
      (λ t. rw t still)

  module _ (s e : ℕ) where
    on_cases : (v : Event) (d : Done) → (e ≤ s → Has (read l 0 n) (v ∷ h)) → (s < e → e ≤ 2 ^ 62 → After v d) → After v (on_range l n s e d)
    unfolding on_range
    on_cases v d f g =
        by_bool (valid l n s e)
        (λ t. by_bool (ltb s e)
        (λ u. rw (t, u) (g (ltb-true s e u) (is_valid l n s e t).far))
        (λ u. rw (t, u) (stays v (f (ltb-false s e u)))))
        (λ t. rw t still)

    pub step_insert : After (put s e) (insert_range l n s e)
    unfolding insert_into
    step_insert =
        on_cases (put s e) (insert_into l n s e) (has_put_empty (read l 0 n) h w.has s e)
        (λ a b. by_bool (covers s e (read l 0 n))
        (λ t. rw t (stays (put s e) (has_covered (read l 0 n) h w.has s e t)))
        (λ t. rw t (settles (put s e) (insert s e (read l 0 n)) (has_insert (read l 0 n) h w.has s e a b))))

    pub step_remove : After (cut s e) (remove_range l n s e)
    unfolding remove_from
    step_remove =
        on_cases (cut s e) (remove_from l n s e) (has_cut_empty (read l 0 n) h w.has s e)
        (λ a b. by_bool (meets s e (read l 0 n))
        (λ t. rw t (settles (cut s e) (remove s e (read l 0 n)) (has_remove (read l 0 n) h w.has s e a)))
        (λ t. rw t (stays (cut s e) (has_clear (read l 0 n) h w.has s e t))))

    abbrev AfterBoth : Both → Type 0
    AfterBoth d = Kept (if_ok (λ _. put s e) d.out ∷ h) d.mem (count_after replaced_count d.out n)

    pub step_replace : (m : List ℕ) → AfterBoth (replace_range l n s e m)
    unfolding replace_range replace_in
    step_replace m =
        by_bool (valid l n s e)
        (λ t. by_bool (ltb s e)
        (λ u. rw (t, u) (fits (ltb-true s e u) (is_valid l n s e t).far))
        (λ u. rw (t, u) (stays (put s e) (has_put_empty (read l 0 n) h w.has s e (ltb-false s e u)))))
        (λ t. rw t still)
      where
        fits : s < e → e ≤ 2 ^ 62 → AfterBoth (settle_both (insert s e (read l 0 n)) (within s e (read l 0 n)) l m)
        fits a b =
            by_bool (leb (length (insert s e (read l 0 n))) (length l / 2))
            (λ t. by_bool (leb (length (within s e (read l 0 n))) (length m / 2))
            (λ u. rw (t, u) (kept_over (insert s e (read l 0 n)) (put s e ∷ h) l (has_insert (read l 0 n) h w.has s e a b) (leb-true (length (insert s e (read l 0 n))) (length l / 2) t)))
            (λ u. rw (t, u) still))
            (λ t. rw t still)

  -- a second set
  abbrev AfterAll : Way → List Range → Done → Type 0
  AfterAll way qs d = Kept (set_events h way qs d.out) d.mem (count_after changed_count d.out n)

  pub step_merge : (way : Way) (o : List ℕ) (k : ℕ) → AfterAll way (read o 0 k) (on_sets l n o k (merge_into way l n (read o 0 k)))
  unfolding on_sets merge_into
  step_merge way o k =
      by_bool (well_formed o k)
      (λ t. rw (w.formed, t) (by_bool (idle_all way (read l 0 n) (read o 0 k))
      (λ u. rw u (record { formed = w.formed; has = has_idle way (read o 0 k) (read l 0 n) h u w.has }))
      (λ u. rw u (by_bool (leb (length (edit_all way (read l 0 n) (read o 0 k))) (length l / 2))
      (λ f. rw f (kept_over (edit_all way (read l 0 n) (read o 0 k)) (all_events way (read o 0 k) h) l
      (has_all way 0 (read o 0 k) (read l 0 n) h (formed o k t).sound w.has) (leb-true (length (edit_all way (read l 0 n) (read o 0 k))) (length l / 2) f)))
      (λ f. rw f still)))))
      (λ t. rw (w.formed, t) still)

  -- a pop takes out the range that it hands back
  abbrev AfterPop : Pop → Type 0
  AfterPop d = Kept (if_ok (λ (r : Popped). cut r.start r.end) d.out ∷ h) d.mem (count_after popped_count d.out n)

  pub step_pop : AfterPop (pop_min l n)
  unfolding pop_min
  step_pop = rw w.formed (go (read l 0 n) w.has (omega (arith, length_read l 0 n, (formed l n w.formed).room)))
    where
      go : (rs : List Range) → Has rs h → length rs ≤ length l / 2 → AfterPop (pop_first rs l)
      go [] p k = still
      go (r ∷ rs) p k = kept_over rs (cut r.lo r.hi ∷ h) l (has_rest r rs h p) (omega arith)

  -- an insert at a limit
  abbrev AfterCap : ℕ → Cap → Type 0
  AfterCap x d = Kept (cap_events h x d.out) d.mem (count_after capped_count d.out n)

  pub step_capped : (x limit : ℕ) → AfterCap x (insert_capped l n x limit)
  unfolding insert_capped insert_into
  step_capped x limit =
      by_bool (cappable l n x limit)
      (λ t. by_bool (leb (length (insert x (x + 1) (read l 0 n))) limit)
      (λ u. rw (t, u)
      (by_bool (covers x (x + 1) (read l 0 n))
      (λ v. rw v (stays (put x (x + 1)) (has_covered (read l 0 n) h w.has x (x + 1) v)))
      (λ v. rw v (by_bool (leb (length (insert x (x + 1) (read l 0 n))) (length l / 2))
      (λ f. rw f (kept_over (insert x (x + 1) (read l 0 n)) (put x (x + 1) ∷ h) l (there (is_taken l n x limit t)) (leb-true (length (insert x (x + 1) (read l 0 n))) (length l / 2) f)))
      (λ f. rw f still)))))
      (λ u. rw (t, u) (go (insert x (x + 1) (read l 0 n)) (there (is_taken l n x limit t)) (omega (arith, insert_length x (x + 1) (read l 0 n), length_read l 0 n, (formed l n w.formed).room)))))
      (λ t. rw t still)
    where
      there : Taken l n x limit → Has (insert x (x + 1) (read l 0 n)) (put x (x + 1) ∷ h)
      there v = has_insert (read l 0 n) h w.has x (x + 1) (omega arith) (omega (arith, v.number))

      go : (rs : List Range) → Has rs (put x (x + 1) ∷ h) → length rs ≤ length l / 2 + 1 → AfterCap x (lowest_out rs l)
      go [] p k = still
      go (r ∷ rs) p k = kept_over rs (cut r.lo r.hi ∷ put x (x + 1) ∷ h) l (has_rest r rs (put x (x + 1) ∷ h) p) (omega arith)

-- ---- histories of calls
-- the list l with n ranges is what the calls h left, each as its contract allows; an insert of one number is an insert (their promises are the same)
pub data Run : List Event → List ℕ → ℕ → Type 0 where
  start : (l : List ℕ) → Run [] l 0
  inserted : {h : List Event} {n : ℕ} (κs : Lfts 1) (x : MutBor (List ℕ)) (s e : ℕ) (r : Result Changed Refusal) (m : List ℕ)
      → Run h x.now n → insert_fn.Reads.Post κs (x, (n, (s, (e, tt)))) r (at_last x m, (n, (s, (e, tt))))
      → Run (if_ok (λ _. put s e) r ∷ h) m (count_after changed_count r n)
  removed : {h : List Event} {n : ℕ} (κs : Lfts 1) (x : MutBor (List ℕ)) (s e : ℕ) (r : Result Changed Refusal) (m : List ℕ)
      → Run h x.now n → remove_fn.Reads.Post κs (x, (n, (s, (e, tt)))) r (at_last x m, (n, (s, (e, tt))))
      → Run (if_ok (λ _. cut s e) r ∷ h) m (count_after changed_count r n)
  replaced : {h : List Event} {n : ℕ} (κs : Lfts 2) (x : MutBor (List ℕ)) (s e : ℕ) (p : MutBor (List ℕ)) (r : Result Replaced Refusal) (m q : List ℕ)
      → Run h x.now n → replace_fn.Reads.Post κs (x, (n, (s, (e, (p, tt))))) r (at_last x m, (n, (s, (e, (at_last p q, tt)))))
      → Run (if_ok (λ _. put s e) r ∷ h) m (count_after replaced_count r n)
  added : {h : List Event} {n : ℕ} (κs : Lfts 2) (x : MutBor (List ℕ)) (o : Bor (List ℕ)) (k : ℕ) (r : Result Changed Refusal) (m : List ℕ)
      → Run h x.now n → add_fn.Reads.Post κs (x, (n, (o, (k, tt)))) r (at_last x m, (n, (o, (k, tt))))
      → Run (set_events h PutIn (read o.now 0 k) r) m (count_after changed_count r n)
  subtracted : {h : List Event} {n : ℕ} (κs : Lfts 2) (x : MutBor (List ℕ)) (o : Bor (List ℕ)) (k : ℕ) (r : Result Changed Refusal) (m : List ℕ)
      → Run h x.now n → subtract_fn.Reads.Post κs (x, (n, (o, (k, tt)))) r (at_last x m, (n, (o, (k, tt))))
      → Run (set_events h TakeOut (read o.now 0 k) r) m (count_after changed_count r n)
  popped : {h : List Event} {n : ℕ} (κs : Lfts 1) (x : MutBor (List ℕ)) (r : Result Popped Refusal) (m : List ℕ)
      → Run h x.now n → pop_fn.Reads.Post κs (x, (n, tt)) r (at_last x m, (n, tt))
      → Run (if_ok (λ (p : Popped). cut p.start p.end) r ∷ h) m (count_after popped_count r n)
  capped : {h : List Event} {n : ℕ} (κs : Lfts 1) (x : MutBor (List ℕ)) (y limit : ℕ) (r : Result Capped Refusal) (m : List ℕ)
      → Run h x.now n → capped_fn.Reads.Post κs (x, (n, (y, (limit, tt)))) r (at_last x m, (n, (y, (limit, tt))))
      → Run (cap_events h y r) m (count_after capped_count r n)

-- an empty list
pub none : (l : List ℕ) → Kept [] l 0
none l = record { formed = sym (well_formed_is l 0 true (omega arith) refl); has = record { sound = refl; to = λ x k. k; from = λ x k. k } }

-- the theorem: after any calls the list is in good form, and has exactly the numbers that were put in and not taken out since
pub kept : {h : List Event} {l : List ℕ} {n : ℕ} → Run h l n → Kept h l n
kept (start l) = none l
kept (inserted {h} {n} κs x s e r m d p) = subst (After h x.now n (kept d) (put s e)) (sym p) (step_insert h x.now n (kept d) s e)
kept (removed {h} {n} κs x s e r m d p) = subst (After h x.now n (kept d) (cut s e)) (sym p) (step_remove h x.now n (kept d) s e)
kept (replaced {h} {n} κs x s e q r m o d p) = subst (AfterBoth h x.now n (kept d) s e) (sym p) (step_replace h x.now n (kept d) s e q.now)
kept (added {h} {n} κs x o k r m d p) = subst (AfterAll h x.now n (kept d) PutIn (read o.now 0 k)) (sym p) (step_merge h x.now n (kept d) PutIn o.now k)
kept (subtracted {h} {n} κs x o k r m d p) = subst (AfterAll h x.now n (kept d) TakeOut (read o.now 0 k)) (sym p) (step_merge h x.now n (kept d) TakeOut o.now k)
kept (popped {h} {n} κs x r m d p) =
    subst (AfterPop h x.now n (kept d)) (sym p) (step_pop h x.now n (kept d))
kept (capped {h} {n} κs x y limit r m d p) = subst (AfterCap h x.now n (kept d) y) (sym p) (step_capped h x.now n (kept d) y limit)

-- two histories that come to the same numbers leave the same ranges, whatever the lists' lengths and whatever was refused
pub one_list : {h g : List Event} {l m : List ℕ} {n k : ℕ} → Run h l n → Run g m k
    → ((x : ℕ) → Holds x h → Holds x g) → ((x : ℕ) → Holds x g → Holds x h) → read l 0 n ≡ read m 0 k
one_list {h} {g} {l} {m} {n} {k} a b f i =
    canonical 0 0 (read l 0 n) (read m 0 k) (kept a).has.sound (kept b).has.sound
    (λ x j. (kept b).has.from x (f x ((kept a).has.to x j))) (λ x j. (kept a).has.from x (i x ((kept b).has.to x j)))
