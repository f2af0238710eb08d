-- After any calls of `insert` from a window of `new`, a number counts as seen exactly if it was noted, or is more than 128 below the highest
-- noted: each call does to the set what `AsSets` says, and what was too old stays so. A history is made of what the functions' own contracts
-- allow, `new.Reads.Post`, `insert.Reads.Post` and `next.Reads.Post`. Assumes nothing.
use mathlib.Core.Path.{◌≡◌, refl, ap, sym, ◌∙◌}
use mathlib.Core.Bool.{Bool, true, false, ◌||◌, or-true}
use mathlib.Core.List.{List, [], ◌∷◌}
use Prim.Native.Nat.{ℕ, ◌+◌, ◌^◌, ◌≤◌, ◌<◌, max}
use native.Mathlib.Omega.{arith}
use lib.Dec.{eqb, ltb}
use borrow.Author.Tests.{lt-leb, le-leb, lt-ltb, le-ltb, leb-true, ltb-true, ltb-false, ne_eqb}
use Rattle.std.specs.Prelude.{Result, Err}
use Rattle.answers.specs.declared.Refusal.{Refusal}
use Rattle.answers.specs.declared.Refusal.TheVariants.{Range}
use Rattle.dedup.specs.declared.Dedup.{Dedup}
use Rattle.dedup.specs.declared.Inserted.{Inserted}
use Rattle.dedup.specs.Dedup.{seen, too_old, told, inserted}
use Rattle.dedup.specs.History.{left, noted, above, among, seen_after}
use Rattle.dedup.proofs.Laws.{insert_range_law}
use Rattle.dedup.proofs.Sets.{AsSets, as_sets, fresh_unseen}
use Rattle.dedup.proofs.Dedup.new as new
use Rattle.dedup.proofs.Dedup.next as next
use Rattle.dedup.proofs.Dedup.insert as insert

-- w is what `new` may hand back, r what `insert` may answer to n, x what `next` may: the contracts as the source states them
abbrev pub New : Dedup → Type 0
New w = new.Reads.Post tt tt w tt

abbrev pub Insert : Dedup → ℕ → Result Inserted Refusal → Type 0
Insert w n r = insert.Reads.Post tt (w, (n, tt)) r (w, (n, tt))

abbrev pub Next : Dedup → ℕ → Type 0
Next w x = next.Reads.Post tt (w, tt) x (w, tt)

-- w is the window after the calls ns
pub data Run : List ℕ → Dedup → Type 0 where
  start : {w : Dedup} → New w → Run [] w
  call : {ns : List ℕ} {w : Dedup} {n : ℕ} {r : Result Inserted Refusal} → Run ns w → Insert w n r → Run (n ∷ ns) (left w r)

-- what holds after each call; `small` says that the window is well formed
pub record Held (ns : List ℕ) (w : Dedup) : Type 0 where
  pub at : w.next ≡ above (noted ns)
  pub small : w.next ≤ 2 ^ 62
  pub says : (m : ℕ) → seen w m ≡ seen_after ns m

absorbed : (a b c d : Bool) → (a ≡ true → b ≡ true) → (b || (c || (a || d))) ≡ (b || (c || d))
absorbed a true c d f = refl
absorbed false false c d f = refl
absorbed true false c d f = let e : false ≡ true = f refl in let z : ◌≡◌ {A = ℕ} 0 1 = cc in let y : ⊥ = omega arith in absurd y

started : (w : Dedup) → New w → Held [] w
unfolding seen_after
started w p = rw p (record { at = refl; small = omega arith; says = λ m. fresh_unseen m ∙ sym (rw (lt-leb (m + 130) 0 (omega arith))) })

module _ (ns : List ℕ) (w : Dedup) (n : ℕ) (h : Held ns w) where
  refused : 2 ^ 62 ≤ n → Held (n ∷ ns) (left w (inserted w n))
  unfolding seen_after
  refused k =
      rw (← (insert_range_law w n k))
      (record { at = rw (le-ltb n (2 ^ 62) k) h.at; small = h.small; says = λ m. rw (le-ltb n (2 ^ 62) k) (h.says m) })

  taken : n < 2 ^ 62 → Held (n ∷ ns) (left w (inserted w n))
  unfolding seen_after
  taken k =
      let s : AsSets w n (inserted w n) = as_sets w n k h.small in
      let a = above (noted ns) in
      record {
        at = rw (lt-ltb n (2 ^ 62) k) (s.next ∙ ap (λ (x : ℕ). max x (n + 1)) h.at);
        small = rw s.next (omega (arith, h.small));
        says = λ m.
            rw (lt-ltb n (2 ^ 62) k)
            (s.then m
            ∙ ap (λ (b : Bool). too_old (max w.next (n + 1)) m || (eqb m n || b)) (h.says m)
            ∙ ap (λ (x : ℕ). too_old (max x (n + 1)) m || (eqb m n || (too_old a m || among m (noted ns)))) h.at
            ∙ absorbed (too_old a m) (too_old (max a (n + 1)) m) (eqb m n) (among m (noted ns))
            (λ e. le-leb (m + 130) (max a (n + 1)) (omega (arith, leb-true (m + 130) a e))));
      }

  either : (b : Bool) → ltb n (2 ^ 62) ≡ b → Held (n ∷ ns) (left w (inserted w n))
  either true e = taken (ltb-true n (2 ^ 62) e)
  either false e = refused (ltb-false n (2 ^ 62) e)

pub held : {ns : List ℕ} {w : Dedup} → Run ns w → Held ns w
held (start {w} p) = started w p
held (call {ns} {w} {n} {r} h p) = rw p (either ns w n (held h) (ltb n (2 ^ 62)) refl)

-- the theorem: after any calls, a number counts as seen exactly if it is too old for what was noted, or was noted
pub seen_history : {ns : List ℕ} {w : Dedup} → Run ns w → (m : ℕ) → seen w m ≡ seen_after ns m
seen_history h = (held h).says

-- and that is what the next call answers, of every packet number
pub insert_history : {ns : List ℕ} {w : Dedup} {n : ℕ} {r : Result Inserted Refusal} → Run ns w → Insert w n r → n < 2 ^ 62 → r ≡ told (seen_after ns n) (left w r)
insert_history {ns} {w} {n} {r} h p k =
    let s : AsSets w n (inserted w n) = as_sets w n k (held h).small in
    rw p (s.answer ∙ ap (λ (b : Bool). told b (left w (inserted w n))) (seen_history h n))

-- what is no packet number is refused, and the window stays
pub refused_history : {w : Dedup} {n : ℕ} {r : Result Inserted Refusal} → Insert w n r → 2 ^ 62 ≤ n → (r ≡ Err Range) × (left w r ≡ w)
refused_history {w} {n} {r} p k =
    let e : r ≡ Err Range = p ∙ sym (insert_range_law w n k) in
    (e, rw e)

-- `next` is one more than the highest noted, 0 where there is none
pub next_history : {ns : List ℕ} {w : Dedup} {x : ℕ} → Run ns w → Next w x → x ≡ above (noted ns)
next_history h p = p ∙ (held h).at

-- a packet number is among those given if it is among those noted
among_noted : (n : ℕ) (ns : List ℕ) → n < 2 ^ 62 → among n (noted ns) ≡ among n ns
among_noted n [] k = refl
among_noted n (m ∷ ns) k = given (among_noted n ns k) (ltb m (2 ^ 62)) refl
  where
    given : among n (noted ns) ≡ among n ns → (b : Bool) → ltb m (2 ^ 62) ≡ b → among n (noted (m ∷ ns)) ≡ among n (m ∷ ns)
    given f true e = rw (e, f)
    given f false e =
        let l : 2 ^ 62 ≤ m = ltb-false m (2 ^ 62) e in
        let d : n ≡ m → ⊥ = λ z. omega arith in
        rw (e, ne_eqb n m d, f)

-- so where that is known to be b, the answer is b
answers : {ns : List ℕ} {w : Dedup} {n : ℕ} {r : Result Inserted Refusal} {b : Bool} → Run ns w → Insert w n r → n < 2 ^ 62 → seen_after ns n ≡ b → r ≡ told b (left w r)
answers h p k e = insert_history h p k ∙ rw e

-- one that was noted is never called new
pub noted_is_seen : {ns : List ℕ} {w : Dedup} {n : ℕ} {r : Result Inserted Refusal} → Run ns w → Insert w n r → n < 2 ^ 62 → among n ns ≡ true → r ≡ told true (left w r)
unfolding seen_after
noted_is_seen {ns} {w} {n} h p k e = answers h p k (rw (among_noted n ns k, e) (or-true (too_old (above (noted ns)) n)))

-- one that was never noted and is not too old is never called seen
pub unnoted_is_new : {ns : List ℕ} {w : Dedup} {n : ℕ} {r : Result Inserted Refusal} → Run ns w → Insert w n r → n < 2 ^ 62 → among n ns ≡ false → above (noted ns) < n + 130 → r ≡ told false (left w r)
unfolding seen_after
unnoted_is_new {ns} {w} {n} h p k e l = answers h p k (rw (lt-leb (n + 130) (above (noted ns)) l, among_noted n ns k, e))

-- one that is too old is called seen, noted or not
pub old_is_seen : {ns : List ℕ} {w : Dedup} {n : ℕ} {r : Result Inserted Refusal} → Run ns w → Insert w n r → n < 2 ^ 62 → n + 130 ≤ above (noted ns) → r ≡ told true (left w r)
unfolding seen_after
old_is_seen {ns} {w} {n} h p k l = answers h p k (rw (le-leb (n + 130) (above (noted ns)) l))
