-- After any calls from a queue of `new`: under each number not below the active one stands the newest id that came for it, under those below nothing;
-- the active number is held, is the least, is not below any retire-prior-to that was taken, and never falls, so a retired number never comes back.
-- A history is made of what the functions' own contracts allow. By induction on it. Assumes nothing.
use mathlib.Core.Path.{◌≡◌, refl, ap, sym, ◌∙◌}
use mathlib.Core.Bool.{true, false, cond}
use mathlib.Core.Logic.{⊎_elim}
use mathlib.Core.List.{List, [], ◌∷◌, ◌++◌}
use Prim.Native.Nat.{ℕ, ◌+◌, ◌^◌, ◌≤◌, ◌<◌, max}
use native.Mathlib.Omega.{arith}
use lib.Dec.{eqb, ltb}
use borrow.Author.Tests.{lt-ltb, le-ltb, ne_eqb}
use Rattle.answers.proofs.Tests.{split}
use Rattle.std.specs.Prelude.{Option, Some, None, Result, Ok, Err}
use Rattle.answers.specs.declared.Refusal.{Refusal}
use Rattle.answers.specs.declared.Refusal.TheVariants.{Retired as RetiredAlready}
use Rattle.cid_ring.specs.declared.Cid.{Cid}
use Rattle.cid_ring.specs.Cids.{under, held}
use Rattle.cid_ring.proofs.Places.{by}
use Rattle.cid_ring.proofs.Kept.{Sound, sound_if, held_from, held_below}
use Rattle.cid_queue.specs.declared.CidQueue.{CidQueue}
use Rattle.cid_queue.specs.declared.Retirement.{Retirement}
use Rattle.cid_queue.specs.Queue.{initial, issued, usable, takes, floor, successor, inserted}
use Rattle.cid_queue.specs.History.{latest, held_after, left, left_alone}
use Rattle.cid_queue.proofs.Outcomes.{Taken, Switched, Renewed, frame_taken, next_taken, update_taken}
use Rattle.cid_queue.proofs.Theorems.{to_from, to_within, taken_active, taken_under, taken_sound, switch_active, switch_under, switch_sound, renew_active, renew_under, renew_sound, made_active, made_under, made_sound}
use Rattle.cid_queue.proofs.CidQueue.new as new
use Rattle.cid_queue.proofs.CidQueue.insert as insert
use Rattle.cid_queue.proofs.CidQueue.next as next
use Rattle.cid_queue.proofs.CidQueue.update_initial_cid as update

-- what each call may hand back: the contracts as the source states them
abbrev pub New : List ℕ → ℕ → Result CidQueue Refusal → Type 0
New id len m = new.Reads.Post tt (id, (len, tt)) m (id, (len, tt))

abbrev pub Frame : CidQueue → ℕ → ℕ → List ℕ → ℕ → List ℕ → Result Retirement Refusal → Type 0
Frame q seq prior id len token r = insert.Reads.Post tt (q, (seq, (prior, (id, (len, (token, tt)))))) r (q, (seq, (prior, (id, (len, (token, tt))))))

abbrev pub Next : CidQueue → Result Retirement Refusal → Type 0
Next q r = next.Reads.Post tt (q, tt) r (q, tt)

abbrev pub Update : CidQueue → List ℕ → ℕ → Result CidQueue Refusal → Type 0
Update q id len m = update.Reads.Post tt (q, (id, (len, tt))) m (q, (id, (len, tt)))

-- One call on a queue, with the ids and the retire-prior-to that it brought: the caller's queue q has become the last index. A refusal brings nothing,
-- and leaves q.
pub data Call (q : CidQueue) : List (ℕ × Cid) → ℕ → CidQueue → Type 0 where
  taken : (seq prior : ℕ) (id : List ℕ) (len : ℕ) (token : List ℕ) (r : Retirement) → Frame q seq prior id len token (Ok r)
      → Call q ((seq, issued id len token) ∷ []) prior r.queue
  untaken : (seq prior : ℕ) (id : List ℕ) (len : ℕ) (token : List ℕ) (why : Refusal) → Frame q seq prior id len token (Err why) → Call q [] 0 q
  switch : (r : Result Retirement Refusal) → Next q r → Call q [] 0 (left q r)
  renew : (id : List ℕ) (len : ℕ) (g : CidQueue) → Update q id len (Ok g) → Call q ((0, initial id len) ∷ []) 0 g
  unrenewed : (id : List ℕ) (len : ℕ) (why : Refusal) → Update q id len (Err why) → Call q [] 0 q

-- the queue after any calls from a fresh one; es is what came, the newest first, and p the greatest retire-prior-to that was taken
pub data Run : List (ℕ × Cid) → ℕ → CidQueue → Type 0 where
  start : (id : List ℕ) (len : ℕ) (g : CidQueue) → New id len (Ok g) → Run ((0, initial id len) ∷ []) 0 g
  call : {es new : List (ℕ × Cid)} {p prior : ℕ} {q g : CidQueue} → Run es p q → Call q new prior g → Run (new ++ es) (max p prior) g

-- what holds after each call
pub record Holds (es : List (ℕ × Cid)) (p : ℕ) (q : CidQueue) : Type 0 where
  pub good : Sound q.ring
  pub says : (n : ℕ) → under q.ring n ≡ held_after q.ring.offset es n
  pub above : p ≤ q.ring.offset

-- a call that leaves the queue alone
same_still : {es : List (ℕ × Cid)} {p : ℕ} {q g : CidQueue} → Holds es p q → g ≡ q → Holds es (max p 0) g
same_still {es} {p} {q} h e = rw e (record { good = h.good; says = h.says; above = omega (arith, h.above) })

module _ (es : List (ℕ × Cid)) (p : ℕ) (q : CidQueue) (h : Holds es p q) where
  -- a map that was cut off at a is cut off at b
  further : (b n : ℕ) → q.ring.offset ≤ b → cond (ltb n b) None (under q.ring n) ≡ held_after b es n
  further b n l =
      ⊎_elim
      (λ k. rw (lt-ltb n b k))
      (λ k. let j : q.ring.offset ≤ n = omega arith in rw (le-ltb n b k) (h.says n ∙ rw (le-ltb n q.ring.offset j)))
      (split n b)

  module _ (seq prior : ℕ) (id : List ℕ) (len : ℕ) (token : List ℕ) where
    abbrev new_id : Cid
    new_id = issued id len token

    took : (r : Retirement) → Taken q.ring seq prior new_id r → Holds ((seq, new_id) ∷ es) (max p prior) r.queue
    unfolding latest
    took r t =
        let to : ℕ = successor q.ring seq (floor q.ring prior) in
        let a = taken_active q.ring seq prior new_id r t in
        let from = to_from q.ring seq prior new_id r t in
        let most = to_within q.ring seq prior new_id r t in
        record {
          good = taken_sound q.ring seq prior new_id r t refl;
          says = λ n.
              taken_under q.ring seq prior new_id r t n ∙ ap (λ (x : Option Cid). cond (eqb n seq) (Some new_id) x) (further to n (omega (arith, from)))
              ∙ swap n to most ∙ ap (λ (b : ℕ). held_after b ((seq, new_id) ∷ es) n) (sym a);
          above = rw a (omega (arith, from, h.above));
        }
      where
        swap : (n to : ℕ) → to ≤ seq → cond (eqb n seq) (Some new_id) (held_after to es n) ≡ held_after to ((seq, new_id) ∷ es) n
        swap n to l =
            ⊎_elim
            (λ k. let d : n ≡ seq → ⊥ = λ e. omega arith in rw (ne_eqb n seq d, lt-ltb n to k))
            (λ k. rw (le-ltb n to k))
            (split n to)

  went : (r : Retirement) → Switched q.ring r → Holds es (max p 0) r.queue
  went r t =
      let a = switch_active q.ring r t in
      record {
        good = switch_sound q.ring r t;
        says = λ n.
            switch_under q.ring r t n ∙ further t.to n (omega (arith, t.after)) ∙ ap (λ (b : ℕ). held_after b es n) (sym a);
        above = rw a (omega (arith, t.after, h.above));
      }

  renewed : (id : List ℕ) (len : ℕ) (g : CidQueue) → Renewed q.ring (initial id len) g → Holds ((0, initial id len) ∷ es) (max p 0) g
  unfolding latest
  renewed id len g t =
      let a = renew_active q.ring id len g t in
      record {
        good = renew_sound q.ring id len g t;
        says = λ n.
            let l : q.ring.offset ≤ n = omega (arith, t.young) in
            let k : g.ring.offset ≤ n = omega (arith, a) in
            let was : under q.ring n ≡ latest es n = h.says n ∙ rw (le-ltb n q.ring.offset l) in
            rw (le-ltb n g.ring.offset k) (renew_under q.ring id len g t n ∙ ap (λ (x : Option Cid). cond (eqb n 0) (Some (initial id len)) x) was);
        above = rw a (omega (arith, t.young, h.above));
      }

-- what the contract of a call says, as an outcome
module _ (q : CidQueue) where
  frame_came : (seq prior : ℕ) (id : List ℕ) (len : ℕ) (token : List ℕ) (r : Retirement) → Frame q seq prior id len token (Ok r)
      → Taken q.ring seq prior (issued id len token) r
  frame_came seq prior id len token r e = rw (← e) at (frame_taken q.ring seq prior (issued id len token))

  next_came : (r : Retirement) → Next q (Ok r) → Switched q.ring r
  next_came r e = rw (← e) at (next_taken q.ring)

  update_came : (id : List ℕ) (len : ℕ) (g : CidQueue) → Update q id len (Ok g) → Renewed q.ring (initial id len) g
  update_came id len g e = rw (← e) at (update_taken q.ring id len)

-- a refusal leaves the caller's queue, whatever its reason
pub refused_left : (q : CidQueue) (r : Result Retirement Refusal) (why : Refusal) → r ≡ Err why → left q r ≡ q
refused_left q r why e = rw e

pub kept_left : (q : CidQueue) (r : Result CidQueue Refusal) (why : Refusal) → r ≡ Err why → left_alone q r ≡ q
kept_left q r why e = rw e

after : {es new : List (ℕ × Cid)} {p prior : ℕ} {q g : CidQueue} → Holds es p q → Call q new prior g → Holds (new ++ es) (max p prior) g
after {es} {p} {q} h (taken seq prior id len token r c) = took es p q h seq prior id len token r (frame_came q seq prior id len token r c)
after {es} {p} {q} h (untaken seq prior id len token why c) = same_still h refl
after {es} {p} {q} h (switch (Ok r) c) = went es p q h r (next_came q r c)
after {es} {p} {q} h (switch (Err why) c) = same_still h refl
after {es} {p} {q} h (renew id len g c) = renewed es p q h id len g (update_came q id len g c)
after {es} {p} {q} h (unrenewed id len why c) = same_still h refl

begun : (id : List ℕ) (len : ℕ) (g : CidQueue) → New id len (Ok g) → Holds ((0, initial id len) ∷ []) 0 g
unfolding latest
begun id len g c =
    let a = made_active id len g (sym c) in
    record {
      good = made_sound id len g (sym c);
      says = λ n.
          let k : g.ring.offset ≤ n = omega (arith, a) in
          rw (le-ltb n g.ring.offset k) (made_under id len g (sym c) n);
      above = omega arith;
    }

-- the theorem
pub holds : {es : List (ℕ × Cid)} {p : ℕ} {q : CidQueue} → Run es p q → Holds es p q
holds (start id len g c) = begun id len g c
holds (call h c) = after (holds h) c

-- the active id is always there, it is the least, at most five are held, and the retire-prior-to of no frame that was taken is above it
module _ {es : List (ℕ × Cid)} {p : ℕ} {q : CidQueue} (h : Run es p q) where
  pub active_held : held q.ring q.ring.offset ≡ true
  active_held = (holds h).good.active

  pub active_least : (n : ℕ) → held q.ring n ≡ true → q.ring.offset ≤ n
  active_least = held_from q.ring

  pub at_most_five : (n : ℕ) → held q.ring n ≡ true → n < q.ring.offset + 5
  at_most_five = held_below q.ring

  pub prior_obeyed : (n : ℕ) → n < p → held q.ring n ≡ false
  prior_obeyed n l =
      by (held q.ring n)
      (λ e. let z : ⊥ = omega (arith, held_from q.ring n e, (holds h).above) in absurd z)
      (λ e. e)

frame_rises : (q : CidQueue) (seq prior : ℕ) (id : List ℕ) (len : ℕ) (token : List ℕ) (r : Retirement) → Frame q seq prior id len token (Ok r)
    → q.ring.offset ≤ r.queue.ring.offset
frame_rises q seq prior id len token r c =
    let t = frame_came q seq prior id len token r c in
    let from = to_from q.ring seq prior (issued id len token) r t in
    rw (taken_active q.ring seq prior (issued id len token) r t) (omega (arith, from))

-- the active number never falls
pub rises : {new : List (ℕ × Cid)} {prior : ℕ} {q g : CidQueue} → Call q new prior g → q.ring.offset ≤ g.ring.offset
rises {q} (taken seq prior id len token r c) = frame_rises q seq prior id len token r c
rises {q} (untaken seq prior id len token why c) = omega arith
rises {q} (switch (Ok r) c) =
    let t = next_came q r c in
    rw (switch_active q.ring r t) (omega (arith, t.after))
rises {q} (switch (Err why) c) = omega arith
rises {q} (renew id len g c) =
    let t = update_came q id len g c in
    omega (arith, t.young)
rises {q} (unrenewed id len why c) = omega arith

-- q has become g by any calls
pub data Later (q : CidQueue) : CidQueue → Type 0 where
  here : Later q q
  more : {new : List (ℕ × Cid)} {prior : ℕ} {g k : CidQueue} → Later q g → Call g new prior k → Later q k

pub later_rises : {q g : CidQueue} → Later q g → q.ring.offset ≤ g.ring.offset
later_rises here = omega arith
later_rises (more l c) = omega (arith, later_rises l, rises c)

-- a retired number never comes back: it is not held, and a frame that brings it is RETIRED
pub never_held : {q g : CidQueue} → Later q g → (n : ℕ) → n < q.ring.offset → held g.ring n ≡ false
never_held {q} {g} l n u =
    by (held g.ring n)
    (λ e. let z : ⊥ = omega (arith, held_from g.ring n e, later_rises l) in absurd z)
    (λ e. e)

pub retired_again : {es : List (ℕ × Cid)} {p : ℕ} {q g : CidQueue} → Run es p g → Later q g → (n prior : ℕ) (id : List ℕ) (len : ℕ) (token : List ℕ) (r : Result Retirement Refusal)
    → n < q.ring.offset → prior ≤ n → usable len ≡ true → Frame g n prior id len token r → r ≡ Err RetiredAlready
unfolding inserted takes
retired_again {g} h l n prior id len token r u o e c =
    let m : n < g.ring.offset = omega (arith, later_rises l) in
    let a : n < 2 ^ 62 = omega (arith, (holds h).good.small) in
    let b : prior < 2 ^ 62 = omega arith in
    c
    ∙ rw (sound_if g.ring (holds h).good, e, lt-ltb n (2 ^ 62) a, lt-ltb prior (2 ^ 62) b, le-ltb n prior o, lt-ltb n g.ring.offset m)
