-- What a call comes to: it is taken, and then the tests before it held, or refused, and then the caller's queue is as it was. By cases on the tests.
-- Assumes nothing.
use mathlib.Core.Path.{◌≡◌, refl}
use mathlib.Core.Bool.{true, false, ◌&&◌}
use mathlib.Core.Logic.{◌⊎◌, inl, inr}
use mathlib.Core.List.{List}
use Prim.Native.Nat.{ℕ, ◌+◌, ◌^◌, ◌≤◌, ◌<◌}
use native.Mathlib.Omega.{arith}
use lib.Dec.{ltb, leb}
use borrow.Author.Tests.{ltb-true, ltb-false, leb-false}
use Rattle.std.specs.Prelude.{Some, Result, Ok, Err, IfOk}
use Rattle.answers.specs.declared.Refusal.{Refusal}
use Rattle.cid_ring.specs.declared.Cid.{Cid}
use Rattle.cid_ring.specs.declared.Ring.{Ring}
use Rattle.cid_ring.specs.Cids.{held, first, retired, put, empty, sound}
use Rattle.cid_ring.proofs.Places.{by}
use Rattle.cid_ring.proofs.Found.{first_from, first_yes, first_no}
use Rattle.cid_ring.proofs.Kept.{Sound, sound_says, both}
use Rattle.cid_queue.specs.declared.CidQueue.{CidQueue}
use Rattle.cid_queue.specs.declared.Retirement.{Retirement}
use Rattle.cid_queue.specs.Queue.{queue, initial, usable, moved, takes, floor, successor, accepted, inserted, switched_to, switched, made, updated}
use Rattle.cid_queue.specs.History.{left, left_alone}

-- the call is taken, and P says what it handed back
pub record Done {A : Type 0} (P : A → Type 0) (r : Result A Refusal) : Type 0 where
  pub step : A
  pub is : r ≡ Ok step
  pub did : P step

-- the step is refused: there is an answer that says why, and the queue is as it was
pub record Refused (q : CidQueue) (r : Result Retirement Refusal) : Type 0 where
  pub why : Refusal
  pub is : r ≡ Err why
  pub same : left q r ≡ q

-- the same of a call that hands back a queue alone
pub record Kept (q : CidQueue) (r : Result CidQueue Refusal) : Type 0 where
  pub why : Refusal
  pub is : r ≡ Err why
  pub same : left_alone q r ≡ q

step_outcome : {P : Retirement → Type 0} (q : CidQueue) (r : Result Retirement Refusal) → IfOk r P → Done P r ⊎ Refused q r
step_outcome q (Ok t) h = inl (record { step = t; is = refl; did = h })
step_outcome q (Err e) h = inr (record { why = e; is = refl; same = refl })

queue_outcome : {P : CidQueue → Type 0} (q : CidQueue) (r : Result CidQueue Refusal) → IfOk r P → Done P r ⊎ Kept q r
queue_outcome q (Ok g) h = inl (record { step = g; is = refl; did = h })
queue_outcome q (Err e) h = inr (record { why = e; is = refl; same = refl })

-- a frame that is taken, with `to` the new active number
pub record Taken (q : Ring) (seq prior : ℕ) (s : Cid) (r : Retirement) : Type 0 where
  pub good : Sound q
  pub long : usable s.len ≡ true
  pub number : seq < 2 ^ 62
  pub ordered : prior ≤ seq
  pub fresh : q.offset ≤ seq
  pub near : seq < floor q prior + 5
  pub is : r ≡ accepted q seq (successor q seq (floor q prior)) s

module _ (q : Ring) (seq prior : ℕ) (s : Cid) where
  pub frame_taken : IfOk (inserted q seq prior s) (Taken q seq prior s)
  unfolding inserted takes
  frame_taken =
      by (takes q seq prior s.len)
      (λ t.
      by (ltb seq prior)
      (λ e. rw (t, e) tt)
      (λ e.
      by (ltb seq q.offset)
      (λ f. rw (t, e, f) tt)
      (λ f.
      by (leb (floor q prior + 5) seq)
      (λ g. rw (t, e, f, g) tt)
      (λ g.
      let p = both (sound q) (usable s.len && (ltb seq (2 ^ 62) && ltb prior (2 ^ 62))) t in
      let u = both (usable s.len) (ltb seq (2 ^ 62) && ltb prior (2 ^ 62)) p.1 in
      let w = both (ltb seq (2 ^ 62)) (ltb prior (2 ^ 62)) u.1 in
      rw (t, e, f, g)
      (record {
        good = sound_says q p.0;
        long = u.0;
        number = ltb-true seq (2 ^ 62) w.0;
        ordered = ltb-false seq prior e;
        fresh = ltb-false seq q.offset f;
        near = leb-false (floor q prior + 5) seq g;
        is = refl;
      })))))
      (λ t. rw t tt)

  pub frame_outcome : Done (Taken q seq prior s) (inserted q seq prior s) ⊎ Refused (queue q) (inserted q seq prior s)
  frame_outcome = step_outcome (queue q) (inserted q seq prior s) frame_taken

-- a switch that is made, to the number `to`
pub record Switched (q : Ring) (r : Retirement) : Type 0 where
  pub to : ℕ
  pub good : Sound q
  pub after : q.offset < to
  pub near : to < q.offset + 5
  pub next : held q to ≡ true
  pub none : (n : ℕ) → q.offset < n → n < to → held q n ≡ false
  pub is : r ≡ moved q to (retired q to)

pub next_taken : (q : Ring) → IfOk (switched q) (Switched q)
unfolding switched switched_to
next_taken q =
    by (sound q)
    (λ g.
    by (leb (q.offset + 5) to)
    (λ e. rw (g, e) tt)
    (λ e.
    let u : to < q.offset + 5 = leb-false (q.offset + 5) to e in
    rw (g, e)
    (record {
      to = to;
      good = sound_says q g;
      after = omega (arith, first_from (held q) (q.offset + 1) 4);
      near = u;
      next = first_yes (held q) (q.offset + 1) 4 (omega arith);
      none = λ n l k. first_no (held q) (q.offset + 1) 4 n (omega arith) k;
      is = refl;
    })))
    (λ g. rw g tt)
  where
    to : ℕ
    to = first (held q) (q.offset + 1) 4

pub next_outcome : (q : Ring) → Done (Switched q) (switched q) ⊎ Refused (queue q) (switched q)
next_outcome q = step_outcome (queue q) (switched q) (next_taken q)

-- the handshake's id replaced
pub record Renewed (q : Ring) (s : Cid) (r : CidQueue) : Type 0 where
  pub good : Sound q
  pub long : usable s.len ≡ true
  pub young : q.offset ≡ 0
  pub is : r ≡ queue (put q 0 (Some s))

module _ (q : Ring) (id : List ℕ) (len : ℕ) where
  pub update_taken : IfOk (updated q id len) (Renewed q (initial id len))
  unfolding updated
  update_taken =
      by (sound q && usable len)
      (λ t.
      let p = both (sound q) (usable len) t in
      by (ltb 0 q.offset)
      (λ e. rw (t, e) tt)
      (λ e.
      let z : q.offset ≤ 0 = ltb-false 0 q.offset e in
      rw (t, e) (record { good = sound_says q p.0; long = p.1; young = omega arith; is = refl })))
      (λ t. rw t tt)

  pub update_outcome : Done (Renewed q (initial id len)) (updated q id len) ⊎ Kept (queue q) (updated q id len)
  update_outcome = queue_outcome (queue q) (updated q id len) update_taken

-- a fresh queue
pub record Fresh (s : Cid) (r : CidQueue) : Type 0 where
  pub long : usable s.len ≡ true
  pub is : r ≡ queue (put empty 0 (Some s))

pub new_taken : (id : List ℕ) (len : ℕ) → IfOk (made id len) (Fresh (initial id len))
unfolding made
new_taken id len = by (usable len) (λ l. rw l (record { long = l; is = refl })) (λ l. rw l tt)
