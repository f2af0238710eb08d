-- What a call leaves, for every sequence number: what is held, what is retired, and that good form is kept. From the outcomes, by the ring's own theorems.
-- Assumes nothing.
use mathlib.Core.Path.{◌≡◌, ap, sym, ◌∙◌}
use mathlib.Core.Bool.{true, false, cond, ◌||◌}
use mathlib.Core.Logic.{◌⊎◌, inl, inr, ⊎_elim}
use mathlib.Core.List.{List}
use Prim.Native.Nat.{ℕ, ◌+◌, ◌-◌, ◌^◌, ◌≤◌, ◌<◌, min}
use native.Mathlib.Omega.{arith}
use lib.Dec.{eqb, ltb}
use borrow.Author.Tests.{lt-ltb, le-ltb, eq-eqb, ne_eqb, eqb-true, eqb-false}
use Rattle.answers.proofs.Tests.{split}
use Rattle.std.specs.Prelude.{Option, Some, None, Ok, is_some}
use Rattle.cid_ring.specs.declared.Cid.{Cid}
use Rattle.cid_ring.specs.declared.Ring.{Ring}
use Rattle.cid_ring.specs.Cids.{under, held, token_of, ring_of, retired, put, fit, empty}
use Rattle.cid_ring.proofs.Places.{by, clash, same, ring_in, ring_past}
use Rattle.cid_ring.proofs.Found.{first_from, first_within, first_yes, first_no}
use Rattle.cid_ring.proofs.Kept.{Sound, vacant_fit, under_put, under_retired, put_offset, retired_offset, held_small, held_from, held_below}
use Rattle.cid_queue.specs.declared.CidQueue.{CidQueue}
use Rattle.cid_queue.specs.declared.Retirement.{Retirement}
use Rattle.cid_queue.specs.declared.Retired.{Retired}
use Rattle.cid_queue.specs.Queue.{queue, initial, usable, parting, moved, floor, successor, accepted, made}
use Rattle.cid_queue.proofs.Outcomes.{Taken, Switched, Renewed, Fresh, new_taken}

-- what may be put in: an id of a usable length with a token, or under the number 0
fit_known : (s : Cid) (n : ℕ) → usable s.len ≡ true → n < 2 ^ 62 → (is_some s.token || eqb n 0) ≡ true → fit (Some s) n ≡ true
unfolding fit
fit_known s n e l k = rw (e, lt-ltb n (2 ^ 62) l, k)

-- the new active number of a frame that is taken
module _ (q : Ring) (seq prior : ℕ) (s : Cid) (r : Retirement) (h : Taken q seq prior s r) where
  abbrev to : ℕ
  to = successor q seq (floor q prior)

  pub to_from : floor q prior ≤ to
  to_from = first_from (held q) (floor q prior) (seq - floor q prior)

  pub to_within : to ≤ seq
  to_within = omega (arith, first_within (held q) (floor q prior) (seq - floor q prior), h.ordered, h.fresh)

  pub to_held : (to ≡ seq) ⊎ (held q to ≡ true)
  to_held =
      ⊎_elim inl
      (λ d. inr (first_yes (held q) (floor q prior) (seq - floor q prior) (omega (arith, to_within, d, h.ordered, h.fresh))))
      (same to seq)

  -- a retire-prior-to that is not above the active number changes nothing (RFC 9000 section 19.15)
  pub prior_ignored : prior ≤ q.offset → to ≡ q.offset
  prior_ignored l =
      ⊎_elim
      (λ u.
      let f : held q q.offset ≡ false = first_no (held q) (floor q prior) (seq - floor q prior) q.offset (omega arith) u in
      clash (held q q.offset) h.good.active f)
      (λ u. omega (arith, to_from))
      (split q.offset to)

  pub taken_ring : r.queue.ring ≡ put (retired q to) seq (Some s)
  unfolding accepted
  taken_ring = rw h.is

  low : q.offset ≤ to
  low = omega (arith, to_from)

  pub taken_active : r.queue.ring.offset ≡ to
  taken_active = ap (λ (g : Ring). g.offset) taken_ring ∙ put_offset (retired q to) seq (Some s) ∙ retired_offset q to low

  -- the frame's id stands under its number; all numbers below the new active one are gone; all others are as they were
  pub taken_under : (n : ℕ) → under r.queue.ring n ≡ cond (eqb n seq) (Some s) (cond (ltb n to) None (under q n))
  taken_under n =
      let o : (retired q to).offset ≡ to = retired_offset q to low in
      let k : seq < to + 5 = omega (arith, to_from, h.near) in
      ap (λ (g : Ring). under g n) taken_ring
      ∙ under_put (retired q to) seq (Some s) n (rw o to_within) (rw o k)
      ∙ ap (λ (x : Option Cid). cond (eqb n seq) (Some s) x) (under_retired q to n low)

  -- the new active id is there, and the least
  taken_held : held r.queue.ring to ≡ true
  unfolding held
  taken_held =
      ap (λ (x : Option Cid). is_some x) (taken_under to)
      ∙ ⊎_elim
      (λ e. rw (eq-eqb to seq e))
      (λ e.
      by (eqb to seq)
      (λ f. rw f)
      (λ f. let g : to ≤ to = omega arith in rw (f, le-ltb to to g) e))
      to_held

  -- good form is kept by a frame with a token
  pub taken_sound : is_some s.token ≡ true → Sound r.queue.ring
  taken_sound k = record {
    small = rw taken_active (omega (arith, to_within, h.number));
    active = ap (held r.queue.ring) taken_active ∙ taken_held;
    each = λ n.
        ap (λ (x : Option Cid). fit x n) (taken_under n)
        ∙ ⊎_elim
        (λ e. let l : n < 2 ^ 62 = omega (arith, h.number) in rw (eq-eqb n seq e) (fit_known s n h.long l (rw k)))
        (λ d. rw (ne_eqb n seq d) (by (ltb n to) (λ f. rw f (vacant_fit n)) (λ f. rw f (h.good.each n))))
        (same n seq);
  }

-- a switch: the numbers below the next one are gone, all others are as they were
module _ (q : Ring) (r : Retirement) (h : Switched q r) where
  switch_ring : r.queue.ring ≡ retired q h.to
  switch_ring = rw h.is

  along : q.offset ≤ h.to
  along = omega (arith, h.after)

  pub switch_active : r.queue.ring.offset ≡ h.to
  switch_active = ap (λ (g : Ring). g.offset) switch_ring ∙ retired_offset q h.to along

  pub switch_under : (n : ℕ) → under r.queue.ring n ≡ cond (ltb n h.to) None (under q n)
  switch_under n = ap (λ (g : Ring). under g n) switch_ring ∙ under_retired q h.to n along

  pub switch_sound : Sound r.queue.ring
  unfolding held
  switch_sound = record {
    small = rw switch_active (held_small q h.good h.to h.next);
    active =
        ap (held r.queue.ring) switch_active ∙ ap (λ (x : Option Cid). is_some x) (switch_under h.to)
        ∙ (let g : h.to ≤ h.to = omega arith in rw (le-ltb h.to h.to g) h.next);
    each = λ n. ap (λ (x : Option Cid). fit x n) (switch_under n) ∙ by (ltb n h.to) (λ f. rw f (vacant_fit n)) (λ f. rw f (h.good.each n));
  }

-- a queue whose number 0 has an id of the handshake, over what was in good form
module _ (g : Ring) (f : ℕ → Option Cid) (id : List ℕ) (len : ℕ) (l : usable len ≡ true) (o : g.offset ≡ 0)
    (u : (n : ℕ) → under g n ≡ cond (eqb n 0) (Some (initial id len)) (f n)) (each : (n : ℕ) → fit (f n) n ≡ true) where
  zero_sound : Sound g
  unfolding held
  zero_sound = record {
    small = rw o (omega arith);
    active = ap (held g) o ∙ ap (λ (x : Option Cid). is_some x) (u 0);
    each = λ n.
        ap (λ (x : Option Cid). fit x n) (u n)
        ∙ ⊎_elim
        (λ e. let k : n < 2 ^ 62 = omega arith in rw (eq-eqb n 0 e) (fit_known (initial id len) n l k (rw (eq-eqb n 0 e))))
        (λ d. rw (ne_eqb n 0 d) (each n))
        (same n 0);
  }

-- the handshake's id replaced: nothing else changes
module _ (q : Ring) (id : List ℕ) (len : ℕ) (r : CidQueue) (h : Renewed q (initial id len) r) where
  abbrev new : Option Cid
  new = Some (initial id len)

  renew_ring : r.ring ≡ put q 0 new
  renew_ring = ap (λ (m : CidQueue). m.ring) h.is

  pub renew_active : r.ring.offset ≡ 0
  renew_active = ap (λ (g : Ring). g.offset) renew_ring ∙ put_offset q 0 new ∙ h.young

  pub renew_under : (n : ℕ) → under r.ring n ≡ cond (eqb n 0) new (under q n)
  renew_under n = ap (λ (g : Ring). under g n) renew_ring ∙ under_put q 0 new n (omega (arith, h.young)) (omega (arith, h.young))

  pub renew_sound : Sound r.ring
  renew_sound = zero_sound r.ring (under q) id len h.long renew_active renew_under h.good.each

-- a fresh queue holds the handshake's id under 0, and nothing else
under_empty : (n : ℕ) → under empty n ≡ None
unfolding empty
under_empty n = ⊎_elim (λ u. ring_in (λ x. None) 0 n (omega arith) u) (λ u. ring_past (λ x. None) 0 n u) (split n 5)

module _ (id : List ℕ) (len : ℕ) where
  -- a usable length is taken, and no other
  pub made_taken : usable len ≡ true → made id len ≡ Ok (queue (put empty 0 (Some (initial id len))))
  unfolding made
  made_taken l = rw l

  module _ (g : CidQueue) (e : made id len ≡ Ok g) where
    made_fresh : Fresh (initial id len) g
    made_fresh = rw e at (new_taken id len)

    pub made_long : usable len ≡ true
    made_long = made_fresh.long

    made_ring : g.ring ≡ put empty 0 (Some (initial id len))
    made_ring = ap (λ (m : CidQueue). m.ring) made_fresh.is

    pub made_active : g.ring.offset ≡ 0
    unfolding empty ring_of
    made_active = ap (λ (x : Ring). x.offset) made_ring ∙ put_offset empty 0 (Some (initial id len))

    pub made_under : (n : ℕ) → under g.ring n ≡ cond (eqb n 0) (Some (initial id len)) None
    unfolding empty ring_of
    made_under n =
        ap (λ (x : Ring). under x n) made_ring ∙ under_put empty 0 (Some (initial id len)) n (omega arith) (omega arith)
        ∙ ap (λ (x : Option Cid). cond (eqb n 0) (Some (initial id len)) x) (under_empty n)

    pub made_sound : Sound g.ring
    made_sound = zero_sound g.ring (λ n. None) id len made_long made_active made_under vacant_fit

-- the number n is to be retired
abbrev pub Among : Option Retired → ℕ → Type 0
Among None n = ⊥
Among (Some d) n = (d.start ≤ n) × (n < d.end)

-- What is retired: the numbers start..end, at least one. One that was held and is no longer is among them, and none of them is held; the new active
-- id's token is handed back.
pub record Parted (q : Ring) (r : Retirement) : Type 0 where
  pub gone : (n : ℕ) → held q n ≡ true → held r.queue.ring n ≡ false → Among r.retired n
  pub left : (n : ℕ) → Among r.retired n → held r.queue.ring n ≡ false
  pub some : (d : Retired) → r.retired ≡ Some d → d.start < d.end
  pub first : (d : Retired) → r.retired ≡ Some d → d.start ≡ q.offset
  pub token : (d : Retired) → r.retired ≡ Some d → token_of (under r.queue.ring r.queue.ring.offset) ≡ d.token

module _ (q : Ring) (to : ℕ) (next : Ring) (o : next.offset ≡ to) (l : q.offset ≤ to)
    (stays : (n : ℕ) → to ≤ n → held q n ≡ true → held next n ≡ true) where
  abbrev due : Retired
  due = record { start = q.offset; end = min to (q.offset + 5); token = token_of (under next to) }

  -- nothing is retired
  none_parted : to ≡ q.offset → Parted q (record { queue = queue next; retired = None })
  none_parted t = record {
    gone = λ n p f. clash (held next n) (stays n (omega (arith, held_from q n p)) p) f;
    left = λ n a. absurd a;
    some = λ d e. cc;
    first = λ d e. cc;
    token = λ d e. cc;
  }

  -- the numbers from the old active one up to the new are
  some_parted : q.offset < to → Parted q (record { queue = queue next; retired = Some due })
  some_parted u = record {
    gone = λ n p f.
        ⊎_elim
        (λ v. (held_from q n p, omega (arith, held_below q n p)))
        (λ v. clash (held next n) (stays n v p) f)
        (split n to);
    left = λ n a. by (held next n) (λ p. let z : ⊥ = omega (arith, held_from next n p) in absurd z) (λ p. p);
    some = λ d e. let f : due ≡ d = cc in rw (← f) (omega arith);
    first = λ d e. let f : due ≡ d = cc in rw (← f);
    token = λ d e. let f : due ≡ d = cc in ap (λ (x : ℕ). token_of (under next x)) o ∙ ap (λ (x : Retired). x.token) f;
  }

  pub parted : Parted q (moved q to next)
  unfolding parting
  parted =
      by (eqb to q.offset)
      (λ e. rw e (none_parted (eqb-true to q.offset e)))
      (λ e. rw e (some_parted (omega (arith, eqb-false to q.offset e))))

-- a frame that is taken retires what it says, and so does a switch
module _ (q : Ring) (seq prior : ℕ) (s : Cid) (r : Retirement) (h : Taken q seq prior s r) where
  pub taken_parted : Parted q r
  unfolding accepted held
  taken_parted =
      rw h.is (parted q to next (sym (ap (λ (g : Ring). g.offset) came) ∙ taken_active q seq prior s r h) (low q seq prior s r h) stays)
    where
      to : ℕ
      to = successor q seq (floor q prior)

      next : Ring
      next = put (retired q to) seq (Some s)

      came : r.queue.ring ≡ next
      came = taken_ring q seq prior s r h

      stays : (n : ℕ) → to ≤ n → held q n ≡ true → held next n ≡ true
      stays n l e =
          ap (λ (x : Option Cid). is_some x) (ap (λ (g : Ring). under g n) (sym came) ∙ taken_under q seq prior s r h n)
          ∙ by (eqb n seq) (λ f. rw f) (λ f. rw (f, le-ltb n to l) e)

pub switch_parted : (q : Ring) (r : Retirement) → Switched q r → Parted q r
unfolding held
switch_parted q r h =
    rw h.is
    (parted q h.to next (sym (ap (λ (g : Ring). g.offset) came) ∙ switch_active q r h) (along q r h) stays)
  where
    next : Ring
    next = retired q h.to

    came : r.queue.ring ≡ next
    came = switch_ring q r h

    stays : (n : ℕ) → h.to ≤ n → held q n ≡ true → held next n ≡ true
    stays n l e = ap (λ (x : Option Cid). is_some x) (ap (λ (g : Ring). under g n) (sym came) ∙ switch_under q r h n) ∙ rw (le-ltb n h.to l) e
