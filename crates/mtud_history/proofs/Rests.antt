-- A rest is quiet: from the poll that begins it on, no probe goes out before its end, whatever is called besides. No call ends a rest but a poll at its end or
-- later, a black hole and a reset. Assumes nothing.
use mathlib.Core.Path.{◌≡◌, refl, ap, sym, ◌∙◌}
use Prim.Native.Nat.{ℕ, ◌+◌, ◌<◌}
use mathlib.Core.Bool.{false}
use Rattle.std.specs.Prelude.{None, Result, Ok, is_ok}
use Rattle.answers.specs.declared.Refusal.{Refusal}
use Rattle.answers.proofs.Tests.{never}
use borrow.Author.Tests.{lt-ltb}
use Rattle.black_hole.specs.BlackHole as hole
use Rattle.mtu_phase.specs.declared.Phase.{Phase}
use Rattle.mtu_phase.specs.declared.Phase.TheVariants.{Complete}
use Rattle.mtud.specs.declared.MtuDiscovery.{MtuDiscovery}
use Rattle.mtud.specs.declared.Polled.{Polled}
use Rattle.mtud.specs.declared.Acked.{Acked}
use Rattle.mtud.specs.declared.Asked.{Asked}
use Rattle.mtud.specs.Discovery.{quiet, watching, reset_to, by_phase, polled, peer_received, by_acked, acked, by_lost, probe_lost, packet_lost, found, hole_asked}
use Rattle.mtud_history.specs.Left.{left, left_polled, left_acked, left_asked, probe_of, was_hole}
use Rattle.mtud_history.proofs.Cases.{reset_by, polled_by, peer_by, acked_by, lost_by, packet_by, fallen_by, hole_by}
use Rattle.mtud_history.proofs.Calls.{Reset, Poll, Peer, OnAcked, ProbeLost, Lost, Hole}
use Rattle.mtud_history.proofs.Ends.{Rests}

-- since the rest until `until` began there were calls of any kind, but no poll at its end or later, no black hole, and no reset that was not refused
pub data Resting (until : ℕ) : MtuDiscovery → Type 0 where
  rests : {m : MtuDiscovery} → m.phase ≡ Complete until → Resting until m
  poll : {m : MtuDiscovery} (now n : ℕ) (r : Result Polled Refusal) → Resting until m → Poll m now n r → now < until → Resting until (left_polled m r)
  peer : {m : MtuDiscovery} (x : ℕ) (r : Result MtuDiscovery Refusal) → Resting until m → Peer m x r → Resting until (left m r)
  ack : {m : MtuDiscovery} (n x : ℕ) (r : Result Acked Refusal) → Resting until m → OnAcked m n x r → Resting until (left_acked m r)
  miss : {m : MtuDiscovery} (r : Result MtuDiscovery Refusal) → Resting until m → ProbeLost m r → Resting until (left m r)
  lose : {m : MtuDiscovery} (n x : ℕ) (r : Result MtuDiscovery Refusal) → Resting until m → Lost m n x r → Resting until (left m r)
  ask : {m : MtuDiscovery} (now : ℕ) (r : Result Asked Refusal) → Resting until m → Hole m now r → was_hole r ≡ false → Resting until (left_asked m r)
  reset : {m : MtuDiscovery} (x least : ℕ) (r : Result MtuDiscovery Refusal) → Resting until m → Reset m x least r → is_ok r ≡ false → Resting until (left m r)

-- a poll that rests begins one, for the configured interval
pub rests_resting : (m : MtuDiscovery) (now : ℕ) {r : Result Polled Refusal} → Rests m now r → Resting (now + m.config.interval) (left_polled m r)
rests_resting m now k = rests (ap (λ (r : Result Polled Refusal). (left_polled m r).phase) k)

module _ (m : MtuDiscovery) (until : ℕ) (k : m.phase ≡ Complete until) where
  abbrev Still : Result MtuDiscovery Refusal → Type 0
  Still r = (left m r).phase ≡ Complete until

  abbrev Quiet : Result Polled Refusal → Type 0
  Quiet r = (probe_of r ≡ None) × ((left_polled m r).phase ≡ Complete until)

  poll_rests : (now n : ℕ) → now < until → Quiet (polled m now n)
  unfolding by_phase
  poll_rests now n h =
      let i : by_phase m.phase m now n ≡ Ok (quiet m) = ap (λ (q : Phase). by_phase q m now n) k ∙ rw (lt-ltb now until h) in
      polled_by Quiet m now n
      (λ hn. (ap (λ (r : Result Polled Refusal). probe_of r) i, ap (λ (r : Result Polled Refusal). (left_polled m r).phase) i ∙ k)) (refl, k)

  peer_rests : (x : ℕ) → Still (peer_received m x)
  peer_rests x = peer_by Still m x (λ e. k) (λ e f. k) k

  ack_rests : (n x : ℕ) → (left_acked m (acked m n x)).phase ≡ Complete until
  unfolding by_acked
  ack_rests n x =
      acked_by (λ (r : Result Acked Refusal). (left_acked m r).phase ≡ Complete until) m n x (λ e. ap (λ (q : Phase). (by_acked q m n x).mtud.phase) k ∙ k) k

  miss_rests : Still (probe_lost m)
  unfolding by_lost
  miss_rests = lost_by Still m (ap (λ (q : Phase). (left m (by_lost q m)).phase) k ∙ k) k

  lose_rests : (n x : ℕ) → Still (packet_lost m n x)
  lose_rests n x = packet_by Still m n x k (λ e. k) k

  -- a black hole is found, unless the time of the rest after it does not fit
  abbrev Unasked : Result Asked Refusal → Type 0
  Unasked r = was_hole r ≡ false → (left_asked m r).phase ≡ Complete until

  ask_rests : (now : ℕ) → Unasked (hole_asked m now)
  ask_rests now =
      let d = (hole.detected m.detector).detector in
      hole_by Unasked m now
      (fallen_by (λ (r : Result MtuDiscovery Refusal). Unasked (found r)) (watching m d) now (λ f e. never (sym e)) (λ f e. never (sym e)) (λ e. k)) (λ e. k) (λ e. k)

  reset_rests : (x least : ℕ) → is_ok (reset_to m x least) ≡ false → Still (reset_to m x least)
  reset_rests x least = reset_by (λ (r : Result MtuDiscovery Refusal). is_ok r ≡ false → Still r) m x least (λ s l d. never (sym d)) (λ d. k)

still : {until : ℕ} {m : MtuDiscovery} → Resting until m → m.phase ≡ Complete until
still (rests k) = k
still {until} (poll {m} now n r h e l) = rw e (poll_rests m until (still h) now n l).1
still {until} (peer {m} x r h e) = rw e (peer_rests m until (still h) x)
still {until} (ack {m} n x r h e) = rw e (ack_rests m until (still h) n x)
still {until} (miss {m} r h e) = rw e (miss_rests m until (still h))
still {until} (lose {m} n x r h e) = rw e (lose_rests m until (still h) n x)
still {until} (ask {m} now r h e z) = rw e (ask_rests m until (still h) now (ap (λ (d : Result Asked Refusal). was_hole d) (sym e) ∙ z))
still {until} (reset {m} x least r h e d) =
    rw e (reset_rests m until (still h) x least (ap (λ (y : Result MtuDiscovery Refusal). is_ok y) (sym e) ∙ d))

-- the theorem: no probe goes out before the rest is over
pub rest_quiet : {until : ℕ} {m : MtuDiscovery} (now n : ℕ) (r : Result Polled Refusal) → Resting until m → Poll m now n r → now < until → probe_of r ≡ None
rest_quiet {until} {m} now n r h e l = ap (λ (d : Result Polled Refusal). probe_of d) e ∙ (poll_rests m until (still h) now n l).0
