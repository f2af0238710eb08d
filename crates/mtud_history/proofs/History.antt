-- After any calls from a fresh start the record is well formed, so that the MTU is between 1,200 and the peer's maximum, and at most four bursts are kept.
-- A history is made of what the functions' own contracts allow; each call keeps the form (Kept), so by induction on the history. Assumes nothing.
use mathlib.Core.Path.{◌≡◌, sym, ◌∙◌}
use mathlib.Core.Bool.{true}
use Prim.Native.Nat.{ℕ, ◌≤◌}
use native.Mathlib.Omega.{arith}
use Rattle.std.specs.Prelude.{Option, Result, Ok}
use Rattle.answers.specs.declared.Refusal.{Refusal}
use Rattle.mtu_phase.specs.declared.MtuDiscoveryConfig.{MtuDiscoveryConfig}
use Rattle.mtud.specs.declared.MtuDiscovery.{MtuDiscovery}
use Rattle.mtud.specs.declared.Polled.{Polled}
use Rattle.mtud.specs.declared.Acked.{Acked}
use Rattle.mtud.specs.declared.Asked.{Asked}
use Rattle.mtud.specs.declared.View.{View}
use Rattle.mtud.specs.Discovery.{size_of, viewed, shown, good}
use Rattle.mtud_history.specs.Left.{left, left_polled, left_acked, left_asked, peer_after}
use Rattle.mtud_history.specs.Bounds.{peer_of}
use Rattle.mtud_history.proofs.Calls.{New, Disabled, Reset, Poll, Peer, OnAcked, ProbeLost, Lost, Hole, CurrentMtu, Viewed}
use Rattle.mtud_history.proofs.Kept.{Held, held_good, started_held, off_held, reset_held, polled_held, peer_held, acked_held, probe_lost_held, packet_lost_held, hole_held}

-- after some calls, refused or not, the record is m, and p is the peer's maximum received last
pub data Run : ℕ → MtuDiscovery → Type 0 where
  begun : (initial least : ℕ) (q : Option ℕ) (c : MtuDiscoveryConfig) (m : MtuDiscovery) → New initial least q c (Ok m) → Run (peer_of q) m
  off : (x least : ℕ) (m : MtuDiscovery) → Disabled x least (Ok m) → Run 65527 m
  reset : {p : ℕ} {m : MtuDiscovery} (x least : ℕ) (r : Result MtuDiscovery Refusal) → Run p m → Reset m x least r → Run p (left m r)
  poll : {p : ℕ} {m : MtuDiscovery} (now n : ℕ) (r : Result Polled Refusal) → Run p m → Poll m now n r → Run p (left_polled m r)
  peer : {p : ℕ} {m : MtuDiscovery} (x : ℕ) (r : Result MtuDiscovery Refusal) → Run p m → Peer m x r → Run (peer_after r x p) (left m r)
  ack : {p : ℕ} {m : MtuDiscovery} (n x : ℕ) (r : Result Acked Refusal) → Run p m → OnAcked m n x r → Run p (left_acked m r)
  miss : {p : ℕ} {m : MtuDiscovery} (r : Result MtuDiscovery Refusal) → Run p m → ProbeLost m r → Run p (left m r)
  lose : {p : ℕ} {m : MtuDiscovery} (n x : ℕ) (r : Result MtuDiscovery Refusal) → Run p m → Lost m n x r → Run p (left m r)
  ask : {p : ℕ} {m : MtuDiscovery} (now : ℕ) (r : Result Asked Refusal) → Run p m → Hole m now r → Run p (left_asked m r)

pub held : {p : ℕ} {m : MtuDiscovery} → Run p m → Held m p
held (begun initial least q c m e) = started_held initial least q c m (sym e)
held (off x least m e) = off_held x least m (sym e)
held (reset {p} {m} x least r h e) = rw e (reset_held m p (held h) x least)
held (poll {p} {m} now n r h e) = rw e (polled_held m p (held h) now n)
held (peer {p} {m} x r h e) = rw e (peer_held m p (held h) x)
held (ack {p} {m} n x r h e) = rw e (acked_held m p (held h) n x)
held (miss {p} {m} r h e) = rw e (probe_lost_held m p (held h))
held (lose {p} {m} n x r h e) = rw e (packet_lost_held m p (held h) n x)
held (ask {p} {m} now r h e) = rw e (hole_held m p (held h) now)

-- no call refuses a record for its form
pub well_formed_law : {p : ℕ} {m : MtuDiscovery} → Run p m → good m ≡ true
well_formed_law h = held_good (held h)

pub size_is : (m : MtuDiscovery) (r : Result ℕ Refusal) → r ≡ size_of m → good m ≡ true → r ≡ Ok m.current
unfolding size_of
size_is m r e g = e ∙ rw g

-- the theorem: after any calls from a fresh start, current_mtu answers the MTU, a size between 1,200 and the peer's maximum
pub mtu_between : {p : ℕ} {m : MtuDiscovery} {r : Result ℕ Refusal} → Run p m → CurrentMtu m r → (r ≡ Ok m.current) × ((1200 ≤ m.current) × (m.current ≤ p))
mtu_between {p} {m} {r} h e = let k = held h in (size_is m r e (held_good k), (k.low, omega (arith, k.under, k.is)))

view_is : (m : MtuDiscovery) (r : Result View Refusal) → r ≡ viewed m → good m ≡ true → r ≡ Ok (shown m)
unfolding viewed
view_is m r e g = e ∙ rw g

-- view answers OK, and at most four bursts are kept
pub four_bursts : {p : ℕ} {m : MtuDiscovery} {r : Result View Refusal} → Run p m → Viewed m r → (r ≡ Ok (shown m)) × ((shown m).detector.bursts.count ≤ 4)
four_bursts {p} {m} {r} h e = let k = held h in (view_is m r e (held_good k), k.hole.bursts.few)
