-- Every call keeps a record well formed: by the cases of its definition, with what the search and the detector keep of themselves.
-- Assumes nothing.
use mathlib.Core.Path.{◌≡◌, refl, subst}
use mathlib.Core.Bool.{true, false}
use Prim.Native.Nat.{ℕ, ◌+◌, ◌^◌, ◌≤◌, ◌<◌, min}
use native.Mathlib.Omega.{arith}
use lib.Dec.{ltb, leb}
use Rattle.std.specs.Prelude.{Option, None, Result, Ok}
use Rattle.answers.specs.declared.Refusal.{Refusal}
use borrow.Author.Tests.{ltb-true, leb-true, le-leb}
use Rattle.black_hole.specs.declared.BlackHoleDetector.{BlackHoleDetector}
use Rattle.black_hole.specs.BlackHole as hole
use Rattle.black_hole.proofs.Kept.{Sound, fresh_sound, probe_sound, delivered_sound, lost_sound, detected_sound, sound_good}
use Rattle.mtu_search.specs.declared.Turn.{Turn}
use Rattle.mtu_search.specs.declared.Turn.TheVariants.{Waiting, Probing, Over}
use Rattle.mtu_search.specs.Search as search
use Rattle.answers.proofs.Tests.{never, fst, snd, both}
use Rattle.mtu_search.proofs.Kept.{Fine, fine_good, TurnFine, turn_fine, first_fine, acked_fine, missed_fine}
use Rattle.mtu_search.proofs.History.{acked_upper, missed_upper}
use Rattle.mtud_history.proofs.Cases.{same_ok, never_ok, started_by, off_by, reset_by, polled_by, complete_by, rested_by, peer_by, acked_by, probe_by, lost_by, flying_by, packet_by, fallen_by, hole_by}
use Rattle.mtud_history.proofs.Turns.{TurnSends, turn_sends, first_sends}
use Rattle.mtu_phase.specs.declared.Phase.{Phase}
use Rattle.mtu_phase.specs.declared.Phase.TheVariants.{Off, Initial, Searching, Complete}
use Rattle.mtu_phase.specs.declared.MtuDiscoveryConfig.{MtuDiscoveryConfig}
use Rattle.mtud.specs.declared.MtuDiscovery.{MtuDiscovery}
use Rattle.mtud.specs.declared.Polled.{Polled}
use Rattle.mtud.specs.declared.Acked.{Acked}
use Rattle.mtud.specs.declared.Asked.{Asked}
use Rattle.mtu_phase.specs.Phase.{size_b, packet_b, good_config, good_phase, no_config, restarted, searching_b, off_b}
use Rattle.mtud.specs.Discovery.{or_most, good, put, watching, opened, started, switched_off, reset_to, quietly, begun_in, turned, turn_in, by_phase, polled, peer_received, delivered, by_acked, acked, by_lost, probe_lost, packet_lost, fallen, found, hole_asked}
use Rattle.mtud_history.specs.Left.{left, left_polled, left_acked, left_asked, peer_after}

-- ---- a good record, as facts
unfoldable pub PhaseFine : Phase → MtuDiscoveryConfig → ℕ → ℕ → Type 0
PhaseFine Off c current peer = Unit
PhaseFine Initial c current peer = good_config c ≡ true
PhaseFine (Searching s) c current peer = (good_config c ≡ true) × ((s.upper ≤ c.upper) × Fine s current peer)
PhaseFine (Complete until) c current peer = good_config c ≡ true

-- m is well formed, and p is the peer's maximum
pub record Held (m : MtuDiscovery) (p : ℕ) : Type 0 where
  pub low : 1200 ≤ m.current
  pub under : m.current ≤ (or_most m.peer)
  pub top : (or_most m.peer) ≤ 65527
  pub is : (or_most m.peer) ≡ p
  pub hole : Sound m.detector
  pub phase : PhaseFine m.phase m.config m.current (or_most m.peer)

size_low : (x : ℕ) → size_b x ≡ true → 1200 ≤ x
unfolding size_b
size_low x e = leb-true _ _ (fst (leb 1200 x) (leb x 65527) e)

size_high : (x : ℕ) → size_b x ≡ true → x ≤ 65527
unfolding size_b
size_high x e = leb-true _ _ (snd (leb 1200 x) (leb x 65527) e)

size_yes : (x : ℕ) → 1200 ≤ x → x ≤ 65527 → size_b x ≡ true
unfolding size_b
size_yes x a b = both (le-leb _ _ a) (le-leb _ _ b)

number_low : (n x : ℕ) → packet_b n x ≡ true → n < 2 ^ 62
unfolding packet_b
number_low n x e = ltb-true _ _ (fst (ltb n (2 ^ 62)) (leb x 65527) e)

length_low : (n x : ℕ) → packet_b n x ≡ true → x ≤ 65527
unfolding packet_b
length_low n x e = leb-true _ _ (snd (ltb n (2 ^ 62)) (leb x 65527) e)

pub change_some : (c : MtuDiscoveryConfig) → good_config c ≡ true → 0 < c.change
unfolding good_config
change_some c e = ltb-true _ _ (snd (size_b c.upper) (ltb 0 c.change) e)

-- ---- such a record passes the calls' check
phase_good : (p : Phase) (c : MtuDiscoveryConfig) (x y : ℕ) → PhaseFine p c x y → good_phase p c x y ≡ true
unfolding PhaseFine good_phase
phase_good Off c x y k = refl
phase_good Initial c x y k = k
phase_good (Searching s) c x y k = both k.0 (both (le-leb _ _ k.1.0) (fine_good s x y k.1.1))
phase_good (Complete until) c x y k = k

pub held_good : {m : MtuDiscovery} {p : ℕ} → Held m p → good m ≡ true
unfolding good
held_good {m} k =
    both (both (size_yes m.current k.low (omega (arith, k))) (le-leb _ _ k.under))
    (both (le-leb _ _ k.top) (both (sound_good m.detector k.hole) (phase_good m.phase m.config m.current (or_most m.peer) k.phase)))

-- ---- phases
-- all that is not a search says nothing of the sizes
phase_off : (p : Phase) (c : MtuDiscoveryConfig) (x y v w : ℕ) → searching_b p ≡ false → PhaseFine p c x y → PhaseFine p c v w
unfolding PhaseFine searching_b
phase_off Off c x y v w e k = tt
phase_off Initial c x y v w e k = k
phase_off (Searching s) c x y v w e k = let z : ◌≡◌ {A = ℕ} 0 1 = cc in let a : ⊥ = omega arith in absurd a
phase_off (Complete until) c x y v w e k = k

phase_restarted : (p : Phase) (c : MtuDiscoveryConfig) (x y v w : ℕ) → PhaseFine p c x y → PhaseFine (restarted p) c v w
unfolding PhaseFine restarted
phase_restarted Off c x y v w k = tt
phase_restarted Initial c x y v w k = k
phase_restarted (Searching s) c x y v w k = k.0
phase_restarted (Complete until) c x y v w k = k

-- a phase that is not off has good settings
phase_config : (p : Phase) (c : MtuDiscoveryConfig) (x y : ℕ) → off_b p ≡ false → PhaseFine p c x y → good_config c ≡ true
unfolding PhaseFine off_b
phase_config Off c x y e k = let z : ◌≡◌ {A = ℕ} 0 1 = cc in let a : ⊥ = omega arith in absurd a
phase_config Initial c x y e k = k
phase_config (Searching s) c x y e k = k.0
phase_config (Complete until) c x y e k = k

-- a phase that is off says nothing of the sizes
phase_none : (p : Phase) (c : MtuDiscoveryConfig) (x y v w : ℕ) → off_b p ≡ true → PhaseFine p c x y → PhaseFine p c v w
unfolding PhaseFine off_b
phase_none Off c x y v w e k = tt
phase_none Initial c x y v w e k = k
phase_none (Searching s) c x y v w e k = never e
phase_none (Complete until) c x y v w e k = k

-- ---- fresh records
opened_held : (x least : ℕ) (q : Option ℕ) (c : MtuDiscoveryConfig) (p : Phase) → size_b x ≡ true → size_b least ≡ true → 1200 ≤ or_most q → or_most q ≤ 65527
    → ((v : ℕ) → PhaseFine p c v (or_most q)) → Held (opened x least q c p) (or_most q)
unfolding opened
opened_held x least q c p ex el lo hi ph =
    record {
      low = omega (arith, size_low x ex);
      under = omega arith;
      top = hi;
      is = refl;
      hole = fresh_sound least (size_low least el) (size_high least el);
      phase = ph (min x (or_most q));
    }

pub started_held : (initial least : ℕ) (q : Option ℕ) (c : MtuDiscoveryConfig) (m : MtuDiscovery) → started initial least q c ≡ Ok m → Held m (or_most q)
unfolding PhaseFine
started_held initial least q c m =
    started_by (λ (r : Result MtuDiscovery Refusal). r ≡ Ok m → Held m (or_most q)) initial least q c
    (λ i l s g e.
    subst (λ (x : MtuDiscovery). Held x (or_most q)) (same_ok e)
    (opened_held initial least q c Initial i l (size_low (or_most q) s) (size_high (or_most q) s) (λ v. g)))
    (λ e. never_ok e)

pub off_held : (x least : ℕ) (m : MtuDiscovery) → switched_off x least ≡ Ok m → Held m 65527
unfolding PhaseFine
off_held x least m =
    off_by (λ (r : Result MtuDiscovery Refusal). r ≡ Ok m → Held m 65527) x least
    (λ s l e. subst (λ (y : MtuDiscovery). Held y 65527) (same_ok e) (opened_held x least None no_config Off s l (omega arith) (omega arith) (λ v. tt))) (λ e. never_ok e)

-- ---- the calls
module _ (m : MtuDiscovery) (p : ℕ) (k : Held m p) where
  abbrev Kept : Result MtuDiscovery Refusal → Type 0
  Kept r = Held (left m r) p

  abbrev KeptPolled : Result Polled Refusal → Type 0
  KeptPolled r = Held (left_polled m r) p

  pub reset_held : (x least : ℕ) → Kept (reset_to m x least)
  reset_held x least =
      reset_by Kept m x least
      (λ s l.
      rw (← k.is)
      (opened_held x least m.peer m.config (restarted m.phase) s l (omega (arith, k)) k.top
      (λ v. phase_restarted m.phase m.config m.current (or_most m.peer) v (or_most m.peer) k.phase)))
      k

  -- another phase, another detector
  put_held : (x : ℕ) (q : Phase) (d : BlackHoleDetector) → 1200 ≤ x → x ≤ (or_most m.peer) → Sound d → PhaseFine q m.config x (or_most m.peer) → Held (put m x q d) p
  put_held x q d lo hi s f = record { low = lo; under = hi; top = k.top; is = k.is; hole = s; phase = f }

  turned_held : (t : Turn) (now : ℕ) → good_config m.config ≡ true → TurnFine t m.current (or_most m.peer) → TurnSends t m.config.upper → KeptPolled (turned t m now)
  unfolding turned TurnFine TurnSends PhaseFine
  turned_held Waiting now c f u = k
  turned_held (Probing s) now c f u = put_held m.current (Searching s) m.detector k.low k.under k.hole (c, (u.1, f))
  turned_held Over now c f u =
      rested_by (λ (r : Result MtuDiscovery Refusal). KeptPolled (quietly r)) m now m.config.interval
      (λ e. put_held m.current (Complete (now + m.config.interval)) m.detector k.low k.under k.hole c) k

  begun_held : (now n : ℕ) → good_config m.config ≡ true → n < 2 ^ 62 → KeptPolled (turn_in m (begun_in m) now n)
  begun_held now n c h =
      turned_held (search.turn (begun_in m) m.config.change n) now c
      (first_fine m.current (or_most m.peer) m.config.upper m.config.change n k.low k.under (change_some m.config c) h)
      (first_sends m.current (or_most m.peer) m.config.upper m.config.change n (change_some m.config c))

  polled_at : (q : Phase) (now n : ℕ) → PhaseFine q m.config m.current (or_most m.peer) → n < 2 ^ 62 → KeptPolled (by_phase q m now n)
  unfolding by_phase PhaseFine
  polled_at Off now n f h = k
  polled_at Initial now n f h = begun_held now n f h
  polled_at (Searching s) now n f h =
      turned_held (search.turn s m.config.change n) now f.0 (turn_fine s m.current (or_most m.peer) f.1.1 m.config.change n (change_some m.config f.0) h)
      (turn_sends s m.current (or_most m.peer) f.1.1 m.config.change n m.config.upper f.1.0)
  polled_at (Complete until) now n f h = complete_by KeptPolled m until now n (λ e. k) (λ e. begun_held now n f h)

  pub polled_held : (now n : ℕ) → KeptPolled (polled m now n)
  polled_held now n = polled_by KeptPolled m now n (λ h. polled_at m.phase now n k.phase h) k

  -- the peer's maximum is the new one exactly if the call is not refused
  pub peer_held : (x : ℕ) → Held (left m (peer_received m x)) (peer_after (peer_received m x) x p)
  peer_held x =
      peer_by (λ (r : Result MtuDiscovery Refusal). Held (left m r) (peer_after r x p)) m x (λ f. k)
      (λ s f.
      record {
        low = omega (arith, size_low x s, k.low);
        under = omega arith;
        top = size_high x s;
        is = refl;
        hole = k.hole;
        phase = phase_off m.phase m.config m.current (or_most m.peer) (min m.current x) x f k.phase;
      })
      k

  delivered_held : (n x : ℕ) → n < 2 ^ 62 → x ≤ 65527 → Held (delivered m n x).mtud p
  delivered_held n x hn hx = put_held m.current m.phase _ k.low k.under (delivered_sound m.detector k.hole n x hn hx) k.phase

  acked_at_law : (q : Phase) (n x : ℕ) → PhaseFine q m.config m.current (or_most m.peer) → n < 2 ^ 62 → x ≤ 65527 → Held (by_acked q m n x).mtud p
  unfolding by_acked PhaseFine
  acked_at_law Off n x f hn hx = delivered_held n x hn hx
  acked_at_law Initial n x f hn hx = delivered_held n x hn hx
  acked_at_law (Complete until) n x f hn hx = delivered_held n x hn hx
  acked_at_law (Searching s) n x f hn hx =
      let g : Fine s m.current (or_most m.peer) = f.1.1 in
      probe_by (λ (r : Acked). Held r.mtud p) m s n x
      (λ e.
      put_held s.last (Searching (search.acked s)) _ (omega (arith, g)) (omega (arith, g)) (probe_sound m.detector k.hole n x hn hx)
      (f.0, (omega (arith, acked_upper s, f.1.0), acked_fine s m.current (or_most m.peer) g)))
      (delivered_held n x hn hx)

  pub acked_held : (n x : ℕ) → Held (left_acked m (acked m n x)) p
  acked_held n x =
      acked_by (λ (r : Result Acked Refusal). Held (left_acked m r) p) m n x (λ s. acked_at_law m.phase n x k.phase (number_low n x s) (length_low n x s)) k

  lost_at_law : (q : Phase) → PhaseFine q m.config m.current (or_most m.peer) → Kept (by_lost q m)
  unfolding by_lost PhaseFine
  lost_at_law Off f = k
  lost_at_law Initial f = k
  lost_at_law (Complete until) f = k
  lost_at_law (Searching s) f =
      flying_by Kept m s
      (λ e.
      put_held m.current (Searching (search.missed s)) m.detector k.low k.under k.hole
      (f.0, (omega (arith, missed_upper s, f.1.0), missed_fine s m.current (or_most m.peer) f.1.1 e)))
      k

  pub probe_lost_held : Kept (probe_lost m)
  probe_lost_held = lost_by Kept m (lost_at_law m.phase k.phase) k

  pub packet_lost_held : (n x : ℕ) → Kept (packet_lost m n x)
  packet_lost_held n x =
      packet_by Kept m n x k
      (λ s. put_held m.current m.phase _ k.low k.under (lost_sound m.detector n x k.hole (number_low n x s) (length_low n x s)) k.phase) k

  -- with the detector d, which has found a black hole
  fallen_held : (d : BlackHoleDetector) (now : ℕ) → Sound d → Held (left_asked m (found (fallen (watching m d) now))) p
  unfolding PhaseFine
  fallen_held d now s =
      let lo : 1200 ≤ min d.minimum (or_most m.peer) = omega (arith, s, k) in
      let hi : min d.minimum (or_most m.peer) ≤ (or_most m.peer) = omega arith in
      let x = min d.minimum (or_most m.peer) in
      fallen_by (λ (r : Result MtuDiscovery Refusal). Held (left_asked m (found r)) p) (watching m d) now
      (λ e. put_held x m.phase d lo hi s (phase_none m.phase m.config m.current (or_most m.peer) x (or_most m.peer) e k.phase))
      (λ e. put_held x (Complete (now + m.config.cooldown)) d lo hi s (phase_config m.phase m.config m.current (or_most m.peer) e k.phase)) k

  pub hole_held : (now : ℕ) → Held (left_asked m (hole_asked m now)) p
  hole_held now =
      let s = detected_sound m.detector k.hole in
      hole_by (λ (r : Result Asked Refusal). Held (left_asked m r) p) m now (fallen_held (hole.detected m.detector).detector now s)
      (put_held m.current m.phase (hole.detected m.detector).detector k.low k.under s k.phase) k
