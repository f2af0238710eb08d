-- One search, from its first probe on, whatever is called and answered in whatever order: each call that touches it is a call of the search's own
-- (mtu_search, History), so what holds of those holds here. A history is made of what the functions' own contracts allow. Assumes nothing.
use mathlib.Core.Path.{◌≡◌, refl, ap, sym, ◌∙◌, subst}
use mathlib.Core.Bool.{true, false}
use mathlib.Core.List.{List, [], ◌∷◌}
use Prim.Native.Nat.{ℕ, ◌^◌, ◌≤◌, ◌<◌}
use native.Mathlib.Omega.{arith}
use lib.Dec.{eqb}
use Rattle.std.specs.Prelude.{None, Some, Result, Ok, is_ok}
use Rattle.answers.specs.declared.Refusal.{Refusal}
use Rattle.black_hole.specs.declared.BlackHoleDetector.{BlackHoleDetector}
use Rattle.black_hole.specs.BlackHole as hole
use Rattle.mtu_search.specs.declared.SearchState.{SearchState}
use Rattle.mtu_search.specs.declared.Turn.{Turn}
use Rattle.mtu_search.specs.declared.Turn.TheVariants.{Waiting, Probing, Over}
use Rattle.mtu_search.specs.Search as search
use Rattle.answers.proofs.Tests.{never, fst}
use Rattle.mtu_search.proofs.Kept.{Fine}
use Rattle.mtu_phase.specs.declared.Phase.{Phase}
use Rattle.mtu_phase.specs.declared.Phase.TheVariants.{Off, Initial, Searching, Complete}
use Rattle.mtu_phase.specs.declared.MtuDiscoveryConfig.{MtuDiscoveryConfig}
use Rattle.mtud.specs.declared.MtuDiscovery.{MtuDiscovery}
use Rattle.mtud.specs.declared.Polled.{Polled}
use Rattle.mtud.specs.declared.Acked.{Acked}
use Rattle.mtud.specs.declared.Asked.{Asked}
use Rattle.mtu_phase.specs.Phase.{good_config, restarted, searching_b, off_b}
use Rattle.mtud.specs.Discovery.{or_most, at, watching, opened, reset_to, quietly, rested, begun_in, turned, turn_in, by_phase, polled, peer_received, is_probe, delivered, by_acked, acked, by_lost, probe_lost, packet_lost, fallen, found, hole_asked}
use Rattle.mtud_history.specs.Left.{left, left_polled, left_acked, left_asked, probe_of, was_probe}
use Rattle.mtud_history.proofs.Cases.{same_some, never_some, never_none, reset_by, polled_by, complete_by, rested_by, peer_by, acked_by, probe_by, lost_by, flying_by, packet_by, fallen_by, hole_by}
use Rattle.mtud_history.proofs.Calls.{Reset, Poll, Peer, OnAcked, ProbeLost, Lost, Hole}
use Rattle.mtud_history.proofs.Kept.{PhaseFine, Held, change_some, polled_held, acked_held, probe_lost_held, packet_lost_held, hole_held}
use Rattle.mtud_history.proofs.History.{Run, held}
use Rattle.mtu_search.proofs.History.{Steps, opens, probes, acks, loses, Any, Fit, newest, sure}

-- zs are the sizes of the probes of the search that runs in m, the newest first. A search begins with a probe sent while none ran; it goes on, through calls of
-- any kind, refused or not, as long as the record is searching
pub data Search : List ℕ → MtuDiscovery → Type 0 where
  begins : {p : ℕ} {m : MtuDiscovery} (now n x : ℕ) (r : Result Polled Refusal) → Run p m → searching_b m.phase ≡ false → Poll m now n r → probe_of r ≡ Some x
      → Search (x ∷ []) (left_polled m r)
  sends : {zs : List ℕ} {m : MtuDiscovery} (now n x : ℕ) (r : Result Polled Refusal) → Search zs m → Poll m now n r → probe_of r ≡ Some x
      → Search (x ∷ zs) (left_polled m r)
  waits : {zs : List ℕ} {m : MtuDiscovery} (now n : ℕ) (r : Result Polled Refusal) → Search zs m → Poll m now n r → probe_of r ≡ None
      → searching_b (left_polled m r).phase ≡ true → Search zs (left_polled m r)
  ack : {zs : List ℕ} {m : MtuDiscovery} (n x : ℕ) (r : Result Acked Refusal) → Search zs m → OnAcked m n x r → Search zs (left_acked m r)
  miss : {zs : List ℕ} {m : MtuDiscovery} (r : Result MtuDiscovery Refusal) → Search zs m → ProbeLost m r → Search zs (left m r)
  lose : {zs : List ℕ} {m : MtuDiscovery} (n x : ℕ) (r : Result MtuDiscovery Refusal) → Search zs m → Lost m n x r → Search zs (left m r)
  peer : {zs : List ℕ} {m : MtuDiscovery} (x : ℕ) (r : Result MtuDiscovery Refusal) → Search zs m → Peer m x r → Search zs (left m r)
  ask : {zs : List ℕ} {m : MtuDiscovery} (now : ℕ) (r : Result Asked Refusal) → Search zs m → Hole m now r → searching_b (left_asked m r).phase ≡ true
      → Search zs (left_asked m r)
  reset : {zs : List ℕ} {m : MtuDiscovery} (x least : ℕ) (r : Result MtuDiscovery Refusal) → Search zs m → Reset m x least r
      → searching_b (left m r).phase ≡ true → Search zs (left m r)

-- the record with which it began
unfoldable pub start_of : {zs : List ℕ} {m : MtuDiscovery} → Search zs m → MtuDiscovery
start_of (begins {p} {m} now n x r h g e d) = m
start_of (sends now n x r h e d) = start_of h
start_of (waits now n r h e z g) = start_of h
start_of (ack n x r h e) = start_of h
start_of (miss r h e) = start_of h
start_of (lose n x r h e) = start_of h
start_of (peer x r h e) = start_of h
start_of (ask now r h e g) = start_of h
start_of (reset x least r h e g) = start_of h

-- a probe is acknowledged only where the newest probe has a size in Ack, and is lost only where that has a size in Miss
unfoldable pub Obeys : (Ack Miss : ℕ → Type 0) {zs : List ℕ} {m : MtuDiscovery} → Search zs m → Type 0
Obeys Ack Miss (begins now n x r h g e d) = Unit
Obeys Ack Miss (sends now n x r h e d) = Obeys Ack Miss h
Obeys Ack Miss (waits now n r h e z g) = Obeys Ack Miss h
Obeys Ack Miss (ack {zs} n x r h e) = Obeys Ack Miss h × (was_probe r ≡ true → Ack (newest zs))
Obeys Ack Miss (miss {zs} r h e) = Obeys Ack Miss h × (is_ok r ≡ true → Miss (newest zs))
Obeys Ack Miss (lose n x r h e) = Obeys Ack Miss h
Obeys Ack Miss (peer x r h e) = Obeys Ack Miss h
Obeys Ack Miss (ask now r h e g) = Obeys Ack Miss h
Obeys Ack Miss (reset x least r h e g) = Obeys Ack Miss h

-- every history does so for sizes of all kinds
pub free : {zs : List ℕ} {m : MtuDiscovery} (h : Search zs m) → Obeys Any Any h
unfolding Obeys
free (begins now n x r h g e d) = tt
free (sends now n x r h e d) = free h
free (waits now n r h e z g) = free h
free (ack n x r h e) = (free h, λ z. tt)
free (miss r h e) = (free h, λ z. tt)
free (lose n x r h e) = free h
free (peer x r h e) = free h
free (ask now r h e g) = free h
free (reset x least r h e g) = free h

-- what holds throughout, of a search that began with the record o
pub record Going (Ack Miss : ℕ → Type 0) (o : MtuDiscovery) (zs : List ℕ) (m : MtuDiscovery) : Type 0 where
  pub peer : ℕ
  pub held : Held m peer
  pub fit : Fit o.current (or_most o.peer) o.config.change
  pub same : m.config ≡ o.config
  pub state : SearchState
  pub at : m.phase ≡ Searching state
  pub steps : Steps Ack Miss o.current (or_most o.peer) o.config.upper o.config.change zs state

-- what a good record says of its search
phase_facts : (q : Phase) (s : SearchState) (m : MtuDiscovery) → q ≡ Searching s → PhaseFine q m.config m.current (or_most m.peer)
    → (good_config m.config ≡ true) × ((s.upper ≤ m.config.upper) × Fine s m.current (or_most m.peer))
unfolding PhaseFine
phase_facts q s m e f = subst (λ (x : Phase). PhaseFine x m.config m.current (or_most m.peer)) e f

-- ---- a probe is asked for
pub over_none : (m : MtuDiscovery) (now : ℕ) → probe_of (quietly (rested m now m.config.interval)) ≡ None
over_none m now = rested_by (λ (r : Result MtuDiscovery Refusal). probe_of (quietly r) ≡ None) m now m.config.interval (λ e. refl) refl

-- a turn that sends none, after which the search runs, has changed nothing
turned_waits : (m : MtuDiscovery) (now : ℕ) (t : Turn) → probe_of (turned t m now) ≡ None → searching_b (left_polled m (turned t m now)).phase ≡ true
    → left_polled m (turned t m now) ≡ m
unfolding turned searching_b
turned_waits m now Waiting e g = refl
turned_waits m now (Probing t) e g = never_none e
turned_waits m now Over e g =
    rested_by (λ (r : Result MtuDiscovery Refusal). searching_b (left_polled m (quietly r)).phase ≡ true → left_polled m (quietly r) ≡ m) m now m.config.interval
    (λ h z. never z) (λ z. refl) g

pub not_restarted : (q : Phase) → searching_b (restarted q) ≡ true → ⊥
unfolding searching_b restarted
not_restarted Off e = never e
not_restarted Initial e = never e
not_restarted (Searching s) e = never e
not_restarted (Complete until) e = never e

not_off_searching : (q : Phase) → off_b q ≡ true → searching_b q ≡ true → ⊥
unfolding searching_b off_b
not_off_searching Off e f = never f
not_off_searching Initial e f = never e
not_off_searching (Searching s) e f = never e
not_off_searching (Complete until) e f = never e

-- the packet that is the probe in flight
probe_flies : (s : SearchState) (n : ℕ) → is_probe s n ≡ true → s.flying ≡ true
unfolding is_probe
probe_flies s n e = fst s.flying (eqb s.probe n) e

facts : (m : MtuDiscovery) (p : ℕ) (s : SearchState) → Held m p → m.phase ≡ Searching s → (good_config m.config ≡ true) × Fine s m.current (or_most m.peer)
facts m p s k e = let f = phase_facts m.phase s m e k.phase in (f.0, f.1.1)

module _ (Ack Miss : ℕ → Type 0) (o : MtuDiscovery) (zs : List ℕ) (m : MtuDiscovery) (k : Going Ack Miss o zs m) where
  abbrev s : SearchState
  s = k.state

  pub fine : (good_config m.config ≡ true) × Fine s m.current (or_most m.peer)
  fine = facts m k.peer s k.held k.at

  -- in a search a poll is the search's turn
  pub turn_is : (now n : ℕ) → by_phase m.phase m now n ≡ turn_in m s now n
  unfolding by_phase
  turn_is now n = ap (λ (q : Phase). by_phase q m now n) k.at

  -- the same with the settings that it began with
  pub turn_at : (n : ℕ) → search.turn s m.config.change n ≡ search.turn s o.config.change n
  turn_at n = ap (λ (c : MtuDiscoveryConfig). search.turn s c.change n) k.same

  turned_next : (now n x : ℕ) (u : Turn) → u ≡ search.turn s o.config.change n → n < 2 ^ 62 → Held (left_polled m (turned u m now)) k.peer
      → probe_of (turned u m now) ≡ Some x → Going Ack Miss o (x ∷ zs) (left_polled m (turned u m now))
  unfolding turned
  turned_next now n x Waiting e hn h d = never_some d
  turned_next now n x (Probing t) e hn h d =
      subst (λ (y : ℕ). Going Ack Miss o (y ∷ zs) (at m (Searching t))) (same_some d)
      (record { peer = k.peer; held = h; fit = k.fit; same = k.same; state = t; at = refl; steps = probes n t k.steps e hn })
  turned_next now n x Over e hn h d = never_some (sym (over_none m now) ∙ d)

  abbrev Sends : ℕ → Result Polled Refusal → Type 0
  Sends x r = Held (left_polled m r) k.peer → probe_of r ≡ Some x → Going Ack Miss o (x ∷ zs) (left_polled m r)

  pub sends_going : (now n x : ℕ) → probe_of (polled m now n) ≡ Some x → Going Ack Miss o (x ∷ zs) (left_polled m (polled m now n))
  sends_going now n x =
      polled_by (Sends x) m now n
      (λ hn. subst (Sends x) (sym (turn_is now n)) (turned_next now n x (search.turn s m.config.change n) (turn_at n) hn))
      (λ h d. never_some d) (polled_held m k.peer k.held now n)

  -- a record with the same phase and settings
  stays : (r : MtuDiscovery) → Held r k.peer → r.phase ≡ m.phase → r.config ≡ m.config → Going Ack Miss o zs r
  stays r h e f = record { peer = k.peer; held = h; fit = k.fit; same = f ∙ k.same; state = s; at = e ∙ k.at; steps = k.steps }

  abbrev Waits : Result Polled Refusal → Type 0
  Waits r = probe_of r ≡ None → searching_b (left_polled m r).phase ≡ true → Going Ack Miss o zs (left_polled m r)

  waits_going : (now n : ℕ) → Waits (polled m now n)
  waits_going now n =
      polled_by Waits m now n
      (λ hn. subst Waits (sym (turn_is now n))
      (λ z g. subst (λ (q : MtuDiscovery). Going Ack Miss o zs q) (sym (turned_waits m now (search.turn s m.config.change n) z g)) k))
      (λ z g. k)

  -- ---- other calls
  -- the newest probe is the last one
  newest_is : newest zs ≡ s.last
  newest_is = (sure Ack Miss o.current (or_most o.peer) o.config.upper o.config.change k.fit k.steps).newest

  abbrev Acks : Result Acked Refusal → Type 0
  Acks r = Held (left_acked m r) k.peer → (was_probe r ≡ true → Ack (newest zs)) → Going Ack Miss o zs (left_acked m r)

  abbrev AcksOk : Acked → Type 0
  AcksOk r = Acks (Ok r)

  pub ack_going : (n x : ℕ) → (was_probe (acked m n x) ≡ true → Ack (newest zs)) → Going Ack Miss o zs (left_acked m (acked m n x))
  ack_going n x =
      acked_by Acks m n x
      (λ e. subst (λ (q : Phase). AcksOk (by_acked q m n x)) (sym k.at)
      (probe_by AcksOk m s n x
      (λ f h a.
      record {
        peer = k.peer;
        held = h;
        fit = k.fit;
        same = k.same;
        state = search.acked s;
        at = refl;
        steps = acks (search.acked s) k.steps (probe_flies s n f) (subst Ack newest_is (a refl)) refl;
      })
      (λ h a. stays (delivered m n x).mtud h refl refl)))
      (λ h a. k) (acked_held m k.peer k.held n x)

  abbrev Loses : Result MtuDiscovery Refusal → Type 0
  Loses r = Held (left m r) k.peer → (is_ok r ≡ true → Miss (newest zs)) → Going Ack Miss o zs (left m r)

  pub miss_going : (is_ok (probe_lost m) ≡ true → Miss (newest zs)) → Going Ack Miss o zs (left m (probe_lost m))
  miss_going =
      lost_by Loses m
      (subst (λ (q : Phase). Loses (by_lost q m)) (sym k.at)
      (flying_by Loses m s
      (λ f h a.
      record {
        peer = k.peer;
        held = h;
        fit = k.fit;
        same = k.same;
        state = search.missed s;
        at = refl;
        steps = loses (search.missed s) k.steps f (subst Miss newest_is (a refl)) refl;
      })
      (λ h a. k)))
      (λ h a. k) (probe_lost_held m k.peer k.held)

  lose_going : (n x : ℕ) → Going Ack Miss o zs (left m (packet_lost m n x))
  lose_going n x =
      packet_by (λ (r : Result MtuDiscovery Refusal). Held (left m r) k.peer → Going Ack Miss o zs (left m r)) m n x (λ h. k)
      (λ e h. stays (watching m (hole.lost m.detector n x)) h refl refl) (λ h. k) (packet_lost_held m k.peer k.held n x)

  -- the peer's maximum is refused while a search runs
  pub runs : searching_b m.phase ≡ true
  unfolding searching_b
  runs = ap searching_b k.at

  peer_going : (x : ℕ) → Going Ack Miss o zs (left m (peer_received m x))
  peer_going x = peer_by (λ (r : Result MtuDiscovery Refusal). Going Ack Miss o zs (left m r)) m x (λ e. k) (λ e f. never (sym f ∙ runs)) k

  -- a black hole ends the search
  abbrev Asks : Result Asked Refusal → Type 0
  Asks r = Held (left_asked m r) k.peer → searching_b (left_asked m r).phase ≡ true → Going Ack Miss o zs (left_asked m r)

  off_runs : off_b m.phase ≡ true → searching_b m.phase ≡ true → ⊥
  off_runs e f = not_off_searching m.phase e f

  fallen_ends : (d : BlackHoleDetector) (now : ℕ) → Asks (found (fallen (watching m d) now))
  unfolding searching_b
  fallen_ends d now =
      fallen_by (λ (r : Result MtuDiscovery Refusal). Asks (found r)) (watching m d) now (λ e h f. absurd (off_runs e runs)) (λ f h e. never e) (λ h e. k)

  ask_going : (now : ℕ) → searching_b (left_asked m (hole_asked m now)).phase ≡ true → Going Ack Miss o zs (left_asked m (hole_asked m now))
  ask_going now =
      let d = (hole.detected m.detector).detector in
      hole_by Asks m now (fallen_ends d now) (λ h e. stays (watching m d) h refl refl) (λ h e. k) (hole_held m k.peer k.held now)

  -- so does a reset
  reset_going : (x least : ℕ) → searching_b (left m (reset_to m x least)).phase ≡ true → Going Ack Miss o zs (left m (reset_to m x least))
  unfolding opened
  reset_going x least =
      reset_by (λ (r : Result MtuDiscovery Refusal). searching_b (left m r).phase ≡ true → Going Ack Miss o zs (left m r)) m x least
      (λ s l e. absurd (not_restarted m.phase e)) (λ e. k)

-- ---- the first probe
module _ (Ack Miss : ℕ → Type 0) (m : MtuDiscovery) (p now n : ℕ) (k : Held m p) where
  turned_first : (x : ℕ) (u : Turn) → good_config m.config ≡ true → u ≡ search.turn (begun_in m) m.config.change n → n < 2 ^ 62
      → Held (left_polled m (turned u m now)) p → probe_of (turned u m now) ≡ Some x → Going Ack Miss m (x ∷ []) (left_polled m (turned u m now))
  unfolding turned
  turned_first x Waiting c e hn h d = never_some d
  turned_first x (Probing t) c e hn h d =
      subst (λ (y : ℕ). Going Ack Miss m (y ∷ []) (at m (Searching t))) (same_some d)
      (record {
        peer = p;
        held = h;
        fit = record { low = k.low; under = k.under; top = omega (arith, k); some = change_some m.config c };
        same = refl;
        state = t;
        at = refl;
        steps = opens (begun_in m) n t refl e hn;
      })
  turned_first x Over c e hn h d = never_some (sym (over_none m now) ∙ d)

  abbrev Begins : ℕ → Result Polled Refusal → Type 0
  Begins x r = Held (left_polled m r) p → probe_of r ≡ Some x → Going Ack Miss m (x ∷ []) (left_polled m r)

  begins_by : (x : ℕ) (q : Phase) → n < 2 ^ 62 → searching_b q ≡ false → PhaseFine q m.config m.current (or_most m.peer) → Begins x (by_phase q m now n)
  unfolding by_phase PhaseFine searching_b
  begins_by x Off hn g f = λ h d. never_some d
  begins_by x Initial hn g f = turned_first x (search.turn (begun_in m) m.config.change n) f refl hn
  begins_by x (Searching s) hn g f = never (sym g)
  begins_by x (Complete until) hn g f =
      complete_by (Begins x) m until now n (λ e h d. never_some d) (λ e. turned_first x (search.turn (begun_in m) m.config.change n) f refl hn)

  pub begins_going : (x : ℕ) → searching_b m.phase ≡ false → probe_of (polled m now n) ≡ Some x → Going Ack Miss m (x ∷ []) (left_polled m (polled m now n))
  begins_going x g = polled_by (Begins x) m now n (λ hn. begins_by x m.phase hn g k.phase) (λ h d. never_some d) (polled_held m p k now n)

-- ---- the same of what a contract allows
module _ (Ack Miss : ℕ → Type 0) (o : MtuDiscovery) (zs : List ℕ) (m : MtuDiscovery) (k : Going Ack Miss o zs m) where
  sends_step : (now n x : ℕ) (r : Result Polled Refusal) → r ≡ polled m now n → probe_of r ≡ Some x → Going Ack Miss o (x ∷ zs) (left_polled m r)
  sends_step now n x r e d =
      subst (λ (y : Result Polled Refusal). Going Ack Miss o (x ∷ zs) (left_polled m y)) (sym e)
      (sends_going Ack Miss o zs m k now n x (ap (λ (y : Result Polled Refusal). probe_of y) (sym e) ∙ d))

  waits_step : (now n : ℕ) (r : Result Polled Refusal) → r ≡ polled m now n → probe_of r ≡ None → searching_b (left_polled m r).phase ≡ true
      → Going Ack Miss o zs (left_polled m r)
  waits_step now n r e = subst (Waits Ack Miss o zs m k) (sym e) (waits_going Ack Miss o zs m k now n)

  ack_step : (n x : ℕ) (r : Result Acked Refusal) → r ≡ acked m n x → (was_probe r ≡ true → Ack (newest zs)) → Going Ack Miss o zs (left_acked m r)
  ack_step n x r e =
      subst (λ (y : Result Acked Refusal). (was_probe y ≡ true → Ack (newest zs)) → Going Ack Miss o zs (left_acked m y)) (sym e) (ack_going Ack Miss o zs m k n x)

  miss_step : (r : Result MtuDiscovery Refusal) → r ≡ probe_lost m → (is_ok r ≡ true → Miss (newest zs)) → Going Ack Miss o zs (left m r)
  miss_step r e =
      subst (λ (y : Result MtuDiscovery Refusal). (is_ok y ≡ true → Miss (newest zs)) → Going Ack Miss o zs (left m y)) (sym e) (miss_going Ack Miss o zs m k)

  -- where the outcome says nothing
  moved : (r x : Result MtuDiscovery Refusal) → r ≡ x → Going Ack Miss o zs (left m x) → Going Ack Miss o zs (left m r)
  moved r x e h = subst (λ (y : Result MtuDiscovery Refusal). Going Ack Miss o zs (left m y)) (sym e) h

  lose_step : (n x : ℕ) (r : Result MtuDiscovery Refusal) → r ≡ packet_lost m n x → Going Ack Miss o zs (left m r)
  lose_step n x r e = moved r (packet_lost m n x) e (lose_going Ack Miss o zs m k n x)

  peer_step : (x : ℕ) (r : Result MtuDiscovery Refusal) → r ≡ peer_received m x → Going Ack Miss o zs (left m r)
  peer_step x r e = moved r (peer_received m x) e (peer_going Ack Miss o zs m k x)

  ask_step : (now : ℕ) (r : Result Asked Refusal) → r ≡ hole_asked m now → searching_b (left_asked m r).phase ≡ true → Going Ack Miss o zs (left_asked m r)
  ask_step now r e =
      subst (λ (y : Result Asked Refusal). searching_b (left_asked m y).phase ≡ true → Going Ack Miss o zs (left_asked m y)) (sym e) (ask_going Ack Miss o zs m k now)

  reset_step : (x least : ℕ) (r : Result MtuDiscovery Refusal) → r ≡ reset_to m x least → searching_b (left m r).phase ≡ true → Going Ack Miss o zs (left m r)
  reset_step x least r e =
      subst (λ (y : Result MtuDiscovery Refusal). searching_b (left m y).phase ≡ true → Going Ack Miss o zs (left m y)) (sym e) (reset_going Ack Miss o zs m k x least)

module _ (Ack Miss : ℕ → Type 0) where
  begins_step : (p : ℕ) (m : MtuDiscovery) (now n x : ℕ) (r : Result Polled Refusal) → Run p m → searching_b m.phase ≡ false → r ≡ polled m now n
      → probe_of r ≡ Some x → Going Ack Miss m (x ∷ []) (left_polled m r)
  begins_step p m now n x r h g e =
      subst (λ (y : Result Polled Refusal). probe_of y ≡ Some x → Going Ack Miss m (x ∷ []) (left_polled m y)) (sym e) (begins_going Ack Miss m p now n (held h) x g)

  -- a search of the record is a search of its own
  pub going : {zs : List ℕ} {m : MtuDiscovery} (h : Search zs m) → Obeys Ack Miss h → Going Ack Miss (start_of h) zs m
  unfolding Obeys start_of
  going (begins {p} {m} now n x r h g e d) a = begins_step p m now n x r h g e d
  going (sends {zs} {m} now n x r h e d) a = sends_step Ack Miss (start_of h) zs m (going h a) now n x r e d
  going (waits {zs} {m} now n r h e z g) a = waits_step Ack Miss (start_of h) zs m (going h a) now n r e z g
  going (ack {zs} {m} n x r h e) a = ack_step Ack Miss (start_of h) zs m (going h a.0) n x r e a.1
  going (miss {zs} {m} r h e) a = miss_step Ack Miss (start_of h) zs m (going h a.0) r e a.1
  going (lose {zs} {m} n x r h e) a = lose_step Ack Miss (start_of h) zs m (going h a) n x r e
  going (peer {zs} {m} x r h e) a = peer_step Ack Miss (start_of h) zs m (going h a) x r e
  going (ask {zs} {m} now r h e g) a = ask_step Ack Miss (start_of h) zs m (going h a) now r e g
  going (reset {zs} {m} x least r h e g) a = reset_step Ack Miss (start_of h) zs m (going h a) x least r e g
