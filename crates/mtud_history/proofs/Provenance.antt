-- Where the MTU comes from: after any calls it is the start's or a reset's size capped by the peer's maximum, the minimum after a black hole, a peer's maximum,
-- or the size of a probe that was sent and then acknowledged. By induction on the calls, each made of what its own contract allows. Assumes nothing.
use mathlib.Core.Path.{◌≡◌, refl, ap, sym, ◌∙◌, subst}
use mathlib.Core.Bool.{Bool, true, false, cond}
use mathlib.Core.List.{List, [], ◌∷◌}
use mathlib.Core.Logic.{◌⊎◌, inl, inr}
use Prim.Native.Nat.{ℕ, ◌+◌, ◌≤◌, ◌<◌, min, max}
use native.Mathlib.Omega.{arith}
use lib.Dec.{eqb, ltb, leb}
use Rattle.std.specs.Prelude.{Option, None, Some, Result, Ok, unwrap_or}
use Rattle.answers.specs.declared.Refusal.{Refusal}
use borrow.Author.Tests.{eqb-true, eq-eqb, ne_eqb}
use Rattle.black_hole.specs.declared.BlackHoleDetector.{BlackHoleDetector}
use Rattle.black_hole.specs.declared.Detected.{Detected}
use Rattle.black_hole.specs.BlackHole as hole
use Rattle.mtu_search.specs.declared.SearchState.{SearchState}
use Rattle.mtu_search.specs.declared.Turn.{Turn}
use Rattle.mtu_search.specs.declared.Turn.TheVariants.{Waiting, Probing, Over}
use Rattle.mtu_search.specs.Search as search
use Rattle.answers.proofs.Tests.{never, fst, snd, split}
use Rattle.mtu_phase.specs.declared.Phase.{Phase}
use Rattle.mtu_phase.specs.declared.Phase.TheVariants.{Off, Initial, Searching, Complete}
use Rattle.mtu_phase.specs.declared.MtuDiscoveryConfig.{MtuDiscoveryConfig}
use Rattle.mtu_phase.specs.Phase.{no_config, restarted, searching_b, off_b}
use Rattle.mtud.specs.declared.MtuDiscovery.{MtuDiscovery}
use Rattle.mtud.specs.declared.Polled.{Polled}
use Rattle.mtud.specs.declared.Acked.{Acked}
use Rattle.mtud.specs.declared.Asked.{Asked}
use Rattle.mtud.specs.Discovery.{or_most, at, watching, opened, started, switched_off, reset_to, quietly, lowered, begun_in, turned, by_phase, polled, peer_received, is_probe, delivered, probe_delivered, by_acked, acked, by_lost, probe_lost, packet_lost, fallen, found, hole_asked}
use Rattle.mtud_history.specs.Left.{left, left_polled, left_acked, left_asked, probe_of, peer_after}
use Rattle.mtud_history.specs.Bounds.{peer_of}
use Rattle.mtud_history.specs.Told as told
use Rattle.mtud_history.specs.Told.{Call, Said, Facts, after, known, Source, before, say, say_polled, say_acked, say_asked}
use Rattle.mtud_history.proofs.Cases.{same_ok, never_ok, never_some, started_by, off_by, reset_by, polled_by, complete_by, rested_by, peer_by, acked_by, probe_by, lost_by, flying_by, packet_by, fallen_by, hole_by}
use Rattle.mtud_history.proofs.Calls.{New, Disabled, Reset, Poll, Peer, OnAcked, ProbeLost, Lost, Hole, CurrentMtu}
use Rattle.mtud_history.proofs.Searches.{not_restarted}
use Rattle.mtud_history.proofs.Kept.{Held, held_good}
use Rattle.mtud_history.proofs.Probes.{polled_probe}
use Rattle.mtud_history.proofs.History as history
use Rattle.mtud_history.proofs.History.{Run, held, size_is}
use Rattle.mtud_history.proofs.Flights.{polled_sent}

-- ---- a history with what was said
-- after the calls es, the newest first, from a fresh start on, refused or not, the record is m
pub data Calls : List Said → MtuDiscovery → Type 0 where
  new : (initial least : ℕ) (q : Option ℕ) (c : MtuDiscoveryConfig) (m : MtuDiscovery) → New initial least q c (Ok m) → Calls (say (told.new initial least q c) (Ok m) ∷ []) m
  off : (x least : ℕ) (m : MtuDiscovery) → Disabled x least (Ok m) → Calls (say (told.disabled x least) (Ok m) ∷ []) m
  reset : {es : List Said} {m : MtuDiscovery} (x least : ℕ) (r : Result MtuDiscovery Refusal) → Calls es m → Reset m x least r → Calls (say (told.reset x least) r ∷ es) (left m r)
  poll : {es : List Said} {m : MtuDiscovery} (now n : ℕ) (r : Result Polled Refusal) → Calls es m → Poll m now n r → Calls (say_polled (told.poll now n) r ∷ es) (left_polled m r)
  peer : {es : List Said} {m : MtuDiscovery} (x : ℕ) (r : Result MtuDiscovery Refusal) → Calls es m → Peer m x r → Calls (say (told.peer x) r ∷ es) (left m r)
  ack : {es : List Said} {m : MtuDiscovery} (n x : ℕ) (r : Result Acked Refusal) → Calls es m → OnAcked m n x r → Calls (say_acked (told.acked n x) r ∷ es) (left_acked m r)
  miss : {es : List Said} {m : MtuDiscovery} (r : Result MtuDiscovery Refusal) → Calls es m → ProbeLost m r → Calls (say told.probe_lost r ∷ es) (left m r)
  lose : {es : List Said} {m : MtuDiscovery} (n x : ℕ) (r : Result MtuDiscovery Refusal) → Calls es m → Lost m n x r → Calls (say (told.lost n x) r ∷ es) (left m r)
  ask : {es : List Said} {m : MtuDiscovery} (now : ℕ) (r : Result Asked Refusal) → Calls es m → Hole m now r → Calls (say_asked (told.hole now) r ∷ es) (left_asked m r)

-- ---- the detector keeps the minimum
finished_least : (d : BlackHoleDetector) → (hole.finished d).minimum ≡ d.minimum
unfolding hole.finished hole.suspected
finished_least d = by d.current.has (hole.suspicious d)
  where
    by : (a b : Bool) → (cond {A = BlackHoleDetector} a (cond {A = BlackHoleDetector} b (hole.suspected d) (hole.dropped d)) d).minimum ≡ d.minimum
    by true true = refl
    by true false = refl
    by false b = refl

delivered_least : (d : BlackHoleDetector) (n x : ℕ) → (hole.delivered d n x).minimum ≡ d.minimum
unfolding hole.delivered
delivered_least d n x = by (ltb x d.acked) (eqb x d.acked)
  where
    by : (a b : Bool)
        → (cond {A = BlackHoleDetector} a d
        (cond {A = BlackHoleDetector} b
        (record { bursts = d.bursts; current = d.current; post = max d.post n; acked = d.acked; minimum = d.minimum })
        (record { bursts = hole.retained d.bursts x; current = d.current; post = n; acked = x; minimum = d.minimum }))
        ).minimum
        ≡ d.minimum
    by true b = refl
    by false true = refl
    by false false = refl

probe_least : (d : BlackHoleDetector) (n x : ℕ) → (hole.probe_acked d n x).minimum ≡ d.minimum
unfolding hole.probe_acked
probe_least d n x = refl

lost_least : (d : BlackHoleDetector) (n x : ℕ) → (hole.lost d n x).minimum ≡ d.minimum
unfolding hole.lost
lost_least d n x = by (hole.follows d n)
  where
    by : (a : Bool) → (cond {A = BlackHoleDetector} a (hole.grown d n x) (hole.begun (hole.finished d) n x)).minimum ≡ d.minimum
    by true = refl
    by false = finished_least d

detected_least : (d : BlackHoleDetector) → (hole.detected d).detector.minimum ≡ d.minimum
unfolding hole.detected
detected_least d = by (leb (hole.finished d).bursts.count 3)
  where
    by : (a : Bool)
        → (cond {A = Detected} a (record { found = false; detector = hole.finished d }) (record { found = true; detector = hole.cleared (hole.finished d) })).detector.minimum
        ≡ d.minimum
    by true = finished_least d
    by false = finished_least d

fresh_least : (x : ℕ) → (hole.fresh x).minimum ≡ x
unfolding hole.fresh
fresh_least x = refl

-- ---- what the list says of the record
record Books (es : List Said) (m : MtuDiscovery) : Type 0 where
  pub source : Source es m.current
  pub mtu : m.current ≡ (known es).mtu
  pub peer : (or_most m.peer) ≡ (known es).peer
  pub least : m.detector.minimum ≡ (known es).least
  -- the probe in flight is the one that was asked for last
  pub flight : (s : SearchState) → m.phase ≡ Searching s → s.flying ≡ true → (s.probe ≡ (known es).number) × ((s.last ≡ (known es).size) × ((known es).size ≡ 0 → ⊥))

-- a call after which all is as it was, but for the detector, and a probe in flight is the same as before
keeps : (es : List Said) (m q : MtuDiscovery) (e : Said) → Books es m → q.current ≡ m.current → (or_most q.peer) ≡ (or_most m.peer) → q.detector.minimum ≡ m.detector.minimum
    → ((s : SearchState) → q.phase ≡ Searching s → s.flying ≡ true → m.phase ≡ Searching s)
    → known (e ∷ es) ≡ known es → Books (e ∷ es) q
keeps es m q e k c p d f i =
    record {
      source = subst (λ (x : ℕ). Source (e ∷ es) x) (sym c) (before e es k.source);
      mtu = c ∙ k.mtu ∙ ap (λ (x : Facts). x.mtu) (sym i);
      peer = p ∙ k.peer ∙ ap (λ (x : Facts). x.peer) (sym i);
      least = d ∙ k.least ∙ ap (λ (x : Facts). x.least) (sym i);
      flight = λ s h g.
          let z = k.flight s (f s h g) g in
          (z.0 ∙ ap (λ (x : Facts). x.number) (sym i), (z.1.0 ∙ ap (λ (x : Facts). x.size) (sym i), λ y. z.1.1 (ap (λ (x : Facts). x.size) (sym i) ∙ y)));
    }

-- two phases at once
searching_is : {q : Phase} {s t : SearchState} → q ≡ Searching s → q ≡ Searching t → s ≡ t
searching_is e f = cc

not_off : {X : Type 0} (s : SearchState) → Off ≡ Searching s → X
not_off s e = let z : ◌≡◌ {A = ℕ} 0 1 = cc in let y : ⊥ = omega arith in absurd y

not_initial : {X : Type 0} (s : SearchState) → Initial ≡ Searching s → X
not_initial s e = let z : ◌≡◌ {A = ℕ} 0 1 = cc in let y : ⊥ = omega arith in absurd y

not_complete : {X : Type 0} (u : ℕ) (s : SearchState) → Complete u ≡ Searching s → X
not_complete u s e = let z : ◌≡◌ {A = ℕ} 0 1 = cc in let y : ⊥ = omega arith in absurd y

not_searching : {X : Type 0} (q : Phase) (s : SearchState) → searching_b q ≡ false → q ≡ Searching s → X
unfolding searching_b
not_searching q s f e = never (sym f ∙ ap searching_b e)

off_none : (q : Phase) (s : SearchState) → off_b q ≡ true → q ≡ Searching s → ⊥
unfolding off_b
off_none q s f e = never (sym (ap off_b e) ∙ f)

-- a flight that is none
grounded : {X : Type 0} (q : Phase) (s t : SearchState) → q ≡ Searching t → t.flying ≡ false → q ≡ Searching s → s.flying ≡ true → X
grounded q s t e f h g = never (sym f ∙ ap (λ (x : SearchState). x.flying) (searching_is e h) ∙ g)

acked_grounded : (s : SearchState) → (search.acked s).flying ≡ false
unfolding search.acked
acked_grounded s = refl

missed_grounded : (s : SearchState) → (search.missed s).flying ≡ false
unfolding search.missed
missed_grounded s = refl

restarted_none : (q : Phase) (s : SearchState) → restarted q ≡ Searching s → ⊥
unfolding searching_b
restarted_none q s e = not_restarted q (ap searching_b e)

-- ---- a probe is asked for
-- the MTU, the peer's maximum and the detector are as they were
abbrev Alike : MtuDiscovery → MtuDiscovery → Type 0
Alike m q = (q.current ≡ m.current) × (((or_most q.peer) ≡ (or_most m.peer)) × (q.detector.minimum ≡ m.detector.minimum))

-- and with no probe asked for, one in flight is the same as before
abbrev Quiet : MtuDiscovery → Result Polled Refusal → Type 0
Quiet m r = probe_of r ≡ None → (s : SearchState) → (left_polled m r).phase ≡ Searching s → m.phase ≡ Searching s

module _ (m : MtuDiscovery) (now : ℕ) where
  -- what a poll may come to
  abbrev Calm : Result Polled Refusal → Type 0
  Calm r = Alike m (left_polled m r) × Quiet m r

  turned_calm : (u : Turn) → Calm (turned u m now)
  unfolding turned
  turned_calm Waiting = ((refl, (refl, refl)), λ z s h. h)
  turned_calm (Probing t) = ((refl, (refl, refl)), λ z s h. never_some (sym z))
  turned_calm Over =
      rested_by (λ (r : Result MtuDiscovery Refusal). Calm (quietly r)) m now m.config.interval
      (λ e. ((refl, (refl, refl)), λ z s h. not_complete (now + m.config.interval) s h)) ((refl, (refl, refl)), λ z s h. h)

  module _ (n : ℕ) where
    phase_calm : (q : Phase) → m.phase ≡ q → Calm (by_phase q m now n)
    unfolding by_phase
    phase_calm Off e = ((refl, (refl, refl)), λ z s h. h)
    phase_calm Initial e = turned_calm (search.turn (begun_in m) m.config.change n)
    phase_calm (Searching s) e = turned_calm (search.turn s m.config.change n)
    phase_calm (Complete until) e =
        complete_by Calm m until now n (λ e. ((refl, (refl, refl)), λ z s h. h)) (λ e. turned_calm (search.turn (begun_in m) m.config.change n))

    polled_calm : Calm (polled m now n)
    polled_calm = polled_by Calm m now n (λ hn. phase_calm m.phase refl) ((refl, (refl, refl)), λ z s h. h)

-- the size that the list has for a poll
abbrev size_in : Option ℕ → ℕ
size_in o = unwrap_or o 0

abbrev size : Result Polled Refusal → ℕ
size r = size_in (probe_of r)

-- ---- the calls
module _ (es : List Said) (m : MtuDiscovery) (k : Books es m) where
  -- with a probe of size x, which is above the MTU, so not 0
  probed_books : (now n p x : ℕ) → Held m p → probe_of (polled m now n) ≡ Some x
      → Books (say_polled (told.poll now n) (polled m now n) ∷ es) (left_polled m (polled m now n))
  unfolding known after
  probed_books now n p x h e =
      let q = left_polled m (polled m now n) in
      let a = (polled_calm m now n).0 in
      let d : x ≡ 0 → ⊥ = (let y = polled_probe m p now x h n e in λ z. omega (arith, y.0)) in
      let v : size (polled m now n) ≡ x = ap (λ (o : Option ℕ). size_in o) e in
      let i : eqb (size (polled m now n)) 0 ≡ false = ne_eqb (size (polled m now n)) 0 (λ z. d (sym v ∙ z)) in
      let t = polled_sent m now n x e in
      record {
        source = subst (λ (y : ℕ). Source (say_polled (told.poll now n) (polled m now n) ∷ es) y) (sym a.0) (before (say_polled (told.poll now n) (polled m now n)) es k.source);
        mtu = a.0 ∙ k.mtu ∙ sym (rw i);
        peer = a.1.0 ∙ k.peer ∙ sym (rw i);
        least = a.1.1 ∙ k.least ∙ sym (rw i);
        flight = λ s f g.
            let j = searching_is f t.at in (
              ap (λ (y : SearchState). y.probe) j ∙ t.number ∙ sym (rw i),
              (ap (λ (y : SearchState). y.last) j ∙ t.size ∙ sym v ∙ sym (rw i), λ z. d (sym v ∙ rw i at z)),
            );
      }

  poll_books : (now n p : ℕ) → Held m p → Books (say_polled (told.poll now n) (polled m now n) ∷ es) (left_polled m (polled m now n))
  unfolding known after
  poll_books now n p h = by (probe_of (polled m now n)) refl
    where
      by : (v : Option ℕ) → probe_of (polled m now n) ≡ v → Books (say_polled (told.poll now n) (polled m now n) ∷ es) (left_polled m (polled m now n))
      by None e =
          let a = polled_calm m now n in
          let v : size (polled m now n) ≡ 0 = ap (λ (o : Option ℕ). size_in o) e in
          let i : eqb (size (polled m now n)) 0 ≡ true = eq-eqb (size (polled m now n)) 0 v in
          keeps es m (left_polled m (polled m now n)) (say_polled (told.poll now n) (polled m now n)) k a.0.0 a.0.1.0 a.0.1.1 (λ s q g. a.1 e s q) (rw i)
      by (Some x) e = probed_books now n p x h e

  -- a call that is refused says nothing new, nor does one that changes only the detector
  refused_books : (c : Call) (a : ℕ) → known (record { call = c; answer = a; value = 0 } ∷ es) ≡ known es → Books (record { call = c; answer = a; value = 0 } ∷ es) m
  refused_books c a i = keeps es m m (record { call = c; answer = a; value = 0 }) k refl refl refl (λ s h g. h) i

  reset_books : (x least : ℕ) → Books (say (told.reset x least) (reset_to m x least) ∷ es) (left m (reset_to m x least))
  unfolding opened known after
  reset_books x least =
      reset_by (λ (r : Result MtuDiscovery Refusal). Books (say (told.reset x least) r ∷ es) (left m r)) m x least
      (λ s l.
      record {
        source = subst (λ (y : ℕ). Source (record { call = told.reset x least; answer = 0; value = 0 } ∷ es) (min x y)) (sym k.peer) (told.again x least 0 es);
        mtu = ap (λ (y : ℕ). min x y) k.peer;
        peer = k.peer;
        least = fresh_least least;
        flight = λ s h g. absurd (restarted_none m.phase s h);
      })
      (refused_books (told.reset x least) 2 refl)

  -- the smaller of the MTU and the peer's maximum
  peer_source : (x : ℕ) → (m.current < x) ⊎ (x ≤ m.current) → Source (record { call = told.peer x; answer = 0; value = 0 } ∷ es) (min m.current x)
  peer_source x (inl h) = subst (λ (y : ℕ). Source (record { call = told.peer x; answer = 0; value = 0 } ∷ es) y) (omega arith) (before _ es k.source)
  peer_source x (inr h) = subst (λ (y : ℕ). Source (record { call = told.peer x; answer = 0; value = 0 } ∷ es) y) (omega arith) (told.cap x 0 es)

  peer_books : (x : ℕ) → Books (say (told.peer x) (peer_received m x) ∷ es) (left m (peer_received m x))
  unfolding known after
  peer_books x =
      peer_by (λ (r : Result MtuDiscovery Refusal). Books (say (told.peer x) r ∷ es) (left m r)) m x (λ f. refused_books (told.peer x) 6 refl)
      (λ s f.
      record {
        source = peer_source x (split m.current x);
        mtu = ap (λ (y : ℕ). min y x) k.mtu;
        peer = refl;
        least = k.least;
        flight = λ s h g. not_searching m.phase s f h;
      })
      (refused_books (told.peer x) 2 refl)

  -- a packet that is not the probe
  abbrev Acks : ℕ → ℕ → Acked → Type 0
  Acks n x r = Books (say_acked (told.acked n x) (Ok r) ∷ es) r.mtud

  delivered_books : (n x : ℕ) → Acks n x (delivered m n x)
  unfolding known after
  delivered_books n x =
      keeps es m (delivered m n x).mtud (say_acked (told.acked n x) (Ok (delivered m n x))) k refl refl (delivered_least m.detector n x) (λ s h g. h) refl

  probe_books : (n x : ℕ) (s : SearchState) → m.phase ≡ Searching s → is_probe s n ≡ true → Acks n x (probe_delivered m s n x)
  unfolding is_probe known after
  probe_books n x s e f =
      let fl = fst s.flying (eqb s.probe n) f in
      let z = k.flight s e fl in
      let i : (known es).number ≡ n = sym z.0 ∙ eqb-true s.probe n (snd s.flying (eqb s.probe n) f) in
      let o = subst (λ (y : ℕ). Source (record { call = told.acked y x; answer = 0; value = 1 } ∷ es) (known es).size) i (told.probe x es z.1.1) in
      record {
        source = subst (λ (y : ℕ). Source (record { call = told.acked n x; answer = 0; value = 1 } ∷ es) y) (sym z.1.0) o;
        mtu = z.1.0;
        peer = k.peer;
        least = probe_least m.detector n x ∙ k.least;
        flight = λ t h g. grounded (Searching (search.acked s)) t (search.acked s) refl (acked_grounded s) h g;
      }

  acked_at_law : (n x : ℕ) (q : Phase) → m.phase ≡ q → Acks n x (by_acked q m n x)
  unfolding by_acked
  acked_at_law n x Off e = delivered_books n x
  acked_at_law n x Initial e = delivered_books n x
  acked_at_law n x (Complete until) e = delivered_books n x
  acked_at_law n x (Searching s) e = probe_by (Acks n x) m s n x (λ f. probe_books n x s e f) (delivered_books n x)

  ack_books : (n x : ℕ) → Books (say_acked (told.acked n x) (acked m n x) ∷ es) (left_acked m (acked m n x))
  unfolding known after
  ack_books n x =
      acked_by (λ (r : Result Acked Refusal). Books (say_acked (told.acked n x) r ∷ es) (left_acked m r)) m n x (λ e. acked_at_law n x m.phase refl)
      (refused_books (told.acked n x) 2 refl)

  lost_at_law : (q : Phase) → m.phase ≡ q → Books (say told.probe_lost (by_lost q m) ∷ es) (left m (by_lost q m))
  unfolding by_lost known after
  lost_at_law Off e = refused_books told.probe_lost 0 refl
  lost_at_law Initial e = refused_books told.probe_lost 0 refl
  lost_at_law (Complete until) e = refused_books told.probe_lost 0 refl
  lost_at_law (Searching s) e =
      flying_by (λ (r : Result MtuDiscovery Refusal). Books (say told.probe_lost r ∷ es) (left m r)) m s
      (λ f.
      keeps es m (at m (Searching (search.missed s))) (record { call = told.probe_lost; answer = 0; value = 0 }) k refl refl refl
      (λ t h g. grounded (Searching (search.missed s)) t (search.missed s) refl (missed_grounded s) h g) refl)
      (refused_books told.probe_lost 6 refl)

  miss_books : Books (say told.probe_lost (probe_lost m) ∷ es) (left m (probe_lost m))
  unfolding known after
  miss_books = lost_by (λ (r : Result MtuDiscovery Refusal). Books (say told.probe_lost r ∷ es) (left m r)) m (lost_at_law m.phase refl) (refused_books told.probe_lost 2 refl)

  lose_books : (n x : ℕ) → Books (say (told.lost n x) (packet_lost m n x) ∷ es) (left m (packet_lost m n x))
  unfolding known after
  lose_books n x =
      packet_by (λ (r : Result MtuDiscovery Refusal). Books (say (told.lost n x) r ∷ es) (left m r)) m n x (refused_books (told.lost n x) 6 refl)
      (λ e.
      keeps es m (watching m (hole.lost m.detector n x)) (record { call = told.lost n x; answer = 0; value = 0 }) k refl refl (lost_least m.detector n x) (λ s h g. h) refl)
      (refused_books (told.lost n x) 2 refl)

  -- the minimum after a black hole
  fell_books : (now : ℕ) (q : Phase) (d : BlackHoleDetector) → d.minimum ≡ m.detector.minimum → ((s : SearchState) → q ≡ Searching s → ⊥)
      → Books (record { call = told.hole now; answer = 0; value = 1 } ∷ es) (at (lowered (watching m d)) q)
  unfolding known after
  fell_books now q d e f =
      let i : min (known es).least (known es).peer ≡ min d.minimum (or_most m.peer) = sym (rw (e, k.least, k.peer)) in
      record {
        source = subst (λ (y : ℕ). Source (record { call = told.hole now; answer = 0; value = 1 } ∷ es) y) i (told.fell now es);
        mtu = sym i;
        peer = k.peer;
        least = e ∙ k.least;
        flight = λ s h g. absurd (f s h);
      }

  abbrev Holes : ℕ → Result Asked Refusal → Type 0
  Holes now r = Books (say_asked (told.hole now) r ∷ es) (left_asked m r)

  fallen_books : (now : ℕ) (d : BlackHoleDetector) → d.minimum ≡ m.detector.minimum → Holes now (found (fallen (watching m d) now))
  unfolding known after
  fallen_books now d e =
      fallen_by (λ (r : Result MtuDiscovery Refusal). Holes now (found r)) (watching m d) now (λ f. fell_books now m.phase d e (λ s h. off_none m.phase s f h))
      (λ f. fell_books now (Complete (now + m.config.cooldown)) d e (λ s h. not_complete (now + m.config.cooldown) s h)) (refused_books (told.hole now) 2 refl)

  ask_books : (now : ℕ) → Holes now (hole_asked m now)
  unfolding known after
  ask_books now =
      let d = (hole.detected m.detector).detector in
      let e = detected_least m.detector in
      hole_by (Holes now) m now (fallen_books now d e)
      (keeps es m (watching m d) (record { call = told.hole now; answer = 0; value = 0 }) k refl refl e (λ s h g. h) refl) (refused_books (told.hole now) 2 refl)

-- ---- fresh records
opened_books : (e : Said) (es : List Said) (x least : ℕ) (q : Option ℕ) (c : MtuDiscoveryConfig) (p : Phase) → Source (e ∷ es) (min x (or_most q)) → min x (or_most q) ≡ (known (e ∷ es)).mtu
    → or_most q ≡ (known (e ∷ es)).peer → least ≡ (known (e ∷ es)).least → ((s : SearchState) → p ≡ Searching s → ⊥) → Books (e ∷ es) (opened x least q c p)
unfolding opened
opened_books e es x least q c p o em ep el f = record { source = o; mtu = em; peer = ep; least = fresh_least least ∙ el; flight = λ s h g. absurd (f s h) }

new_books : (initial least : ℕ) (q : Option ℕ) (c : MtuDiscoveryConfig) (m : MtuDiscovery) → started initial least q c ≡ Ok m → Books (say (told.new initial least q c) (Ok m) ∷ []) m
unfolding known after
new_books initial least q c m =
    started_by (λ (r : Result MtuDiscovery Refusal). r ≡ Ok m → Books (say (told.new initial least q c) (Ok m) ∷ []) m) initial least q c
    (λ i l s g e.
    subst (λ (x : MtuDiscovery). Books (say (told.new initial least q c) (Ok x) ∷ []) x) (same_ok e)
    (opened_books (record { call = told.new initial least q c; answer = 0; value = 0 }) [] initial least q c Initial (told.begun initial least q c 0 []) refl refl refl
    (λ s h. not_initial s h)))
    (λ e. never_ok e)

off_books : (x least : ℕ) (m : MtuDiscovery) → switched_off x least ≡ Ok m → Books (say (told.disabled x least) (Ok m) ∷ []) m
unfolding known after
off_books x least m =
    off_by (λ (r : Result MtuDiscovery Refusal). r ≡ Ok m → Books (say (told.disabled x least) (Ok m) ∷ []) m) x least
    (λ s l e.
    subst (λ (y : MtuDiscovery). Books (say (told.disabled x least) (Ok y) ∷ []) y) (same_ok e)
    (opened_books (record { call = told.disabled x least; answer = 0; value = 0 }) [] x least None no_config Off (told.off x least 0 []) refl refl refl (λ s h. not_off s h)))
    (λ e. never_ok e)

-- ---- all calls
-- such a history is one of the record's
pub record Runs (m : MtuDiscovery) : Type 0 where
  pub top : ℕ
  pub run : Run top m

pub runs : {es : List Said} {m : MtuDiscovery} → Calls es m → Runs m
runs (new initial least q c m e) = record { top = peer_of q; run = history.begun initial least q c m e }
runs (off x least m e) = record { top = 65527; run = history.off x least m e }
runs (reset x least r h e) = record { top = (runs h).top; run = history.reset x least r (runs h).run e }
runs (poll now n r h e) = record { top = (runs h).top; run = history.poll now n r (runs h).run e }
runs (peer x r h e) = record { top = peer_after r x (runs h).top; run = history.peer x r (runs h).run e }
runs (ack n x r h e) = record { top = (runs h).top; run = history.ack n x r (runs h).run e }
runs (miss r h e) = record { top = (runs h).top; run = history.miss r (runs h).run e }
runs (lose n x r h e) = record { top = (runs h).top; run = history.lose n x r (runs h).run e }
runs (ask now r h e) = record { top = (runs h).top; run = history.ask now r (runs h).run e }

books : {es : List Said} {m : MtuDiscovery} → Calls es m → Books es m
books (new initial least q c m e) = new_books initial least q c m (sym e)
books (off x least m e) = off_books x least m (sym e)
books (reset {es} {m} x least r h e) = rw e (reset_books es m (books h) x least)
books (poll {es} {m} now n r h e) = rw e (poll_books es m (books h) now n (runs h).top (held (runs h).run))
books (peer {es} {m} x r h e) = rw e (peer_books es m (books h) x)
books (ack {es} {m} n x r h e) = rw e (ack_books es m (books h) n x)
books (miss {es} {m} r h e) = rw e (miss_books es m (books h))
books (lose {es} {m} n x r h e) = rw e (lose_books es m (books h) n x)
books (ask {es} {m} now r h e) = rw e (ask_books es m (books h) now)

-- the theorem: after any calls from a fresh start, what current_mtu answers is a size that the list of calls has for it
pub mtu_source : {es : List Said} {m : MtuDiscovery} {r : Result ℕ Refusal} → Calls es m → CurrentMtu m r → (r ≡ Ok m.current) × Source es m.current
mtu_source {es} {m} {r} h e = (size_is m r e (held_good (held (runs h).run)), (books h).source)

-- and it is the size that the list comes to
pub mtu_is : {es : List Said} {m : MtuDiscovery} {r : Result ℕ Refusal} → Calls es m → CurrentMtu m r → r ≡ Ok (known es).mtu
mtu_is {es} {m} {r} h e = rw (← (books h).mtu) (size_is m r e (held_good (held (runs h).run)))
