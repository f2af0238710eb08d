-- A search that is played out, each probe being acknowledged or lost before the next poll: whatever is acknowledged and lost, a poll rests after at most as
-- many probes as the bounds allow; and on a path that passes exactly the sizes up to S the MTU is then near S. By what is left of the search (Searches, Sizes).
-- Assumes nothing.
use mathlib.Core.Path.{◌≡◌, refl, ap, sym, ◌∙◌, subst}
use mathlib.Core.Bool.{Bool, true, false}
use mathlib.Core.List.{List, [], ◌∷◌}
use mathlib.Core.Logic.{◌⊎◌, inl, inr}
use Prim.Native.Nat.{ℕ, zero, suc, ◌+◌, ◌-◌, ◌*◌, ◌^◌, ◌≤◌, ◌<◌, min}
use native.Mathlib.Omega.{arith}
use lib.Dec.{leb}
use lib.ListN.{length}
use Rattle.std.specs.Prelude.{Some, Result}
use Rattle.answers.specs.declared.Refusal.{Refusal}
use borrow.Author.Tests.{le-ltb, leb-true, leb-false}
use Rattle.mtu_search.specs.declared.SearchState.{SearchState}
use Rattle.mtu_search.specs.Search as search
use Rattle.mtu_search.specs.Measure.{shortfall}
use Rattle.mtu_search.specs.Count.{sizes}
use Rattle.mtu_search.proofs.Kept.{first_fine}
use Rattle.mtu_search.proofs.Counts.{sizes_none}
use Rattle.mtu_search.proofs.History.{Any, Passes, Stops, Fit, newest, sure, steps_sizes}
use Rattle.mtu_search.proofs.Distance.{steps_near, first_near}
use Rattle.mtu_phase.specs.declared.Phase.{Phase}
use Rattle.mtu_phase.specs.declared.Phase.TheVariants.{Off, Initial, Searching, Complete}
use Rattle.mtu_phase.specs.Phase.{good_config, searching_b}
use Rattle.mtud.specs.declared.MtuDiscovery.{MtuDiscovery}
use Rattle.mtud.specs.declared.Polled.{Polled}
use Rattle.mtud.specs.declared.Acked.{Acked}
use Rattle.mtud.specs.Discovery.{or_most, begun_in, turn_in, by_phase, polled, acked, probe_lost}
use Rattle.mtud_history.specs.Left.{left, left_polled, left_acked, probe_of}
use Rattle.mtud_history.specs.Bounds.{Due, sizes_of}
use Rattle.mtud_history.proofs.Calls.{Poll, OnAcked, ProbeLost, CurrentMtu}
use Rattle.mtud_history.proofs.Kept.{PhaseFine, Held, held_good, change_some, polled_held}
use Rattle.mtud_history.proofs.History.{Run, held, size_is}
use Rattle.mtud_history.proofs.Searches.{Going, fine, turn_is, turn_at, begins_going, sends_going, ack_going, miss_going}
use Rattle.mtud_history.proofs.Flights.{Sent, polled_sent, Idle, acked_idle, lost_idle}
use Rattle.mtud_history.proofs.Ends.{Rests, Asks, Near, rests_over, poll_is, turn_moves, turned_moves, moves_by}

-- ---- what is said
-- from the record o on: each poll asks for a probe, which then is acknowledged where `ok` says so, or is lost. zs are their sizes, the newest first; after those
-- zs it is polled at the time `clock zs` with the packet number `number zs`
pub data Plays (ok : List ℕ → Bool) (clock number : List ℕ → ℕ) (o : MtuDiscovery) : List ℕ → MtuDiscovery → Type 0 where
  starts : Plays ok clock number o [] o
  wins : {zs : List ℕ} {m : MtuDiscovery} (x : ℕ) (r : Result Polled Refusal) (a : Result Acked Refusal) → Plays ok clock number o zs m
      → Poll m (clock zs) (number zs) r → probe_of r ≡ Some x → ok (x ∷ zs) ≡ true → OnAcked (left_polled m r) (number zs) x a
      → Plays ok clock number o (x ∷ zs) (left_acked (left_polled m r) a)
  loses : {zs : List ℕ} {m : MtuDiscovery} (x : ℕ) (r : Result Polled Refusal) (a : Result MtuDiscovery Refusal) → Plays ok clock number o zs m
      → Poll m (clock zs) (number zs) r → probe_of r ≡ Some x → ok (x ∷ zs) ≡ false → ProbeLost (left_polled m r) a
      → Plays ok clock number o (x ∷ zs) (left (left_polled m r) a)

-- the next poll asks for a probe, or rests
abbrev pub Moves : MtuDiscovery → ℕ → Result Polled Refusal → Type 0
Moves m now r = Asks r ⊎ Rests m now r

-- it ends with a poll that rests, after at most b sizes, each at most three times
pub record Ends (ok : List ℕ → Bool) (clock number : List ℕ → ℕ) (o : MtuDiscovery) (b : ℕ) : Type 0 where
  pub probes : List ℕ
  pub last : MtuDiscovery
  pub played : Plays ok clock number o probes last
  pub few : (sizes probes ≤ b) × (length probes ≤ 3 * b)
  pub rests : (r : Result Polled Refusal) → Poll last (clock probes) (number probes) r → Rests last (clock probes) r

-- where the newest probe passes that is at most S
abbrev pub passes : ℕ → List ℕ → Bool
passes S zs = leb (newest zs) S

-- it ends so, and where it rests current_mtu answers at most S, and at most d below it
pub record Finds (S : ℕ) (clock number : List ℕ → ℕ) (o : MtuDiscovery) (b d : ℕ) : Type 0 where
  pub ends : Ends (passes S) clock number o b
  pub near : (r : Result Polled Refusal) (c : Result ℕ Refusal) → Poll ends.last (clock ends.probes) (number ends.probes) r → CurrentMtu (left_polled ends.last r) c
      → Near S d c

-- ---- a search that may begin
due_idle : (q : Phase) (now : ℕ) → Due q now → searching_b q ≡ false
unfolding Due searching_b
due_idle Off now d = refl
due_idle Initial now d = refl
due_idle (Searching s) now d = absurd d
due_idle (Complete until) now d = refl

due_config : (q : Phase) (m : MtuDiscovery) (now : ℕ) → Due q now → PhaseFine q m.config m.current (or_most m.peer) → good_config m.config ≡ true
unfolding Due PhaseFine
due_config Off m now d f = absurd d
due_config Initial m now d f = f
due_config (Searching s) m now d f = absurd d
due_config (Complete until) m now d f = f

due_is : (q : Phase) (m : MtuDiscovery) (now n : ℕ) → Due q now → by_phase q m now n ≡ turn_in m (begun_in m) now n
unfolding Due by_phase
due_is Off m now n d = absurd d
due_is Initial m now n d = refl
due_is (Searching s) m now n d = absurd d
due_is (Complete until) m now n d = rw (le-ltb now until d)

begun_idle : (m : MtuDiscovery) → (begun_in m).flying ≡ false
unfolding search.begun
begun_idle m = refl

-- ---- each play, where `ok` acknowledges only sizes in Ack and loses only sizes in Miss
module _ (Ack Miss : ℕ → Type 0) (ok : List ℕ → Bool) (acks : (x : ℕ) (zs : List ℕ) → ok (x ∷ zs) ≡ true → Ack x)
    (misses : (x : ℕ) (zs : List ℕ) → ok (x ∷ zs) ≡ false → Miss x) (clock number : List ℕ → ℕ) (p : ℕ) (o : MtuDiscovery) (k : Held o p) (due : Due o.phase (clock []))
    (fits : (zs : List ℕ) → clock zs + o.config.interval < 2 ^ 64) (small : (zs : List ℕ) → number zs < 2 ^ 62) where
  -- before the first poll, or in a search with no probe in flight
  data Stage : List ℕ → MtuDiscovery → Type 0 where
    first : Stage [] o
    later : {zs : List ℕ} {m : MtuDiscovery} → Going Ack Miss o zs m → Idle m → Stage zs m

  config_good : good_config o.config ≡ true
  config_good = due_config o.phase o (clock []) due k.phase

  stage_few : {zs : List ℕ} {m : MtuDiscovery} → Stage zs m → (sizes zs ≤ sizes_of o) × (length zs ≤ 3 * sizes_of o)
  stage_few first = (omega (arith, sizes_none), omega arith)
  stage_few (later g i) = let x = steps_sizes Ack Miss o.current (or_most o.peer) o.config.upper o.config.change g.fit g.steps in (x.1.0, x.0)

  -- the first poll is the first turn of a search
  first_is : polled o (clock []) (number []) ≡ turn_in o (begun_in o) (clock []) (number [])
  first_is = poll_is o (clock []) (number []) (held_good k) (small []) ∙ due_is o.phase o (clock []) (number []) due

  first_moves : Moves o (clock []) (polled o (clock []) (number []))
  first_moves =
      let now = clock [] in
      let n = number [] in
      let c = o.config.change in
      subst (λ (r : Result Polled Refusal). Moves o now r) (sym first_is)
      (turned_moves o now (search.turn (begun_in o) c n) (turn_moves (begun_in o) c n (begun_idle o))
      (first_fine o.current (or_most o.peer) o.config.upper c n k.low k.under (change_some o.config config_good) (small [])) (fits []))

  idle_is : {zs : List ℕ} {m : MtuDiscovery} (g : Going Ack Miss o zs m) → Idle m → g.state.flying ≡ false
  idle_is g i = let e : g.state ≡ i.state = cc (sym g.at ∙ i.at) in ap (λ (s : SearchState). s.flying) e ∙ i.idle

  stage_moves : {zs : List ℕ} {m : MtuDiscovery} → Stage zs m → Moves m (clock zs) (polled m (clock zs) (number zs))
  stage_moves first = first_moves
  stage_moves (later {zs} {m} g i) =
      moves_by Ack Miss o zs m g (clock zs) (number zs) (idle_is g i) (small zs) (subst (λ c. clock zs + c.interval < 2 ^ 64) (sym g.same) (fits zs))

  -- a poll with a probe leaves it in flight
  stage_sends : {zs : List ℕ} {m : MtuDiscovery} (x : ℕ) → Stage zs m → probe_of (polled m (clock zs) (number zs)) ≡ Some x
      → Going Ack Miss o (x ∷ zs) (left_polled m (polled m (clock zs) (number zs)))
  stage_sends x first d = begins_going Ack Miss o p (clock []) (number []) k x (due_idle o.phase (clock []) due) d
  stage_sends x (later {zs} {m} g i) d = sends_going Ack Miss o zs m g (clock zs) (number zs) x d

  -- which is acknowledged, or is lost
  won : (zs : List ℕ) (m : MtuDiscovery) (n x : ℕ) → Going Ack Miss o (x ∷ zs) m → Sent m n x → n < 2 ^ 62 → ok (x ∷ zs) ≡ true
      → Stage (x ∷ zs) (left_acked m (acked m n x))
  won zs m n x g s h e =
      let f = (fine Ack Miss o (x ∷ zs) m g).1 in
      let t = (sure Ack Miss o.current (or_most o.peer) o.config.upper o.config.change g.fit g.steps).newest in
      let y : x ≤ 65527 = omega (arith, f, t, g.held) in
      later (ack_going Ack Miss o (x ∷ zs) m g n x (λ z. acks x zs e)) (acked_idle m n x s (held_good g.held) x h y)

  lost : (zs : List ℕ) (m : MtuDiscovery) (n x : ℕ) → Going Ack Miss o (x ∷ zs) m → Sent m n x → ok (x ∷ zs) ≡ false → Stage (x ∷ zs) (left m (probe_lost m))
  lost zs m n x g s e = later (miss_going Ack Miss o (x ∷ zs) m g (λ z. misses x zs e)) (lost_idle m n x s (held_good g.held))

  module _ {zs : List ℕ} {m : MtuDiscovery} (s : Stage zs m) (x : ℕ) (r : Result Polled Refusal) (e : r ≡ polled m (clock zs) (number zs)) (d : probe_of r ≡ Some x) where
    sent : Going Ack Miss o (x ∷ zs) (left_polled m r) × Sent (left_polled m r) (number zs) x
    sent =
        let i : probe_of (polled m (clock zs) (number zs)) ≡ Some x = ap (λ (y : Result Polled Refusal). probe_of y) (sym e) ∙ d in
        subst (λ (y : Result Polled Refusal). Going Ack Miss o (x ∷ zs) (left_polled m y) × Sent (left_polled m y) (number zs) x) (sym e)
        (stage_sends x s i, polled_sent m (clock zs) (number zs) x i)

    stage_won : (a : Result Acked Refusal) → ok (x ∷ zs) ≡ true → a ≡ acked (left_polled m r) (number zs) x → Stage (x ∷ zs) (left_acked (left_polled m r) a)
    stage_won a h f =
        subst (λ (y : Result Acked Refusal). Stage (x ∷ zs) (left_acked (left_polled m r) y)) (sym f) (won zs (left_polled m r) (number zs) x sent.0 sent.1 (small zs) h)

    stage_lost : (a : Result MtuDiscovery Refusal) → ok (x ∷ zs) ≡ false → a ≡ probe_lost (left_polled m r) → Stage (x ∷ zs) (left (left_polled m r) a)
    stage_lost a h f =
        subst (λ (y : Result MtuDiscovery Refusal). Stage (x ∷ zs) (left (left_polled m r) y)) (sym f) (lost zs (left_polled m r) (number zs) x sent.0 sent.1 h)

  stage : {zs : List ℕ} {m : MtuDiscovery} → Plays ok clock number o zs m → Stage zs m
  stage starts = first
  stage (wins x r a h e d y f) = stage_won (stage h) x r e d a y f
  stage (loses x r a h e d y f) = stage_lost (stage h) x r e d a y f

  -- a poll rests, or its probe is answered and it goes on
  round : (f : ℕ) (zs : List ℕ) (m : MtuDiscovery)
      → ((ys : List ℕ) (q : MtuDiscovery) → Plays ok clock number o ys q → 3 * sizes_of o < length ys + f → Ends ok clock number o (sizes_of o))
      → Plays ok clock number o zs m → 3 * sizes_of o < length zs + suc f → Ends ok clock number o (sizes_of o)
  round f zs m go h l = by (stage_moves (stage h))
    where
      r : Result Polled Refusal
      r = polled m (clock zs) (number zs)

      after : MtuDiscovery
      after = left_polled m r

      next : (x : ℕ) → probe_of r ≡ Some x → (b : Bool) → ok (x ∷ zs) ≡ b → Ends ok clock number o (sizes_of o)
      next x d true e =
          let a = acked after (number zs) x in go (x ∷ zs) (left_acked after a) (wins x r a h refl d e refl) (omega arith)
      next x d false e =
          let a = probe_lost after in go (x ∷ zs) (left after a) (loses x r a h refl d e refl) (omega arith)

      by : Moves m (clock zs) r → Ends ok clock number o (sizes_of o)
      by (inl d) = next d.size d.is (ok (d.size ∷ zs)) refl
      by (inr d) =
          record { probes = zs; last = m; played = h; few = stage_few (stage h); rests = λ q e. subst (λ (y : Result Polled Refusal). Rests m (clock zs) y) (sym e) d }

  play : (f : ℕ) (zs : List ℕ) (m : MtuDiscovery) → Plays ok clock number o zs m → 3 * sizes_of o < length zs + f → Ends ok clock number o (sizes_of o)
  play zero zs m h l = absurd (omega (arith, (stage_few (stage h)).1))
  play (suc f) zs m h l = round f zs m (λ ys q. play f ys q) h l

  ended : Ends ok clock number o (sizes_of o)
  ended = play (suc (3 * sizes_of o)) [] o starts (omega arith)

module _ {p : ℕ} {o : MtuDiscovery} (ok : List ℕ → Bool) (clock number : List ℕ → ℕ) (h : Run p o) (due : Due o.phase (clock []))
    (fits : (zs : List ℕ) → clock zs + o.config.interval < 2 ^ 64) (small : (zs : List ℕ) → number zs < 2 ^ 62) where
  -- the theorem: after any calls, a search that may begin ends, whichever probes are acknowledged and whichever are lost, if the times fit
  pub search_ends : Ends ok clock number o (sizes_of o)
  search_ends = ended Any Any ok (λ x zs e. tt) (λ x zs e. tt) clock number p o (held h) due fits small

  -- and on the way, however far it is played, no more sizes were tried, and the next poll asks for a probe or rests
  pub search_goes : {zs : List ℕ} {m : MtuDiscovery} (r : Result Polled Refusal) → Plays ok clock number o zs m → Poll m (clock zs) (number zs) r
      → ((sizes zs ≤ sizes_of o) × (length zs ≤ 3 * sizes_of o)) × Moves m (clock zs) r
  search_goes {zs} {m} r k e =
      let s = stage Any Any ok (λ x zs e. tt) (λ x zs e. tt) clock number p o (held h) due fits small k in (
        stage_few Any Any ok (λ x zs e. tt) (λ x zs e. tt) clock number p o (held h) due fits small s,
        subst (λ (x : Result Polled Refusal). Moves m (clock zs) x) (sym e) (stage_moves Any Any ok (λ x zs e. tt) (λ x zs e. tt) clock number p o (held h) due fits small s),
      )

-- ---- on a path that passes exactly the sizes up to S
module _ (S : ℕ) (clock number : List ℕ → ℕ) (p : ℕ) (o : MtuDiscovery) (k : Held o p) (due : Due o.phase (clock []))
    (fits : (zs : List ℕ) → clock zs + o.config.interval < 2 ^ 64) (small : (zs : List ℕ) → number zs < 2 ^ 62)
    (low : o.current ≤ S) (high : S ≤ min o.config.upper (or_most o.peer)) where
  within : (x : ℕ) (zs : List ℕ) → passes S (x ∷ zs) ≡ true → Passes S x
  within x zs e = leb-true x S e

  above : (x : ℕ) (zs : List ℕ) → passes S (x ∷ zs) ≡ false → Stops S x
  above x zs e = leb-false x S e

  abbrev At : List ℕ → MtuDiscovery → Type 0
  At zs m = Stage (Passes S) (Stops S) (passes S) within above clock number p o k due fits small zs m

  record AtRest (m : MtuDiscovery) : Type 0 where
    pub peer : ℕ
    pub held : Held m peer
    pub near : (m.current ≤ S) × (S - m.current ≤ shortfall o.config.change)

  settings : Fit o.current (or_most o.peer) o.config.change
  settings = record { low = k.low; under = k.under; top = omega (arith, k); some = change_some o.config (due_config o.phase o (clock []) due k.phase) }

  stage_near : {zs : List ℕ} {m : MtuDiscovery} → At zs m → Rests m (clock zs) (polled m (clock zs) (number zs)) → AtRest m
  stage_near first r =
      let n = number [] in
      let c = o.config.change in
      let i = first_is (Passes S) (Stops S) (passes S) within above clock number p o k due fits small in
      let u = rests_over o (clock []) (search.turn (begun_in o) c n) (turn_moves (begun_in o) c n (begun_idle o)) (subst (λ (x : Result Polled Refusal). Rests o (clock []) x) i r) in
      record { peer = p; held = k; near = first_near S o.current (or_most o.peer) o.config.upper c settings low high (begun_in o) n refl u }
  stage_near (later {zs} {m} g i) r =
      let now = clock zs in
      let n = number zs in
      let c = m.config.change in
      let f = idle_is (Passes S) (Stops S) (passes S) within above clock number p o k due fits small g i in
      let t = poll_is m now n (held_good g.held) (small zs) ∙ turn_is (Passes S) (Stops S) o zs m g now n in
      let u = rests_over m now (search.turn g.state c n) (turn_moves g.state c n f) (subst (λ (x : Result Polled Refusal). Rests m now x) t r) in
      let x = steps_near S o.current (or_most o.peer) o.config.upper o.config.change g.fit low high n g.steps (u ∙ turn_at (Passes S) (Stops S) o zs m g n) in
      let e = (fine (Passes S) (Stops S) o zs m g).1.is in
      record { peer = g.peer; held = g.held; near = rw e x }

  finds : Finds S clock number o (sizes_of o) (shortfall o.config.change)
  finds = record { ends = y; near = at_end }
    where
      y : Ends (passes S) clock number o (sizes_of o)
      y = ended (Passes S) (Stops S) (passes S) within above clock number p o k due fits small

      at_end : (r : Result Polled Refusal) (c : Result ℕ Refusal) → Poll y.last (clock y.probes) (number y.probes) r → CurrentMtu (left_polled y.last r) c
          → Near S (shortfall o.config.change) c
      at_end r c e g =
          let m = y.last in
          let now = clock y.probes in
          let n = number y.probes in
          let v : Rests m now r = y.rests r e in
          let s = stage (Passes S) (Stops S) (passes S) within above clock number p o k due fits small y.played in
          let x = stage_near s (subst (λ (d : Result Polled Refusal). Rests m now d) e v) in
          let j = subst (λ (d : Result Polled Refusal). Held (left_polled m d) x.peer) (sym e) (polled_held m x.peer x.held now n) in
          let i : (left_polled m r).current ≡ m.current = ap (λ (d : Result Polled Refusal). (left_polled m d).current) v in
          record {
            size = (left_polled m r).current;
            is = size_is (left_polled m r) c g (held_good j);
            most = omega (arith, i, x.near.0);
            near = omega (arith, i, x.near.1);
          }

-- the theorem: after any calls, a search that may begin finds the path's size S, if that is at least the MTU and at most the bounds, but for 2 m - 4, or 1 where
-- the minimum change m is 1 or 2
pub search_finds : {p : ℕ} {o : MtuDiscovery} (S : ℕ) (clock number : List ℕ → ℕ) → Run p o → Due o.phase (clock [])
    → ((zs : List ℕ) → clock zs + o.config.interval < 2 ^ 64) → ((zs : List ℕ) → number zs < 2 ^ 62) → o.current ≤ S → S ≤ min o.config.upper (or_most o.peer)
    → Finds S clock number o (sizes_of o) (shortfall o.config.change)
search_finds {p} {o} S clock number h due fits small low high = finds S clock number p o (held h) due fits small low high
