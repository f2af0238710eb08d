-- How a search ends: on a path that passes exactly the sizes up to S the MTU is then near S; and once no probe is in flight a poll sends the next one or rests,
-- so that after the last size it rests. By the search's own turn (mtu_search, Distance). Assumes nothing.
use mathlib.Core.Path.{◌≡◌, refl, ap, sym, ◌∙◌, subst}
use mathlib.Core.Bool.{Bool, true, false, cond}
use mathlib.Core.List.{List}
use mathlib.Core.Logic.{◌⊎◌, inl, inr}
use Prim.Native.Nat.{ℕ, ◌+◌, ◌-◌, ◌*◌, ◌^◌, ◌≤◌, ◌<◌, min}
use native.Mathlib.Omega.{arith}
use lib.ListN.{length}
use Rattle.std.specs.Prelude.{Option, None, Some, Result, Ok}
use Rattle.answers.specs.declared.Refusal.{Refusal}
use borrow.Author.Tests.{lt-ltb}
use Rattle.mtu_search.specs.declared.SearchState.{SearchState}
use Rattle.mtu_search.specs.declared.Turn.{Turn}
use Rattle.mtu_search.specs.declared.Turn.TheVariants.{Waiting, Probing, Over}
use Rattle.mtu_search.specs.Search as search
use Rattle.mtu_search.specs.Measure.{shortfall}
use Rattle.answers.proofs.Tests.{never}
use Rattle.mtu_search.proofs.Laws.{onward_by, turn_by}
use Rattle.mtu_search.proofs.Kept.{TurnFine, turn_fine}
use Rattle.mtu_phase.specs.declared.Phase.TheVariants.{Searching, Complete}
use Rattle.mtu_phase.specs.Phase.{searching_b, flying_of}
use Rattle.mtud.specs.declared.MtuDiscovery.{MtuDiscovery}
use Rattle.mtud.specs.declared.Polled.{Polled}
use Rattle.mtud.specs.Discovery.{or_most, good, at, quiet, quietly, rested, turned, by_phase, polled, in_flight}
use Rattle.mtud_history.specs.Left.{left_polled, probe_of}
use Rattle.mtud_history.specs.Bounds.{sizes_of}
use Rattle.mtud_history.proofs.Cases.{same_ok, never_some, never_none, polled_by, rested_by}
use Rattle.mtud_history.proofs.Calls.{Poll, Flying, CurrentMtu}
use Rattle.mtud_history.proofs.Kept.{Held, held_good, change_some, polled_held}
use Rattle.mtud_history.proofs.History.{size_is}
use Rattle.mtu_search.proofs.History.{Any, Passes, Stops}
use Rattle.mtu_search.proofs.Distance.{steps_near}
use Rattle.mtud_history.proofs.Searches.{Search, sends, start_of, Obeys, free, Going, going, fine, turn_is, turn_at, runs}
use Rattle.mtud_history.proofs.Sizes.{search_sizes}

-- ---- a poll in a search is the search's turn
pub poll_is : (m : MtuDiscovery) (now n : ℕ) → good m ≡ true → n < 2 ^ 62 → polled m now n ≡ by_phase m.phase m now n
unfolding polled
poll_is m now n g h = rw (g, lt-ltb n (2 ^ 62) h)

-- ---- where the search has ended, it was over, and the MTU is as it was
over_by : (m : MtuDiscovery) (now : ℕ) (u : Turn) → searching_b m.phase ≡ true → searching_b (left_polled m (turned u m now)).phase ≡ false
    → (Over ≡ u) × ((left_polled m (turned u m now)).current ≡ m.current)
unfolding turned searching_b
over_by m now Waiting g e = never (sym e ∙ g)
over_by m now (Probing s) g e = never (sym e)
over_by m now Over g e =
    (refl, rested_by (λ (r : Result MtuDiscovery Refusal). (left_polled m (quietly r)).current ≡ m.current) m now m.config.interval (λ h. refl) refl)

-- current_mtu answers a size of at most S, and at most d below it
pub record Near (S d : ℕ) (c : Result ℕ Refusal) : Type 0 where
  pub size : ℕ
  pub is : c ≡ Ok size
  pub most : size ≤ S
  pub near : S - size ≤ d

-- ---- a search on a path that passes exactly the sizes up to S
module _ (S : ℕ) where
  near_by : (o : MtuDiscovery) (zs : List ℕ) (m : MtuDiscovery) (k : Going (Passes S) (Stops S) o zs m) → o.current ≤ S → S ≤ min o.config.upper (or_most o.peer)
      → (now n : ℕ) → searching_b (left_polled m (polled m now n)).phase ≡ false
      → ((left_polled m (polled m now n)).current ≤ S) × (S - (left_polled m (polled m now n)).current ≤ shortfall o.config.change)
  near_by o zs m k lo hi now n =
      let on : searching_b m.phase ≡ true = runs (Passes S) (Stops S) o zs m k in
      polled_by
      (λ (r : Result Polled Refusal). searching_b (left_polled m r).phase ≡ false → ((left_polled m r).current ≤ S) × (S - (left_polled m r).current ≤ shortfall o.config.change))
      m now n
      (λ hn e.
      let i = turn_is (Passes S) (Stops S) o zs m k now n in
      let v = over_by m now (search.turn k.state m.config.change n) on (ap (λ (r : Result Polled Refusal). searching_b (left_polled m r).phase) (sym i) ∙ e) in
      let x = steps_near S o.current (or_most o.peer) o.config.upper o.config.change k.fit lo hi n k.steps (v.0 ∙ turn_at (Passes S) (Stops S) o zs m k n) in
      let c : (left_polled m (by_phase m.phase m now n)).current ≡ search.known k.state =
      ap (λ (r : Result Polled Refusal). (left_polled m r).current) i ∙ v.1 ∙ (fine (Passes S) (Stops S) o zs m k).1.is in
      rw c x)
      (λ e. never (sym e ∙ on))

  -- the theorem: each probe of a size up to S that is answered is acknowledged, each larger one is lost; S is at least the MTU at the start, and at most the
  -- upper bound. Where a poll ends that search, the MTU is at most S, and below it by at most 2 m - 4, m being the minimum change, or by 1 where m is 1 or 2
  pub search_near : {zs : List ℕ} {m : MtuDiscovery} (h : Search zs m) → Obeys (Passes S) (Stops S) h → (start_of h).current ≤ S
      → S ≤ min (start_of h).config.upper (or_most (start_of h).peer) → (now n : ℕ) (r : Result Polled Refusal) (c : Result ℕ Refusal) → Poll m now n r
      → searching_b (left_polled m r).phase ≡ false → CurrentMtu (left_polled m r) c → Near S (shortfall (start_of h).config.change) c
  search_near {zs} {m} h a lo hi now n r c e f g =
      let o = start_of h in
      let k = going (Passes S) (Stops S) h a in
      let x = near_by o zs m k lo hi now n (ap (λ (d : Result Polled Refusal). searching_b (left_polled m d).phase) (sym e) ∙ f) in
      let i : (left_polled m r).current ≡ (left_polled m (polled m now n)).current = ap (λ (d : Result Polled Refusal). (left_polled m d).current) e in
      let j = subst (λ (d : Result Polled Refusal). Held (left_polled m d) k.peer) (sym e) (polled_held m k.peer k.held now n) in
      record { size = (left_polled m r).current; is = size_is (left_polled m r) c g (held_good j); most = omega (arith, i, x.0); near = omega (arith, i, x.1) }

-- ---- once no probe is in flight, a poll sends one or rests
-- r is a rest until the interval has passed, with all else as it is
abbrev pub Rests : MtuDiscovery → ℕ → Result Polled Refusal → Type 0
Rests m now r = r ≡ Ok (quiet (at m (Complete (now + m.config.interval))))

-- r asks for a probe, of a size
pub record Asks (r : Result Polled Refusal) : Type 0 where
  pub size : ℕ
  pub is : probe_of r ≡ Some size
  pub some : 0 < size

rested_rests : (m : MtuDiscovery) (now : ℕ) → now + m.config.interval < 2 ^ 64 → Rests m now (quietly (rested m now m.config.interval))
unfolding rested
rested_rests m now h = rw (lt-ltb (now + m.config.interval) (2 ^ 64) h)

-- a turn that rests is the end of the search
pub rests_over : (m : MtuDiscovery) (now : ℕ) (u : Turn) → (Waiting ≡ u → ⊥) → Rests m now (turned u m now) → Over ≡ u
unfolding turned
rests_over m now Waiting w k = absurd (w refl)
rests_over m now (Probing s) w k = never_none (ap (λ (r : Result Polled Refusal). probe_of r) k)
rests_over m now Over w k = refl

-- a turn with nothing in flight is not `Waiting`
onward_moves : (lower upper last change n : ℕ) → (Waiting ≡ search.onward lower upper last change n) → ⊥
onward_moves lower upper last change n =
    onward_by (λ (u : Turn). Waiting ≡ u → ⊥) lower upper last change n (λ h e. let z : ◌≡◌ {A = ℕ} 0 1 = cc in omega arith) (λ h e. let z : ◌≡◌ {A = ℕ} 0 1 = cc in omega arith)

pub turn_moves : (s : SearchState) (change n : ℕ) → s.flying ≡ false → (Waiting ≡ search.turn s change n) → ⊥
turn_moves s change n f =
    turn_by (λ (u : Turn). Waiting ≡ u → ⊥) s change n (λ h e. never (sym f ∙ h)) (λ h z. onward_moves s.last s.upper s.last change n)
    (λ h z l e. let y : ◌≡◌ {A = ℕ} 0 1 = cc in omega arith) (λ h z l. onward_moves s.lower (s.last - 1) s.last change n)

pub turned_moves : (m : MtuDiscovery) (now : ℕ) (u : Turn) → (Waiting ≡ u → ⊥) → TurnFine u m.current (or_most m.peer) → now + m.config.interval < 2 ^ 64
    → Asks (turned u m now) ⊎ Rests m now (turned u m now)
unfolding turned TurnFine
turned_moves m now Waiting w f h = absurd (w refl)
turned_moves m now (Probing s) w f h = inl (record { size = s.last; is = refl; some = omega (arith, f) })
turned_moves m now Over w f h = inr (rested_rests m now h)

-- what in_flight_mtu_probe says of a search
flying_is : (m : MtuDiscovery) (s : SearchState) → Ok None ≡ in_flight m → good m ≡ true → m.phase ≡ Searching s → s.flying ≡ false
unfolding in_flight flying_of
flying_is m s e g p = by s.flying refl
  where
    i : ◌≡◌ {A = Result (Option ℕ) Refusal} (Ok None) (Ok (flying_of m.phase))
    i = e ∙ rw g

    j : None ≡ cond s.flying (Some s.probe) None
    j = same_ok i ∙ ap flying_of p

    by : (b : Bool) → s.flying ≡ b → b ≡ false
    by false q = refl
    by true q = never_some (j ∙ ap (λ (b : Bool). cond b (Some s.probe) None) q)

module _ (Ack Miss : ℕ → Type 0) (o : MtuDiscovery) (zs : List ℕ) (m : MtuDiscovery) (k : Going Ack Miss o zs m) where
  pub moves_by : (now n : ℕ) → k.state.flying ≡ false → n < 2 ^ 62 → now + m.config.interval < 2 ^ 64 → Asks (polled m now n) ⊎ Rests m now (polled m now n)
  moves_by now n f hn h =
      let i = poll_is m now n (held_good k.held) hn ∙ turn_is Ack Miss o zs m k now n in
      let g = fine Ack Miss o zs m k in
      let c = m.config.change in
      subst (λ (r : Result Polled Refusal). Asks r ⊎ Rests m now r) (sym i)
      (turned_moves m now (search.turn k.state c n) (turn_moves k.state c n f)
      (turn_fine k.state m.current (or_most m.peer) g.1 c n (change_some m.config g.0) hn) h)

module _ {zs : List ℕ} {m : MtuDiscovery} (h : Search zs m) (fl : Flying m (Ok None)) (now n : ℕ) (r : Result Polled Refusal) (e : Poll m now n r)
    (hn : n < 2 ^ 62) (fits : now + m.config.interval < 2 ^ 64) where
  -- the theorem: a poll in a search with no probe in flight is answered OK, with the next probe or with a rest
  pub probe_or_rest : Asks r ⊎ Rests m now r
  probe_or_rest =
      let k = going Any Any h (free h) in
      subst (λ (x : Result Polled Refusal). Asks x ⊎ Rests m now x) (sym e)
      (moves_by Any Any (start_of h) zs m k now n (flying_is m k.state fl (held_good k.held) k.at) hn fits)

  -- and with a rest once as many probes were sent as the bounds allow
  pub rests_last : 3 * sizes_of (start_of h) ≤ length zs → Rests m now r
  unfolding start_of
  rests_last l = by probe_or_rest
    where
      by : Asks r ⊎ Rests m now r → Rests m now r
      by (inl d) = absurd (omega (arith, (search_sizes (sends now n d.size r h e d.is)).0))
      by (inr d) = d
