-- What a call leaves of the probe in flight: a poll that asks for a probe leaves that one in flight, under the number it was given; once that number is
-- acknowledged, or the probe is lost, none is. By the cases of the definitions. Assumes nothing.
use mathlib.Core.Path.{◌≡◌, refl, ap, sym, ◌∙◌}
use mathlib.Core.Bool.{true, false}
use Prim.Native.Nat.{ℕ, ◌-◌, ◌^◌, ◌≤◌, ◌<◌}
use Rattle.std.specs.Prelude.{Some, Result, Ok}
use Rattle.answers.specs.declared.Refusal.{Refusal}
use borrow.Author.Tests.{lt-ltb, le-leb, eq-eqb}
use Rattle.mtu_search.specs.declared.SearchState.{SearchState}
use Rattle.mtu_search.specs.declared.Turn.{Turn}
use Rattle.mtu_search.specs.declared.Turn.TheVariants.{Waiting, Probing, Over}
use Rattle.mtu_search.specs.Search as search
use Rattle.mtu_search.proofs.Laws.{onward_by, turn_by}
use Rattle.answers.proofs.Tests.{both}
use Rattle.mtu_phase.specs.declared.Phase.{Phase}
use Rattle.mtu_phase.specs.declared.Phase.TheVariants.{Off, Initial, Searching, Complete}
use Rattle.mtu_phase.specs.Phase.{packet_b}
use Rattle.mtud.specs.declared.MtuDiscovery.{MtuDiscovery}
use Rattle.mtud.specs.declared.Polled.{Polled}
use Rattle.mtud.specs.declared.Acked.{Acked}
use Rattle.mtud.specs.Discovery.{good, at, begun_in, turned, by_phase, polled, is_probe, probe_delivered, by_acked, acked, by_lost, probe_lost}
use Rattle.mtud_history.specs.Left.{left, left_polled, left_acked, probe_of}
use Rattle.mtud_history.proofs.Cases.{same_some, never_some, polled_by, complete_by}
use Rattle.mtud_history.proofs.Searches.{over_none}

-- a turn's probe has the number that it was given, and is in flight
unfoldable TurnFlies : Turn → ℕ → Type 0
TurnFlies Waiting n = Unit
TurnFlies (Probing t) n = (t.flying ≡ true) × (t.probe ≡ n)
TurnFlies Over n = Unit

onward_flies : (lower upper last change n : ℕ) → TurnFlies (search.onward lower upper last change n) n
unfolding TurnFlies
onward_flies lower upper last change n = onward_by (λ (u : Turn). TurnFlies u n) lower upper last change n (λ h. tt) (λ h. (refl, refl))

turn_flies : (s : SearchState) (change n : ℕ) → TurnFlies (search.turn s change n) n
unfolding TurnFlies
turn_flies s change n =
    turn_by (λ (u : Turn). TurnFlies u n) s change n (λ e. tt) (λ e z. onward_flies s.last s.upper s.last change n) (λ e z l. (refl, refl))
    (λ e z l. onward_flies s.lower (s.last - 1) s.last change n)

-- in m a probe of size x is in flight as packet n
pub record Sent (m : MtuDiscovery) (n x : ℕ) : Type 0 where
  pub state : SearchState
  pub at : m.phase ≡ Searching state
  pub flying : state.flying ≡ true
  pub number : state.probe ≡ n
  pub size : state.last ≡ x

module _ (m : MtuDiscovery) (now n x : ℕ) where
  abbrev Leaves : Result Polled Refusal → Type 0
  Leaves r = probe_of r ≡ Some x → Sent (left_polled m r) n x

  turned_sent : (u : Turn) → TurnFlies u n → Leaves (turned u m now)
  unfolding turned TurnFlies
  turned_sent Waiting f d = never_some d
  turned_sent (Probing t) f d = record { state = t; at = refl; flying = f.0; number = f.1; size = same_some d }
  turned_sent Over f d = never_some (sym (over_none m now) ∙ d)

  phase_sent : (q : Phase) → Leaves (by_phase q m now n)
  unfolding by_phase
  phase_sent Off d = never_some d
  phase_sent Initial d = turned_sent (search.turn (begun_in m) m.config.change n) (turn_flies (begun_in m) m.config.change n) d
  phase_sent (Searching s) d = turned_sent (search.turn s m.config.change n) (turn_flies s m.config.change n) d
  phase_sent (Complete until) d =
      complete_by Leaves m until now n (λ e z. never_some z)
      (λ e. turned_sent (search.turn (begun_in m) m.config.change n) (turn_flies (begun_in m) m.config.change n)) d

  -- a poll that asks for a probe
  pub polled_sent : Leaves (polled m now n)
  polled_sent = polled_by Leaves m now n (λ hn. phase_sent m.phase) (λ d. never_some d)

-- a search with none in flight
pub record Idle (m : MtuDiscovery) : Type 0 where
  pub state : SearchState
  pub at : m.phase ≡ Searching state
  pub idle : state.flying ≡ false

abbrev ok : Acked → Result Acked Refusal
ok a = Ok a

module _ (m : MtuDiscovery) (n x : ℕ) (k : Sent m n x) (g : good m ≡ true) where
  is_probe_law : is_probe k.state n ≡ true
  unfolding is_probe
  is_probe_law = both k.flying (eq-eqb k.state.probe n k.number)

  pub acked_is : (y : ℕ) → n < 2 ^ 62 → y ≤ 65527 → acked m n y ≡ Ok (probe_delivered m k.state n y)
  unfolding acked by_acked packet_b
  acked_is y hn hy =
      rw (g, lt-ltb n (2 ^ 62) hn, le-leb y 65527 hy)
      (ap ok (ap (λ (q : Phase). by_acked q m n y) k.at ∙ rw is_probe_law))

  pub acked_idle : (y : ℕ) → n < 2 ^ 62 → y ≤ 65527 → Idle (left_acked m (acked m n y))
  unfolding search.acked
  acked_idle y hn hy =
      record { state = search.acked k.state; at = ap (λ (r : Result Acked Refusal). (left_acked m r).phase) (acked_is y hn hy); idle = refl }

  pub lost_is : probe_lost m ≡ Ok (at m (Searching (search.missed k.state)))
  unfolding probe_lost by_lost
  lost_is = rw g (ap (λ (q : Phase). by_lost q m) k.at ∙ rw k.flying)

  pub lost_idle : Idle (left m (probe_lost m))
  unfolding search.missed
  lost_idle = record { state = search.missed k.state; at = ap (λ (r : Result MtuDiscovery Refusal). (left m r).phase) lost_is; idle = refl }
