-- Every probe is larger than the MTU known so far, and at most the peer's maximum and the configured upper bound, after any calls from a fresh start.
-- By the phases: each turn that sends a probe leaves a good search with that probe in flight. Assumes nothing.
use mathlib.Core.Path.{◌≡◌, ap, sym, ◌∙◌, subst}
use mathlib.Core.Bool.{true}
use Prim.Native.Nat.{ℕ, ◌^◌, ◌≤◌, ◌<◌}
use native.Mathlib.Omega.{arith}
use Rattle.std.specs.Prelude.{Some, Result}
use Rattle.answers.specs.declared.Refusal.{Refusal}
use Rattle.mtu_search.specs.declared.SearchState.{SearchState}
use Rattle.mtu_search.specs.declared.Turn.{Turn}
use Rattle.mtu_search.specs.declared.Turn.TheVariants.{Waiting, Probing, Over}
use Rattle.mtu_search.specs.Search as search
use Rattle.mtu_search.proofs.Kept.{Fine, TurnFine, turn_fine, first_fine}
use Rattle.mtu_phase.specs.declared.Phase.{Phase}
use Rattle.mtu_phase.specs.declared.Phase.TheVariants.{Off, Initial, Searching, Complete}
use Rattle.mtu_phase.specs.Phase.{good_config}
use Rattle.mtud.specs.declared.MtuDiscovery.{MtuDiscovery}
use Rattle.mtud.specs.declared.Polled.{Polled}
use Rattle.mtud.specs.Discovery.{or_most, begun_in, turned, turn_in, by_phase, polled}
use Rattle.mtud_history.proofs.Turns.{TurnSends, turn_sends, first_sends}
use Rattle.mtud_history.specs.Left.{probe_of}
use Rattle.mtud_history.proofs.Cases.{same_some, never_some, polled_by, complete_by}
use Rattle.mtud_history.proofs.Calls.{Poll}
use Rattle.mtud_history.proofs.Kept.{PhaseFine, Held, change_some}
use Rattle.mtud_history.proofs.History.{Run, held}
use Rattle.mtud_history.proofs.Searches.{over_none}

-- a size x that a probe may have
abbrev pub Probe : MtuDiscovery → ℕ → Type 0
Probe m x = (m.current < x) × ((x ≤ (or_most m.peer)) × (x ≤ m.config.upper))

-- while a probe is in flight the lower bound is what is known to pass
flying_above : (s : SearchState) (current peer : ℕ) → Fine s current peer → s.flying ≡ true → current < s.last
unfolding search.known
flying_above s current peer k e = let i : current ≡ s.lower = k.is ∙ rw e in omega (arith, k)

module _ (m : MtuDiscovery) (p now x : ℕ) (k : Held m p) where
  abbrev Sized : Result Polled Refusal → Type 0
  Sized r = probe_of r ≡ Some x → Probe m x

  turned_probe : (t : Turn) → TurnFine t m.current (or_most m.peer) → TurnSends t m.config.upper → Sized (turned t m now)
  unfolding turned TurnFine TurnSends
  turned_probe Waiting f u d = never_some d
  turned_probe (Probing s) f u d =
      subst (λ (y : ℕ). Probe m y) (same_some d) (flying_above s m.current (or_most m.peer) f u.0, (omega (arith, f), omega (arith, f, u.1)))
  turned_probe Over f u d = never_some (sym (over_none m now) ∙ d)

  first_probe : (n : ℕ) → good_config m.config ≡ true → n < 2 ^ 62 → Sized (turn_in m (begun_in m) now n)
  first_probe n c h d =
      let z = change_some m.config c in
      turned_probe (search.turn (begun_in m) m.config.change n) (first_fine m.current (or_most m.peer) m.config.upper m.config.change n k.low k.under z h)
      (first_sends m.current (or_most m.peer) m.config.upper m.config.change n z) d

  probe_at : (q : Phase) (n : ℕ) → PhaseFine q m.config m.current (or_most m.peer) → n < 2 ^ 62 → Sized (by_phase q m now n)
  unfolding by_phase PhaseFine
  probe_at Off n f h d = never_some d
  probe_at Initial n f h d = first_probe n f h d
  probe_at (Searching s) n f h d =
      turned_probe (search.turn s m.config.change n) (turn_fine s m.current (or_most m.peer) f.1.1 m.config.change n (change_some m.config f.0) h)
      (turn_sends s m.current (or_most m.peer) f.1.1 m.config.change n m.config.upper f.1.0) d
  probe_at (Complete until) n f h d = complete_by Sized m until now n (λ e z. never_some z) (λ e. first_probe n f h) d

  pub polled_probe : (n : ℕ) → Sized (polled m now n)
  polled_probe n = polled_by Sized m now n (probe_at m.phase n k.phase) (λ d. never_some d)

-- the theorem: a probe that poll_transmit asks for is above the MTU, and at most the peer's maximum and the configured upper bound
pub probe_above : {p : ℕ} {m : MtuDiscovery} (now n x : ℕ) (r : Result Polled Refusal) → Run p m → Poll m now n r → probe_of r ≡ Some x
    → (m.current < x) × ((x ≤ p) × (x ≤ m.config.upper))
probe_above {p} {m} now n x r h e d =
    let k = held h in
    let z = polled_probe m p now x k n (ap (λ (y : Result Polled Refusal). probe_of y) (sym e) ∙ d) in
    (z.0, (omega (arith, z.1.0, k.is), z.1.1))
