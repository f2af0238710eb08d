-- What a turn of a search leaves, where it sends a probe: the probe is in flight, and the upper bound is not raised, from at most the configured one on.
-- By the cases of the definition. Assumes nothing.
use mathlib.Core.Path.{◌≡◌, refl}
use mathlib.Core.Bool.{true}
use Prim.Native.Nat.{ℕ, ◌-◌, ◌≤◌, ◌<◌, min, max}
use native.Mathlib.Omega.{arith}
use Rattle.mtu_search.specs.declared.SearchState.{SearchState}
use Rattle.mtu_search.specs.declared.Turn.{Turn}
use Rattle.mtu_search.specs.declared.Turn.TheVariants.{Waiting, Probing, Over}
use Rattle.mtu_search.specs.Search.{begun, chosen, onward, turn}
use Rattle.mtu_search.proofs.Laws.{onward_by, turn_by}
use Rattle.mtu_search.proofs.Kept.{choice, chosen_between, Fine}

unfoldable pub TurnSends : Turn → ℕ → Type 0
TurnSends Waiting top = Unit
TurnSends (Probing t) top = (t.flying ≡ true) × (t.upper ≤ top)
TurnSends Over top = Unit

onward_sends : (lower upper last change n top : ℕ) → ((chosen lower upper last change ≡ 0 → ⊥) → upper ≤ top) → TurnSends (onward lower upper last change n) top
unfolding TurnSends
onward_sends lower upper last change n top h = onward_by (λ (u : Turn). TurnSends u top) lower upper last change n (λ e. tt) (λ e. (refl, h e))

pub turn_sends : (s : SearchState) (current peer : ℕ) → Fine s current peer → (change n top : ℕ) → s.upper ≤ top → TurnSends (turn s change n) top
unfolding TurnSends
turn_sends s current peer k change n top h =
    turn_by (λ (u : Turn). TurnSends u top) s change n (λ e. tt) (λ e z. onward_sends s.last s.upper s.last change n top (λ d. h)) (λ e z l. (refl, h))
    (λ e z l. onward_sends s.lower (s.last - 1) s.last change n top (λ d. omega (arith, k, h)))

-- a first probe lies above the lower bound, so the upper bound is the configured one, or the peer's maximum below it
pub first_sends : (current peer top change n : ℕ) → 0 < change → TurnSends (turn (begun current peer top) change n) top
unfolding turn begun
first_sends current peer top change n c =
    onward_sends lower upper lower change n top
    (λ d.
    let z = chosen_between lower upper lower change (chosen lower upper lower change) (choice lower upper lower change) (omega arith) (omega arith) c d in
    capped z)
  where
    lower : ℕ
    lower = min current peer

    upper : ℕ
    upper = max (min current peer) (min top peer)

    capped : (lower < chosen lower upper lower change) × (chosen lower upper lower change ≤ upper) → upper ≤ top
    capped z = omega (arith, z.0, z.1)
