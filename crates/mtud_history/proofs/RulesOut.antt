-- Wrong versions that the promises rule out, of the contracts themselves: one that always refuses or never probes, and one that sends a size a fourth time.
-- The contracts are equations, so an outcome that meets them is the one that the definitions compute. Assumes nothing.
use mathlib.Core.Path.{◌≡◌, refl, ap, ◌∙◌}
use Prim.Native.Nat.{ℕ, ◌≤◌}
use Rattle.std.specs.Prelude.{None, Some, Result, Ok}
use Rattle.answers.specs.declared.Refusal.{Refusal}
use mathlib.Core.List.{List}
use Rattle.mtu_phase.specs.Phase as phase
use Rattle.mtud.specs.declared.MtuDiscovery.{MtuDiscovery}
use Rattle.mtud.specs.declared.Polled.{Polled}
use Rattle.mtud.specs.Discovery as mtud
use Rattle.mtu_search.specs.Count.{times}
use Rattle.mtud_history.specs.Examples.{config, made, start}
use Rattle.mtud_history.specs.Left.{probe_of}
use Rattle.mtud_history.proofs.Calls.{New, Poll}
use Rattle.mtud_history.proofs.Examples.{first_1326}
use Rattle.mtud_history.proofs.Searches.{Search}
use Rattle.mtud_history.proofs.Sizes.{search_bounded}

start_ok : mtud.started 1200 1200 None config ≡ Ok start
unfolding mtud.started phase.size_b phase.good_config
start_ok = refl

-- the first poll of 01's search is answered OK, with 1326
pub first_probe : (r : Result MtuDiscovery Refusal) (s : Result Polled Refusal) → New 1200 1200 None config r → Poll (made r) 0 7 s
    → (r ≡ Ok start) × (probe_of s ≡ Some 1326)
first_probe r s e f =
    let g : s ≡ mtud.polled start 0 7 = f ∙ ap (λ (d : Result MtuDiscovery Refusal). mtud.polled (made d) 0 7) e in
    (e ∙ start_ok, ap (λ (d : Result Polled Refusal). probe_of d) g ∙ first_1326)

-- no history of a search has a size in it a fourth time
pub no_fourth : {zs : List ℕ} {m : MtuDiscovery} → Search zs m → (x : ℕ) → times x zs ≤ 3
no_fourth h x = (search_bounded h).1.1 x
