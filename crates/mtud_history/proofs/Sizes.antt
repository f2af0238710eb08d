-- How many sizes one search tries, whatever is called and answered in whatever order: none where the bounds are nearer than the minimum change, else at most
-- one more than the levels of their distance, each at most three times. By the search's own calls (Searches; mtu_search, History). Assumes nothing.
use mathlib.Core.Path.{◌≡◌, refl}
use mathlib.Core.Bool.{false}
use mathlib.Core.List.{List}
use mathlib.Core.Logic.{⊎_elim}
use Prim.Native.Nat.{ℕ, suc, ◌*◌, ◌^◌, ◌≤◌, ◌<◌, min}
use native.Mathlib.Omega.{arith}
use lib.ListN.{length}
use Rattle.std.specs.Prelude.{Option, None, Some, Result}
use Rattle.answers.specs.declared.Refusal.{Refusal}
use Rattle.answers.proofs.Tests.{split}
use Rattle.mtu_search.specs.Measure.{levels, sizes_most}
use Rattle.mtu_search.specs.Count.{times, sizes}
use Rattle.mtu_search.proofs.Levels.{levels_plain, most_none, most_some, most_8, most_10, most_17}
use Rattle.mtu_search.proofs.History.{Any, steps_sizes}
use Rattle.mtu_phase.specs.Phase.{searching_b}
use Rattle.mtud.specs.declared.MtuDiscovery.{MtuDiscovery}
use Rattle.mtud.specs.declared.Polled.{Polled}
use Rattle.mtud.specs.Discovery.{or_most}
use Rattle.mtud_history.specs.Bounds.{width_of, sizes_of}
use Rattle.mtud_history.specs.Left.{probe_of}
use Rattle.mtud_history.proofs.Calls.{Poll}
use Rattle.mtud_history.proofs.History.{Run}
use Rattle.mtud_history.proofs.Searches.{Search, begins, sends, waits, ack, miss, lose, peer, ask, reset, start_of, free, going}

-- a search has sent a probe
search_some : {zs : List ℕ} {m : MtuDiscovery} → Search zs m → 1 ≤ length zs
search_some (begins now n x r h g e d) = omega arith
search_some (sends now n x r h e d) = omega arith
search_some (waits now n r h e z g) = search_some h
search_some (ack n x r h e) = search_some h
search_some (miss r h e) = search_some h
search_some (lose n x r h e) = search_some h
search_some (peer x r h e) = search_some h
search_some (ask now r h e g) = search_some h
search_some (reset x least r h e g) = search_some h

-- the theorem: a search tries at most as many sizes as its bounds and the minimum change allow, each at most three times
pub search_sizes : {zs : List ℕ} {m : MtuDiscovery} (h : Search zs m)
    → (length zs ≤ 3 * sizes_of (start_of h)) × ((sizes zs ≤ sizes_of (start_of h)) × ((x : ℕ) → times x zs ≤ 3))
search_sizes {zs} {m} h =
    let k = going Any Any h (free h) in
    let o = start_of h in
    steps_sizes Any Any o.current (or_most o.peer) o.config.upper o.config.change k.fit k.steps

-- no probe goes out where the bounds are nearer than the minimum change
pub too_near : {p : ℕ} {m : MtuDiscovery} (now n : ℕ) (r : Result Polled Refusal) → Run p m → searching_b m.phase ≡ false → width_of m < m.config.change
    → Poll m now n r → probe_of r ≡ None
unfolding start_of
too_near {p} {m} now n r h g l e = by (probe_of r) refl
  where
    by : (v : Option ℕ) → probe_of r ≡ v → probe_of r ≡ None
    by None i = i
    by (Some x) i = absurd (omega (arith, (search_sizes (begins now n x r h g e i)).0, most_none m.config.change (width_of m) l))

-- so a search runs only where they are as far apart as that, and it tries at most one size more than the levels of the distance
pub search_levels : {zs : List ℕ} {m : MtuDiscovery} (h : Search zs m)
    → ((start_of h).config.change ≤ width_of (start_of h))
    × ((sizes zs ≤ suc (levels (start_of h).config.change (width_of (start_of h)))) × (length zs ≤ 3 * suc (levels (start_of h).config.change (width_of (start_of h)))))
search_levels {zs} {m} h = ⊎_elim (λ d. absurd (omega (arith, k.0, most_none c w d, search_some h))) some (split w c)
  where
    c : ℕ
    c = (start_of h).config.change

    w : ℕ
    w = width_of (start_of h)

    k : (length zs ≤ 3 * sizes_most c w) × ((sizes zs ≤ sizes_most c w) × ((x : ℕ) → times x zs ≤ 3))
    k = search_sizes h

    some : c ≤ w → (c ≤ w) × ((sizes zs ≤ suc (levels c w)) × (length zs ≤ 3 * suc (levels c w)))
    some d = let i = most_some c w d in (d, (omega (arith, k.1.0), omega (arith, k.0)))

-- in plainer words, m being the minimum change: at most one more than the least k for which the distance is below m * 2 ^ k
pub search_plain : {zs : List ℕ} {m : MtuDiscovery} (h : Search zs m) (k : ℕ) → width_of (start_of h) < (start_of h).config.change * 2 ^ k
    → (sizes zs ≤ suc k) × (length zs ≤ 3 * suc k)
search_plain {zs} {m} h k l =
    let s = search_levels h in
    let o = start_of h in
    let i = levels_plain o.config.change (width_of o) k l in
    (omega (arith, s.1.0), omega (arith, s.1.1))

-- where no size above 1,500 is tried: at most 8 sizes and 24 probes from a minimum change of 3 on, at most 10 and 30 below that
module _ {zs : List ℕ} {m : MtuDiscovery} (h : Search zs m) (u : min (start_of h).config.upper (or_most (start_of h).peer) ≤ 1500) where
  within_300 : width_of (start_of h) ≤ 300
  within_300 = omega (arith, (going Any Any h (free h)).fit.low)

  pub search_eight : 3 ≤ (start_of h).config.change → (sizes zs ≤ 8) × (length zs ≤ 24)
  search_eight l =
      let k = search_sizes h in
      let b = most_8 (start_of h).config.change (width_of (start_of h)) l within_300 in
      (omega (arith, k.1.0), omega (arith, k.0))

  pub search_ten : (sizes zs ≤ 10) × (length zs ≤ 30)
  search_ten =
      let k = search_sizes h in
      let b = most_10 (start_of h).config.change (width_of (start_of h)) (going Any Any h (free h)).fit.some within_300 in
      (omega (arith, k.1.0), omega (arith, k.0))

-- whatever the bounds: one search sends at most 60 probes, of at most 20 sizes, each at most three times
pub search_bounded : {zs : List ℕ} {m : MtuDiscovery} → Search zs m → (length zs ≤ 60) × ((sizes zs ≤ 20) × ((x : ℕ) → times x zs ≤ 3))
search_bounded {zs} {m} h =
    let k = search_sizes h in
    let b = most_17 (start_of h).config.change (width_of (start_of h)) in
    (omega (arith, k.0), (omega (arith, k.1.0), k.1.1))
