-- The first search of a fresh record, by what `new` was given alone: it ends, it tries few sizes, and on a path that passes exactly the sizes up to S it ends
-- near S. The record of `new` is due for a search, from the initial size, capped by the peer's maximum, up to the configured one (Plays). Assumes nothing.
use mathlib.Core.Path.{◌≡◌, refl, sym, subst}
use mathlib.Core.Bool.{Bool}
use mathlib.Core.List.{List, []}
use Prim.Native.Nat.{ℕ, ◌+◌, ◌-◌, ◌^◌, ◌≤◌, ◌<◌, min}
use native.Mathlib.Omega.{arith}
use Rattle.std.specs.Prelude.{Option, Result, Ok}
use Rattle.answers.specs.declared.Refusal.{Refusal}
use Rattle.mtu_search.specs.Measure.{sizes_most, shortfall}
use Rattle.mtu_phase.specs.declared.MtuDiscoveryConfig.{MtuDiscoveryConfig}
use Rattle.mtu_phase.specs.declared.Phase.{Phase}
use Rattle.mtu_phase.specs.declared.Phase.TheVariants.{Initial}
use Rattle.mtud.specs.declared.MtuDiscovery.{MtuDiscovery}
use Rattle.mtud.specs.Discovery.{or_most, opened, started}
use Rattle.mtud_history.specs.Bounds.{peer_of, Due}
use Rattle.mtud_history.proofs.Cases.{same_ok, never_ok, started_by}
use Rattle.mtud_history.proofs.Calls.{New}
use Rattle.mtud_history.proofs.History.{begun}
use Rattle.mtud_history.proofs.Plays.{Ends, search_ends, Finds, search_finds}

module _ (initial least : ℕ) (q : Option ℕ) (c : MtuDiscoveryConfig) where
  -- a search begins at the initial size, or the peer's maximum if that is smaller, and goes up to the configured size, or the peer's maximum
  abbrev pub lower : ℕ
  lower = min initial (peer_of q)

  abbrev pub upper : ℕ
  upper = min c.upper (peer_of q)

  record Opened (m : MtuDiscovery) : Type 0 where
    pub current : m.current ≡ lower
    pub peer : (or_most m.peer) ≡ peer_of q
    pub config : m.config ≡ c
    pub phase : m.phase ≡ Initial

  new_opened : (m : MtuDiscovery) → started initial least q c ≡ Ok m → Opened m
  unfolding opened
  new_opened m =
      started_by (λ (r : Result MtuDiscovery Refusal). r ≡ Ok m → Opened m) initial least q c
      (λ i l s g e. subst (λ (x : MtuDiscovery). Opened x) (same_ok e) (record { current = refl; peer = refl; config = refl; phase = refl })) (λ e. never_ok e)

module _ (initial least : ℕ) (q : Option ℕ) (c : MtuDiscoveryConfig) (m : MtuDiscovery) (e : New initial least q c (Ok m)) (clock number : List ℕ → ℕ)
    (fits : (zs : List ℕ) → clock zs + c.interval < 2 ^ 64) (small : (zs : List ℕ) → number zs < 2 ^ 62) where
  abbrev low : ℕ
  low = lower initial least q c

  abbrev high : ℕ
  high = upper initial least q c

  made : Opened initial least q c m
  made = new_opened initial least q c m (sym e)

  due : Due m.phase (clock [])
  unfolding Due
  due = subst (λ (p : Phase). Due p (clock [])) (sym made.phase) tt

  in_time : (zs : List ℕ) → clock zs + m.config.interval < 2 ^ 64
  in_time zs = subst (λ (x : MtuDiscoveryConfig). clock zs + x.interval < 2 ^ 64) (sym made.config) (fits zs)

  -- as many sizes, and as far below, as the record's own settings say
  sizes_are : sizes_most m.config.change (min m.config.upper (or_most m.peer) - m.current) ≡ sizes_most c.change (high - low)
  sizes_are = rw (made.config, made.peer, made.current)

  far_is : shortfall m.config.change ≡ shortfall c.change
  far_is = rw made.config

  -- the theorem: whichever probes are acknowledged and whichever are lost, the search ends, after at most so many sizes
  pub fresh_ends : (ok : List ℕ → Bool) → Ends ok clock number m (sizes_most c.change (high - low))
  fresh_ends ok = subst (λ (b : ℕ). Ends ok clock number m b) sizes_are (search_ends ok clock number (begun initial least q c m e) due in_time small)

  -- the theorem: where the path passes exactly the sizes up to S, it ends with an MTU of at most S, and no farther below it
  pub fresh_finds : (S : ℕ) → low ≤ S → S ≤ high → Finds S clock number m (sizes_most c.change (high - low)) (shortfall c.change)
  fresh_finds S l h =
      subst (λ (d : ℕ). Finds S clock number m (sizes_most c.change (high - low)) d) far_is
      (subst (λ (b : ℕ). Finds S clock number m b (shortfall m.config.change)) sizes_are
      (search_finds S clock number (begun initial least q c m e) due in_time small (omega (arith, made.current)) (rw (made.config, made.peer) h)))
