-- Each call by the cases of its definition, once for every property: what holds of each outcome holds of the call. With the outcome comes what its tests said.
-- Assumes nothing.
use mathlib.Core.Path.{◌≡◌, refl}
use mathlib.Core.Bool.{Bool, true, false, cond, ◌&&◌}
use Prim.Native.Nat.{ℕ, ◌+◌, ◌^◌, ◌≤◌, ◌<◌}
use lib.Dec.{ltb, leb}
use borrow.Author.Tests.{ltb-true, ltb-false}
use Rattle.std.specs.Prelude.{Option, None, Some, Result, Ok, Err}
use Rattle.answers.proofs.Tests.{fst, snd}
use Rattle.answers.specs.declared.Refusal.{Refusal}
use Rattle.answers.specs.declared.Refusal.TheVariants.{Range, Order}
use Rattle.black_hole.specs.BlackHole as hole
use Rattle.mtu_search.specs.declared.SearchState.{SearchState}
use Rattle.mtu_search.specs.Search as search
use Rattle.mtu_phase.specs.declared.Phase.TheVariants.{Off, Initial, Searching, Complete}
use Rattle.mtu_phase.specs.declared.MtuDiscoveryConfig.{MtuDiscoveryConfig}
use Rattle.mtu_phase.specs.Phase.{size_b, packet_b, good_config, no_config, restarted, searching_b, off_b}
use Rattle.mtud.specs.declared.MtuDiscovery.{MtuDiscovery}
use Rattle.mtud.specs.declared.Polled.{Polled}
use Rattle.mtud.specs.declared.Acked.{Acked}
use Rattle.mtud.specs.declared.Asked.{Asked}
use Rattle.mtud.specs.Discovery.{or_most, good, at, watching, opened, started, switched_off, reset_to, quiet, rested, begun_in, turn_in, by_phase, polled, capped, peer_received, is_probe, delivered, probe_delivered, by_acked, acked, by_lost, probe_lost, late, packet_lost, lowered, fallen, found, by_hole, hole_asked}

-- ---- outcomes
pub same_ok : {X : Type 0} {x y : X} → ◌≡◌ {A = Result X Refusal} (Ok x) (Ok y) → x ≡ y
same_ok e = cc

pub never_ok : {X Y : Type 0} {e : Refusal} {y : X} → ◌≡◌ {A = Result X Refusal} (Err e) (Ok y) → Y
never_ok e = let z : ⊥ = cc in absurd z

pub same_some : {x y : ℕ} → ◌≡◌ {A = Option ℕ} (Some x) (Some y) → x ≡ y
same_some e = cc

pub never_some : {Y : Type 0} {y : ℕ} → ◌≡◌ {A = Option ℕ} None (Some y) → Y
never_some e = let z : ⊥ = cc in absurd z

pub never_none : {Y : Type 0} {y : ℕ} → ◌≡◌ {A = Option ℕ} (Some y) None → Y
never_none e = let z : ⊥ = cc in absurd z

when : {X : Type 0} (P : X → Type 0) (b : Bool) (x y : X) → (b ≡ true → P x) → (b ≡ false → P y) → P (cond b x y)
when P true x y ok nay = ok refl
when P false x y ok nay = nay refl

-- ---- calls that hand back a record
module _ (P : Result MtuDiscovery Refusal → Type 0) where
  pub started_by : (initial least : ℕ) (q : Option ℕ) (c : MtuDiscoveryConfig)
      → (size_b initial ≡ true → size_b least ≡ true → size_b (or_most q) ≡ true → good_config c ≡ true → P (Ok (opened initial least q c Initial))) → P (Err Range)
      → P (started initial least q c)
  unfolding started
  started_by initial least q c ok nay =
      let sizes = size_b initial && size_b least in
      let rest = size_b (or_most q) && good_config c in
      when P (sizes && (leb least initial && rest)) (Ok (opened initial least q c Initial)) (Err Range)
      (λ e.
      let s = fst sizes (leb least initial && rest) e in
      let r = snd (leb least initial) rest (snd sizes (leb least initial && rest) e) in
      ok (fst (size_b initial) (size_b least) s) (snd (size_b initial) (size_b least) s) (fst (size_b (or_most q)) (good_config c) r) (snd (size_b (or_most q)) (good_config c) r))
      (λ e. nay)

  pub off_by : (x least : ℕ) → (size_b x ≡ true → size_b least ≡ true → P (Ok (opened x least None no_config Off))) → P (Err Range) → P (switched_off x least)
  unfolding switched_off
  off_by x least ok nay =
      when P (size_b x && size_b least) (Ok (opened x least None no_config Off)) (Err Range)
      (λ e. ok (fst (size_b x) (size_b least) e) (snd (size_b x) (size_b least) e)) (λ e. nay)

  module _ (m : MtuDiscovery) where
    pub reset_by : (x least : ℕ) → (size_b x ≡ true → size_b least ≡ true → P (Ok (opened x least m.peer m.config (restarted m.phase)))) → P (Err Range)
        → P (reset_to m x least)
    unfolding reset_to
    reset_by x least ok nay =
        when P (good m && (size_b x && size_b least)) (Ok (opened x least m.peer m.config (restarted m.phase))) (Err Range)
        (λ e. let s = snd (good m) (size_b x && size_b least) e in ok (fst (size_b x) (size_b least) s) (snd (size_b x) (size_b least) s)) (λ e. nay)

    pub rested_by : (now span : ℕ) → (now + span < 2 ^ 64 → P (Ok (at m (Complete (now + span))))) → P (Err Range) → P (rested m now span)
    unfolding rested
    rested_by now span ok nay =
        when P (ltb (now + span) (2 ^ 64)) (Ok (at m (Complete (now + span)))) (Err Range) (λ e. ok (ltb-true (now + span) (2 ^ 64) e)) (λ e. nay)

    pub peer_by : (x : ℕ) → (searching_b m.phase ≡ true → P (Err Order)) → (size_b x ≡ true → searching_b m.phase ≡ false → P (Ok (capped m x))) → P (Err Range)
        → P (peer_received m x)
    unfolding peer_received
    peer_by x order ok nay =
        when P (good m && size_b x) (cond (searching_b m.phase) (Err Order) (Ok (capped m x))) (Err Range)
        (λ e. when P (searching_b m.phase) (Err Order) (Ok (capped m x)) order (λ f. ok (snd (good m) (size_b x) e) f)) (λ e. nay)

    -- the probe is lost, another packet is lost
    pub lost_by : P (by_lost m.phase m) → P (Err Range) → P (probe_lost m)
    unfolding probe_lost
    lost_by ok nay = when P (good m) (by_lost m.phase m) (Err Range) (λ e. ok) (λ e. nay)

    pub flying_by : (s : SearchState) → (s.flying ≡ true → P (Ok (at m (Searching (search.missed s))))) → P (Err Order) → P (by_lost (Searching s) m)
    unfolding by_lost
    flying_by s ok nay = when P s.flying (Ok (at m (Searching (search.missed s)))) (Err Order) ok (λ e. nay)

    pub packet_by : (n x : ℕ) → P (Err Order) → (packet_b n x ≡ true → P (Ok (watching m (hole.lost m.detector n x)))) → P (Err Range) → P (packet_lost m n x)
    unfolding packet_lost
    packet_by n x order ok nay =
        when P (good m && packet_b n x) (cond (late m.detector n) (Err Order) (Ok (watching m (hole.lost m.detector n x)))) (Err Range)
        (λ e. when P (late m.detector n) (Err Order) (Ok (watching m (hole.lost m.detector n x))) (λ f. order) (λ f. ok (snd (good m) (packet_b n x) e))) (λ e. nay)

    -- a black hole
    pub fallen_by : (now : ℕ) → (off_b m.phase ≡ true → P (Ok (lowered m))) → (off_b m.phase ≡ false → P (Ok (at (lowered m) (Complete (now + m.config.cooldown)))))
        → P (Err Range) → P (fallen m now)
    unfolding fallen rested
    fallen_by now off ok nay =
        when P (off_b m.phase) (Ok (lowered m)) (rested (lowered m) now m.config.cooldown) off
        (λ e. when P (ltb (now + m.config.cooldown) (2 ^ 64)) (Ok (at (lowered m) (Complete (now + m.config.cooldown)))) (Err Range) (λ f. ok e) (λ f. nay))

-- ---- a probe is asked for
module _ (P : Result Polled Refusal → Type 0) (m : MtuDiscovery) where
  pub polled_by : (now n : ℕ) → (n < 2 ^ 62 → P (by_phase m.phase m now n)) → P (Err Range) → P (polled m now n)
  unfolding polled
  polled_by now n ok nay = when P (good m && ltb n (2 ^ 62)) (by_phase m.phase m now n) (Err Range) (λ e. ok (ltb-true n (2 ^ 62) (snd (good m) (ltb n (2 ^ 62)) e))) (λ e. nay)

  pub complete_by : (until now n : ℕ) → (now < until → P (Ok (quiet m))) → (until ≤ now → P (turn_in m (begun_in m) now n)) → P (by_phase (Complete until) m now n)
  unfolding by_phase
  complete_by until now n early due = when P (ltb now until) (Ok (quiet m)) (turn_in m (begun_in m) now n) (λ e. early (ltb-true now until e)) (λ e. due (ltb-false now until e))

-- ---- a packet is acknowledged
pub acked_by : (P : Result Acked Refusal → Type 0) (m : MtuDiscovery) (n x : ℕ) → (packet_b n x ≡ true → P (Ok (by_acked m.phase m n x))) → P (Err Range) → P (acked m n x)
unfolding acked
acked_by P m n x ok nay = when P (good m && packet_b n x) (Ok (by_acked m.phase m n x)) (Err Range) (λ e. ok (snd (good m) (packet_b n x) e)) (λ e. nay)

pub probe_by : (P : Acked → Type 0) (m : MtuDiscovery) (s : SearchState) (n x : ℕ) → (is_probe s n ≡ true → P (probe_delivered m s n x)) → P (delivered m n x)
    → P (by_acked (Searching s) m n x)
unfolding by_acked
probe_by P m s n x ok nay = when P (is_probe s n) (probe_delivered m s n x) (delivered m n x) ok (λ e. nay)

-- ---- it is asked whether there is a black hole
pub hole_by : (P : Result Asked Refusal → Type 0) (m : MtuDiscovery) (now : ℕ) → P (found (fallen (watching m (hole.detected m.detector).detector) now))
    → P (Ok (record { hole = false; mtud = watching m (hole.detected m.detector).detector })) → P (Err Range) → P (hole_asked m now)
unfolding hole_asked by_hole
hole_by P m now some none nay =
    let h = hole.detected m.detector in
    let d = watching m h.detector in
    when P (good m) (cond h.found (found (fallen d now)) (Ok (record { hole = false; mtud = d }))) (Err Range)
    (λ e. when P h.found (found (fallen d now)) (Ok (record { hole = false; mtud = d })) (λ f. some) (λ f. none)) (λ e. nay)
