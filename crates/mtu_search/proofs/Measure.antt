-- A search ends, whatever is acknowledged and lost: each new size takes one off `sizes_in`, each probe one off `probes_in`. A search whose bounds are w apart
-- tries at most `sizes_most change w` sizes. By the three choices that a turn has (Kept, `Choice`). Assumes nothing.
use mathlib.Core.Path.{◌≡◌, refl, ap}
use mathlib.Core.Bool.{true, false}
use mathlib.Core.Logic.{⊎_elim}
use Prim.Native.Nat.{ℕ, suc, ◌+◌, ◌-◌, ◌*◌, ◌/◌, ◌≤◌, ◌<◌, min, max}
use native.Mathlib.Omega.{arith}
use borrow.Author.Tests.{lt-ltb, le-ltb, ne_eqb}
use Rattle.answers.proofs.Tests.{split}
use Rattle.mtu_search.specs.declared.SearchState.{SearchState}
use Rattle.mtu_search.specs.declared.Turn.{Turn}
use Rattle.mtu_search.specs.declared.Turn.TheVariants.{Waiting, Probing, Over}
use Rattle.mtu_search.specs.Search.{begun, half, chosen, sent, onward, turn, acked, missed}
use Rattle.mtu_search.specs.Measure.{edge, up, sizes_most, after_lost, sizes_left, tries_left, sizes_in, probes_in}
use Rattle.mtu_search.proofs.Laws.{onward_by, turn_by}
use Rattle.mtu_search.proofs.Kept.{Choice, nothing, middle, bound, choice, Fine}
use Rattle.mtu_search.proofs.Levels.{levels_half, levels_mono, most_none, most_some}

max_below : (a b n : ℕ) → a < n → b < n → max a b < n
max_below a b n h l = omega arith

-- above the edge, and at least there with 2 and more, said with sums
edge_below : (change w : ℕ) → 0 < change → 2 * change ≤ w + 1 → 1 < w → edge change < w
edge_below change w c l h = omega arith

edge_within : (change w : ℕ) → 2 ≤ w → 2 * change ≤ w + 3 → max 2 (edge change) ≤ w
edge_within change w h l = omega arith

module _ (change : ℕ) (c : 0 < change) where
  most_mono : (v w : ℕ) → v ≤ w → sizes_most change v ≤ sizes_most change w
  most_mono v w h =
      ⊎_elim (λ d. omega (arith, most_none change v d))
      (λ d. omega (arith, most_some change v d, most_some change w (omega arith), levels_mono change v w h)) (split v change)

  lost_stop : (w : ℕ) → w < max 2 (edge change) → after_lost change w ≡ 0
  unfolding after_lost
  lost_stop w h = rw (lt-ltb w (max 2 (edge change)) h)

  lost_step : (w : ℕ) → max 2 (edge change) ≤ w → after_lost change w ≡ suc (sizes_most change (up w))
  unfolding after_lost
  lost_step w h = rw (le-ltb w (max 2 (edge change)) h)

  -- no more is left after a loss than after an acknowledgement
  lost_won : (w : ℕ) → w ≤ 65536 → after_lost change w ≤ sizes_most change w
  lost_won w f = ⊎_elim (λ h. omega (arith, lost_stop w h)) (λ h. ⊎_elim (nothing_on h) (λ l. halved h l) (split (up w) change)) (split w (max 2 (edge change)))
    where
      -- the upper bound alone
      nothing_on : max 2 (edge change) ≤ w → up w < change → after_lost change w ≤ sizes_most change w
      nothing_on h l = omega (arith, lost_step w h, most_none change (up w) l, most_some change w (omega arith))

      -- a level less, and the upper bound is no farther
      halved : max 2 (edge change) ≤ w → change ≤ up w → after_lost change w ≤ sizes_most change w
      halved h l =
          let a = edge_below change w c (omega arith) (omega arith) in
          omega (arith, lost_step w h, most_some change (up w) l, levels_half change w c a f, most_some change w (omega arith))

  -- the upper bound is lost: at most one size is left, and it had two
  bound_lost : (v w : ℕ) → w ≡ v + 1 → change ≤ w → w / 2 < change → w ≤ 65536 → after_lost change v < sizes_most change w
  bound_lost v w e l h f =
      ⊎_elim (λ k. omega (arith, lost_stop v k, most_some change w l))
      (λ k.
      let o : edge change < w = omega arith in
      omega (arith, lost_step v k, most_none change (up v) (omega arith), levels_half change w c o f, most_some change w l))
      (split v (max 2 (edge change)))

module _ (lower upper change : ℕ) (le : lower ≤ upper) (c : 0 < change) (fits : upper ≤ 65536) where
  abbrev wide : ℕ
  wide = upper - lower

  -- below the middle: a lost one leaves no more than an acknowledged one
  below : after_lost change (half lower upper - 1 - lower) ≤ sizes_most change (up wide)
  below =
      let v : ℕ = half lower upper - 1 - lower in
      omega (arith, lost_won change c (half lower upper - 1 - lower) (omega arith), most_mono change c (half lower upper - 1 - lower) (up wide) (omega arith))

  above : sizes_most change (upper - half lower upper) ≤ sizes_most change (up wide)
  above = most_mono change c (upper - half lower upper) (up wide) (omega arith)

  -- after an acknowledged size, which is the lower bound now
  won_falls : (z : ℕ) → Choice lower upper lower change z → (z ≡ 0 → ⊥) → (change ≤ wide) × (sizes_left lower upper z change < sizes_most change wide)
  unfolding sizes_left
  won_falls z nothing d = absurd (d refl)
  won_falls z (middle h l) d =
      let a = levels_half change wide c (edge_below change wide c (omega arith) (omega arith)) (omega arith) in
      let y = most_some change wide (omega arith) in
      let x = most_some change (up wide) (omega arith) in
      (omega arith, max_below (sizes_most change (upper - half lower upper)) (after_lost change (half lower upper - 1 - lower)) _ (omega (arith, above)) (omega (arith, below)))
  won_falls z (bound h l) d = (l, max_below (sizes_most change (upper - upper)) (after_lost change (upper - 1 - lower)) _ top under)
    where
      top : sizes_most change (upper - upper) < sizes_most change wide
      top = omega (arith, most_none change (upper - upper) (omega arith), most_some change wide l)

      under : after_lost change (upper - 1 - lower) < sizes_most change wide
      under = bound_lost change c (upper - 1 - lower) wide (omega arith) l (omega arith) (omega arith)

  -- after a lost size, which is one above the upper bound now
  lost_falls : (last z : ℕ) → last ≡ upper + 1 → Choice lower upper last change z → (z ≡ 0 → ⊥) → sizes_left lower upper z change < after_lost change wide
  unfolding sizes_left
  lost_falls last z e nothing d = absurd (d refl)
  lost_falls last z e (middle h l) d =
      let a = lost_step change c wide (edge_within change wide (omega arith) (omega arith)) in
      max_below (sizes_most change (upper - half lower upper)) (after_lost change (half lower upper - 1 - lower)) _ (omega (arith, above)) (omega (arith, below))
  lost_falls last z e (bound h l) d = absurd (omega arith)

-- ---- a turn
-- from s to the state t with the next probe: a probe less is left, and with a new size a size less
pub record Less (s t : SearchState) (change : ℕ) : Type 0 where
  pub probes : probes_in t change < probes_in s change
  pub sizes : sizes_in t change ≤ sizes_in s change
  pub fresh : (t.last ≡ s.last → ⊥) → sizes_in t change < sizes_in s change

-- a size that is new: tries begin anew
new_size : (s : SearchState) (lower upper z n change : ℕ) → sizes_left lower upper z change < sizes_in s change → Less s (sent lower upper z n 0) change
unfolding sizes_in probes_in tries_left
new_size s lower upper z n change h =
    record {
      probes = omega arith;
      sizes = omega arith;
      fresh = λ d. h;
    }

again : (s : SearchState) (n change : ℕ) → s.flying ≡ false → (s.lost ≡ 0 → ⊥) → s.lost < 3 → Less s (sent s.lower s.upper s.last n s.lost) change
unfolding sizes_in probes_in tries_left
again s n change e f g =
    record {
      probes = rw (e, ne_eqb s.lost 0 f) (omega arith);
      sizes = omega arith;
      fresh = λ d. absurd (d refl);
    }

unfoldable pub TurnLess : Turn → SearchState → ℕ → Type 0
TurnLess Waiting s change = Unit
TurnLess (Probing t) s change = Less s t change
TurnLess Over s change = Unit

onward_less : (s : SearchState) (lower upper last change n : ℕ)
    → ((z : ℕ) → Choice lower upper last change z → (z ≡ 0 → ⊥) → sizes_left lower upper z change < sizes_in s change)
    → TurnLess (onward lower upper last change n) s change
unfolding TurnLess
onward_less s lower upper last change n f =
    onward_by (λ (u : Turn). TurnLess u s change) lower upper last change n (λ h. tt)
    (λ h. new_size s lower upper (chosen lower upper last change) n change (f (chosen lower upper last change) (choice lower upper last change) h))

module _ (s : SearchState) (current peer : ℕ) (k : Fine s current peer) (fits : peer ≤ 65536) (change : ℕ) (c : 0 < change) where
  -- what is left is counted at the larger of the two outcomes
  won_most : sizes_most change (s.upper - s.last) ≤ sizes_in s change
  unfolding sizes_in sizes_left
  won_most = omega arith

  lost_most : after_lost change (s.last - 1 - s.lower) ≤ sizes_in s change
  unfolding sizes_in sizes_left
  lost_most = omega arith

  pub turn_less : (n : ℕ) → TurnLess (turn s change n) s change
  unfolding TurnLess
  turn_less n =
      turn_by (λ (u : Turn). TurnLess u s change) s change n (λ e. tt)
      (λ e z.
      onward_less s s.last s.upper s.last change n
      (λ x i o. omega (arith, (won_falls s.last s.upper change k.within c (omega (arith, k)) x i o).1, won_most)))
      (λ e z l. again s n change e z l)
      (λ e z l.
      onward_less s s.lower (s.last - 1) s.last change n
      (λ x i o. omega (arith, lost_falls s.lower (s.last - 1) change (omega (arith, k)) c (omega (arith, k)) s.last x (omega (arith, k)) i o, lost_most)))

  pub acked_left : probes_in (acked s) change ≤ probes_in s change
  unfolding probes_in sizes_in tries_left acked
  acked_left = omega arith

  pub missed_left : s.flying ≡ true → probes_in (missed s) change ≤ probes_in s change
  unfolding probes_in sizes_in tries_left missed
  missed_left e = rw (e, ne_eqb (min s.lost 2 + 1) 0 (λ z. omega arith)) (omega arith)

pub acked_sizes : (s : SearchState) (change : ℕ) → sizes_in (acked s) change ≡ sizes_in s change
unfolding sizes_in acked
acked_sizes s change = refl

pub missed_sizes : (s : SearchState) (change : ℕ) → sizes_in (missed s) change ≡ sizes_in s change
unfolding sizes_in missed
missed_sizes s change = refl

-- ---- the first turn
-- what a first probe leaves, of a search whose bounds are w apart
unfoldable pub TurnFirst : Turn → ℕ → ℕ → Type 0
TurnFirst Waiting change w = Unit
TurnFirst (Probing t) change w = (change ≤ w) × ((sizes_in t change < sizes_most change w) × (probes_in t change < 3 * sizes_most change w))
TurnFirst Over change w = Unit

first_size : (lower upper z n change w : ℕ) → sizes_left lower upper z change < sizes_most change w
    → (sizes_in (sent lower upper z n 0) change < sizes_most change w) × (probes_in (sent lower upper z n 0) change < 3 * sizes_most change w)
unfolding sizes_in probes_in tries_left
first_size lower upper z n change w h = (h, omega arith)

pub first_turn : (current peer top change n : ℕ) → current ≤ peer → peer ≤ 65536 → 0 < change
    → TurnFirst (turn (begun current peer top) change n) change (min top peer - current)
unfolding turn begun TurnFirst
first_turn current peer top change n a b c =
    onward_by (λ (u : Turn). TurnFirst u change w) lower upper lower change n (λ h. tt)
    (λ h.
    let z = chosen lower upper lower change in
    let f = won_falls lower upper change (omega arith) c (omega arith) z (choice lower upper lower change) h in
    let e : upper - lower ≡ w = omega arith in
    (omega (arith, f.0), first_size lower upper z n change w (omega (arith, f.1, ap (λ (x : ℕ). sizes_most change x) e))))
  where
    lower : ℕ
    lower = min current peer

    upper : ℕ
    upper = max (min current peer) (min top peer)

    w : ℕ
    w = min top peer - current
