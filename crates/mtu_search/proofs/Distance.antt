-- How near a search comes: on a path that passes exactly the sizes up to S it ends at most 2 m - 4 below S, m being the minimum change, or 1 where m is 1
-- or 2. Throughout, S lies between the bounds; where no size is chosen, the bounds are that near to each other. Assumes nothing.
use mathlib.Core.Path.{◌≡◌, refl, ap, sym, ◌∙◌, subst}
use mathlib.Core.Bool.{Bool, true, false, cond}
use mathlib.Core.List.{List}
use mathlib.Core.Logic.{◌⊎◌, inl, inr}
use Prim.Native.Nat.{ℕ, ◌+◌, ◌-◌, ◌*◌, ◌≤◌, ◌<◌, min, max}
use native.Mathlib.Omega.{arith}
use lib.Dec.{ltb, leb}
use borrow.Author.Tests.{ltb-true, ltb-false, leb-true, leb-false}
use Rattle.mtu_search.specs.declared.SearchState.{SearchState}
use Rattle.mtu_search.specs.declared.Turn.{Turn}
use Rattle.mtu_search.specs.declared.Turn.TheVariants.{Waiting, Probing, Over}
use Rattle.mtu_search.specs.Search.{begun, half, distance, chosen, sent, onward, turn, acked, missed, known}
use Rattle.answers.proofs.Tests.{never}
use Rattle.mtu_search.specs.Measure.{shortfall}
use Rattle.mtu_search.proofs.Laws.{onward_by, turn_by, known_acked, known_lost}
use Rattle.mtu_search.proofs.Kept.{Fine}
use Rattle.mtu_search.proofs.History.{New, Poll, Steps, opens, probes, acks, loses, Passes, Stops, Fit, sure}

-- ---- where no size is chosen
-- half way is the lower bound; or half way and the upper bound are both nearer to the last size than the change
none_chosen : (lower upper last change : ℕ) → 0 < change → chosen lower upper last change ≡ 0
    → (half lower upper ≤ lower) ⊎ ((distance (half lower upper) last < change) × (upper - last < change))
unfolding chosen
none_chosen lower upper last change c =
    far (leb change (distance (half lower upper) last)) (ltb lower (half lower upper)) (leb change (upper - last)) refl refl refl
  where
    far : (a b d : Bool) → leb change (distance (half lower upper) last) ≡ a → ltb lower (half lower upper) ≡ b → leb change (upper - last) ≡ d
        → cond a (cond b (half lower upper) 0) (cond d upper 0) ≡ 0
        → (half lower upper ≤ lower) ⊎ ((distance (half lower upper) last < change) × (upper - last < change))
    far true true d e f g z = absurd (omega (arith, ltb-true))
    far true false d e f g z = inl (ltb-false _ _ f)
    far false b true e f g z = absurd (omega (arith, leb-true))
    far false b false e f g z = inr (leb-false _ _ e, leb-false _ _ g)

-- S is then near the lower bound
middle_near : (lower upper change S : ℕ) → S ≤ upper → half lower upper ≤ lower → S - lower ≤ shortfall change
middle_near lower upper change S h l = let a : S ≤ lower + 1 = omega arith in omega arith

won_near : (lower upper change S : ℕ) → S ≤ upper → upper - lower < change → S - lower ≤ shortfall change
won_near lower upper change S h l = let a : S - lower < change = omega arith in omega arith

lost_near : (lower upper change S : ℕ) → lower ≤ upper → S ≤ upper → distance (half lower upper) (upper + 1) < change → S - lower ≤ shortfall change
lost_near lower upper change S le h l =
    let a : upper + 1 < half lower upper + change = omega arith in
    let b : upper + 4 ≤ lower + 2 * change = omega arith in
    omega arith

-- ---- S lies between the bounds
pub record Straight (S : ℕ) (s : SearchState) : Type 0 where
  pub low : s.lower ≤ S
  pub high : S ≤ s.upper
  pub won : s.flying ≡ false → s.lost ≡ 0 → s.last ≤ S
  pub lost : 1 ≤ s.lost → S < s.last

-- what a turn says: S between the bounds after a probe, and at the end x is near S
unfoldable TurnStraight : Turn → ℕ → ℕ → ℕ → Type 0
TurnStraight Waiting S change x = Unit
TurnStraight (Probing t) S change x = Straight S t
TurnStraight Over S change x = (x ≤ S) × (S - x ≤ shortfall change)

sent_straight : (S lower upper z n lost : ℕ) → lower ≤ S → S ≤ upper → (1 ≤ lost → S < z) → Straight S (sent lower upper z n lost)
sent_straight S lower upper z n lost a b c = record { low = a; high = b; won = λ e f. never (sym e); lost = c }

onward_straight : (S lower upper last change n : ℕ) → 0 < change → lower ≤ S → S ≤ upper → (last ≡ lower) ⊎ (last ≡ upper + 1)
    → TurnStraight (onward lower upper last change n) S change lower
unfolding TurnStraight
onward_straight S lower upper last change n c a b o =
    onward_by (λ (u : Turn). TurnStraight u S change lower) lower upper last change n (λ e. (a, near o (none_chosen lower upper last change c e)))
    (λ e. sent_straight S lower upper (chosen lower upper last change) n 0 a b (λ z. absurd (omega arith)))
  where
    near : (last ≡ lower) ⊎ (last ≡ upper + 1) → (half lower upper ≤ lower) ⊎ ((distance (half lower upper) last < change) × (upper - last < change)) → S - lower ≤ shortfall change
    near o (inl h) = middle_near lower upper change S b h
    near (inl e) (inr h) = won_near lower upper change S b (subst (λ (x : ℕ). upper - x < change) e h.1)
    near (inr e) (inr h) = lost_near lower upper change S (omega arith) b (subst (λ (x : ℕ). distance (half lower upper) x < change) e h.0)

turn_straight : (S : ℕ) (s : SearchState) (mtu peer change n : ℕ) → Fine s mtu peer → 0 < change → Straight S s → TurnStraight (turn s change n) S change (known s)
unfolding TurnStraight
turn_straight S s mtu peer change n f c k =
    turn_by (λ (u : Turn). TurnStraight u S change (known s)) s change n (λ e. tt)
    (λ e z.
    subst (λ (x : ℕ). TurnStraight (onward s.last s.upper s.last change n) S change x) (known_acked s e z)
    (onward_straight S s.last s.upper s.last change n c (k.won e z) k.high (inl refl)))
    (λ e z l. sent_straight S s.lower s.upper s.last n s.lost k.low k.high k.lost)
    (λ e z l.
    let h : S < s.last = k.lost (omega arith) in
    subst (λ (x : ℕ). TurnStraight (onward s.lower (s.last - 1) s.last change n) S change x) (known_lost s e z)
    (onward_straight S s.lower (s.last - 1) s.last change n c k.low (omega arith) (inr (omega arith))))

acked_straight : (S : ℕ) (s : SearchState) → Straight S s → s.last ≤ S → Straight S (acked s)
unfolding acked
acked_straight S s k h = record { low = k.low; high = k.high; won = λ e f. h; lost = λ z. absurd (omega arith) }

missed_straight : (S : ℕ) (s : SearchState) → Straight S s → S < s.last → Straight S (missed s)
unfolding missed
missed_straight S s k h = record { low = k.low; high = k.high; won = λ e f. absurd (omega arith); lost = λ z. h }

-- ---- a search on a path that passes exactly the sizes up to S
module _ (S current peer top change : ℕ) (fit : Fit current peer change) (low : current ≤ S) (high : S ≤ min top peer) where
  first_straight : (n : ℕ) → TurnStraight (turn (begun current peer top) change n) S change current
  unfolding turn begun TurnStraight
  first_straight n =
      subst (λ (x : ℕ). TurnStraight (onward (min current peer) (max (min current peer) (min top peer)) (min current peer) change n) S change x) i
      (onward_straight S (min current peer) (max (min current peer) (min top peer)) (min current peer) change n fit.some (omega arith) (omega arith) (inl refl))
    where
      i : min current peer ≡ current
      i = omega (arith, fit.under)

  -- each probe that is acknowledged has at most the size S, each that is lost more
  abbrev pub Honest : List ℕ → SearchState → Type 0
  Honest zs s = Steps (Passes S) (Stops S) current peer top change zs s

  pub straight : {zs : List ℕ} {s : SearchState} → Honest zs s → Straight S s
  unfolding TurnStraight
  straight (opens s n t d e h) =
      let i : Probing t ≡ turn (begun current peer top) change n = e ∙ ap (λ (x : SearchState). turn x change n) d in
      subst (λ (x : Turn). TurnStraight x S change current) (sym i) (first_straight n)
  straight (probes {zs} {s} n t k e h) =
      let g = sure (Passes S) (Stops S) current peer top change fit k in
      subst (λ (x : Turn). TurnStraight x S change (known s)) (sym e) (turn_straight S s g.mtu peer change n g.fine fit.some (straight k))
  straight (acks {zs} {s} t k g a e) = subst (λ (x : SearchState). Straight S x) (sym e) (acked_straight S s (straight k) a)
  straight (loses {zs} {s} t k g a e) = subst (λ (x : SearchState). Straight S x) (sym e) (missed_straight S s (straight k) a)

  -- the theorem: where such a search is over, the size known to pass is at most S, and not farther below it
  pub steps_near : {zs : List ℕ} {s : SearchState} (n : ℕ) → Honest zs s → Poll s change n Over → (known s ≤ S) × (S - known s ≤ shortfall change)
  unfolding TurnStraight
  steps_near {zs} {s} n k e =
      let g = sure (Passes S) (Stops S) current peer top change fit k in
      subst (λ (x : Turn). TurnStraight x S change (known s)) (sym e) (turn_straight S s g.mtu peer change n g.fine fit.some (straight k))

  -- and so where none was sent
  pub first_near : (s : SearchState) (n : ℕ) → New current peer top s → Poll s change n Over → (current ≤ S) × (S - current ≤ shortfall change)
  unfolding TurnStraight
  first_near s n d e =
      let i : Over ≡ turn (begun current peer top) change n = e ∙ ap (λ (x : SearchState). turn x change n) d in
      subst (λ (x : Turn). TurnStraight x S change current) (sym i) (first_straight n)
