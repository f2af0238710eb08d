-- Both bounds are attained: on a path that passes every size but the upper bound a search tries as many sizes as `sizes_most` allows, whatever its bounds and the
-- minimum change m, and where m is 3 or more and the bounds are 2 m - 3 apart it ends as far below as `shortfall` allows.
-- By going that way: sizes half way pass as long as they are m apart, then the upper bound is lost three times. Assumes nothing.
use mathlib.Core.Path.{◌≡◌, refl, ap, sym, ◌∙◌}
use mathlib.Core.Bool.{false}
use mathlib.Core.List.{List, [], ◌∷◌}
use mathlib.Core.Logic.{⊎_elim}
use Prim.Native.Nat.{ℕ, zero, suc, ◌+◌, ◌-◌, ◌*◌, ◌≤◌, ◌<◌, min}
use native.Mathlib.Omega.{arith}
use Rattle.answers.proofs.Tests.{split}
use Rattle.mtu_search.specs.declared.SearchState.{SearchState}
use Rattle.mtu_search.specs.declared.Turn.TheVariants.{Probing, Over}
use Rattle.mtu_search.specs.Search.{begun, half, chosen, sent, turn, acked, missed, known}
use Rattle.mtu_search.specs.Measure.{edge, up, sizes_most, shortfall}
use Rattle.mtu_search.specs.Count.{times, sizes}
use Rattle.mtu_search.proofs.Laws.{chosen_half, chosen_upper, chosen_none, onward_sent, onward_over, turn_won, turn_again, turn_lost, known_lost}
use Rattle.mtu_search.proofs.Levels.{levels_stop, levels_half, most_some}
use Rattle.mtu_search.proofs.Counts.{times_here, times_none, sizes_old, sizes_new, sizes_none}
use Rattle.mtu_search.proofs.History.{Poll, Steps, opens, probes, acks, loses, Passes, Stops, Fit, sure}

-- half way between the last size and the upper bound
abbrev middle : SearchState → ℕ
middle s = half s.last s.upper

module _ (current peer top change : ℕ) (fit : Fit current peer change) where
  -- the largest size that passes
  abbrev pub largest : ℕ
  largest = min top peer - 1

  abbrev pub Passing : List ℕ → SearchState → Type 0
  Passing zs s = Steps (Passes largest) (Stops largest) current peer top change zs s

  -- before the first probe, and after some
  data At : List ℕ → SearchState → Type 0 where
    fresh : At [] (begun current peer top)
    on : {zs : List ℕ} {s : SearchState} → Passing zs s → At zs s

  sends : {zs : List ℕ} {s : SearchState} (t : SearchState) → At zs s → Probing t ≡ turn s change 0 → Passing (t.last ∷ zs) t
  sends t fresh e = opens (begun current peer top) 0 t refl e (omega arith)
  sends t (on h) e = probes 0 t h e (omega arith)

  -- above the last size none was tried
  untried : {zs : List ℕ} {s : SearchState} → At zs s → (x : ℕ) → s.last < x → x ≤ s.upper → times x zs ≡ 0
  untried fresh x h l = times_none x
  untried (on {zs} {s} k) x h l =
      let g = sure (Passes largest) (Stops largest) current peer top change fit k in
      g.counts.between x (omega (arith, g.fine)) l (λ e. omega arith)

  -- a search before its first probe, or after an acknowledgement, below the upper bound
  record Won (zs : List ℕ) (s : SearchState) : Type 0 where
    pub at : At zs s
    pub idle : s.flying ≡ false
    pub none : s.lost ≡ 0
    pub bound : s.upper ≡ min top peer
    pub low : s.last < s.upper

  module _ (zs : List ℕ) (s : SearchState) (k : Won zs s) where
    -- at least twice the change away, the size half way is tried, and passes
    halved : 2 * change ≤ s.upper - s.last → Won (middle s ∷ zs) (acked (sent s.last s.upper (middle s) 0 0))
    unfolding acked
    halved h =
        let t = sent s.last s.upper (middle s) 0 0 in
        let c = fit.some in
        let e = chosen_half s.last s.upper s.last change (omega arith) (omega arith) in
        let i = turn_won s change 0 k.idle k.none (onward_sent s.last s.upper s.last change 0 (sym e) (λ z. omega arith)) in
        record { at = on (acks (acked t) (sends t k.at i) refl (omega (arith, k.bound, k.low)) refl); idle = refl; none = refl; bound = k.bound; low = omega (arith, k.low) }

    -- the upper bound after so many losses
    abbrev dropped : ℕ → SearchState
    dropped j = record { lower = s.last; upper = s.upper; last = s.upper; flying = false; probe = 0; lost = j }

    module _ (e : chosen s.last s.upper s.last change ≡ s.upper) where
      highest : Passing (s.upper ∷ zs) (sent s.last s.upper s.upper 0 0)
      highest =
          sends (sent s.last s.upper s.upper 0 0) k.at
          (turn_won s change 0 k.idle k.none (onward_sent s.last s.upper s.last change 0 (sym e) (λ z. omega (arith, k.low))))

      lost : largest < s.upper
      lost = omega (arith, k.bound, k.low)

      -- sent again after one loss, and after two
      again : {ys : List ℕ} (j : ℕ) → 1 ≤ j → j < 3 → Passing ys (dropped j) → Passing (s.upper ∷ ys) (sent s.last s.upper s.upper 0 j)
      again j h l p = probes 0 (sent s.last s.upper s.upper 0 j) p (turn_again (dropped j) change 0 refl (λ z. omega arith) l) (omega arith)

      thrice : Passing (s.upper ∷ s.upper ∷ s.upper ∷ zs) (dropped 3)
      unfolding missed
      thrice =
          let a = loses (dropped 1) highest refl lost refl in
          let b = loses (dropped 2) (again 1 (omega arith) (omega arith) a) refl lost refl in
          loses (dropped 3) (again 2 (omega arith) (omega arith) b) refl lost refl

  -- ---- as many sizes as `sizes_most` allows
  -- a search that tries b sizes
  pub record Tried (b : ℕ) : Type 0 where
    pub tried : List ℕ
    pub state : SearchState
    pub steps : Passing tried state
    pub many : sizes tried ≡ b

  module _ (zs : List ℕ) (s : SearchState) (k : Won zs s) where
    -- nearer than twice the change the upper bound is tried
    next_upper : change ≤ s.upper - s.last → s.upper - s.last < 2 * change → chosen s.last s.upper s.last change ≡ s.upper
    next_upper h l = chosen_upper s.last s.upper s.last change (omega arith) h

    new_upper : sizes (s.upper ∷ zs) ≡ suc (sizes zs)
    new_upper = sizes_new s.upper zs (untried k.at s.upper k.low (omega arith))

    -- up to the edge it is the last
    ends_there : change ≤ s.upper - s.last → s.upper - s.last ≤ edge change → Tried (sizes zs + sizes_most change (s.upper - s.last))
    ends_there h l =
        let c = fit.some in
        let e = next_upper h (omega arith) in
        record {
          tried = s.upper ∷ zs;
          state = sent s.last s.upper s.upper 0 0;
          steps = highest zs s k e;
          many = omega (arith, new_upper, most_some change (s.upper - s.last) h, levels_stop change (s.upper - s.last) l);
        }

    -- above it one more is tried, half way below the upper bound that was lost
    one_more : edge change < s.upper - s.last → s.upper - s.last < 2 * change → Tried (sizes zs + sizes_most change (s.upper - s.last))
    one_more h l =
        let m = fit.some in
        let x = half s.last (s.upper - 1) in
        let e = next_upper (omega arith) l in
        let p = thrice zs s k e in
        let c = chosen_half s.last (s.upper - 1) s.upper change (omega arith) (omega arith) in
        let t = sent s.last (s.upper - 1) x 0 0 in
        let i = turn_lost (dropped zs s k 3) change 0 refl (λ z. omega arith) (omega arith) refl (onward_sent s.last (s.upper - 1) s.upper change 0 (sym c) (λ z. omega arith)) in
        let u = s.upper in
        let g = sure (Passes largest) (Stops largest) current peer top change fit p in
        let new = sizes_new x (u ∷ u ∷ u ∷ zs) (g.counts.between x (omega arith) (omega arith) (λ z. omega arith)) in
        let second = sizes_old u (u ∷ u ∷ zs) (omega (arith, times_here u (u ∷ zs))) in
        let first = sizes_old u (u ∷ zs) (omega (arith, times_here u zs)) in
        let w = u - s.last in
        let two = most_some change w (omega arith) ∙ ap suc (levels_half change w fit.some h (omega (arith, fit.top, k.bound)) ∙ ap suc (levels_stop change (up w) (omega arith))) in
        record { tried = x ∷ u ∷ u ∷ u ∷ zs; state = t; steps = probes 0 t p i (omega arith); many = omega (arith, new, second, first, new_upper, two) }

    -- farther away the size half way is one, and the others are those of what is left
    half_more : 2 * change ≤ s.upper - s.last → Tried (sizes (middle s ∷ zs) + sizes_most change (s.upper - middle s)) → Tried (sizes zs + sizes_most change (s.upper - s.last))
    half_more h r =
        let c = fit.some in
        let w = s.upper - s.last in
        let e : s.upper - middle s ≡ up w = omega arith in
        let new = sizes_new (middle s) zs (untried k.at (middle s) (omega arith) (omega arith)) in
        let a = most_some change w (omega arith) ∙ ap suc (levels_half change w fit.some (omega arith) (omega (arith, fit.top, k.bound))) in
        let b = ap (λ (v : ℕ). sizes_most change v) e ∙ most_some change (up w) (omega arith) in
        record { tried = r.tried; state = r.state; steps = r.steps; many = omega (arith, r.many, new, a, b) }

  -- up to the upper bound, by halving the distance to it
  climb : (f : ℕ) (zs : List ℕ) (s : SearchState) → Won zs s → change ≤ s.upper - s.last → s.upper - s.last ≤ f → Tried (sizes zs + sizes_most change (s.upper - s.last))
  unfolding acked
  climb zero zs s k h l = absurd (omega (arith, fit.some))
  climb (suc f) zs s k h l =
      let c = fit.some in
      ⊎_elim (λ a. ⊎_elim (λ b. one_more zs s k b a) (λ b. ends_there zs s k h b) (split (edge change) (s.upper - s.last)))
      (λ a. half_more zs s k a (climb f (middle s ∷ zs) (acked (sent s.last s.upper (middle s) 0 0)) (halved zs s k a) (omega arith) (omega arith)))
      (split (s.upper - s.last) (2 * change))

  begun_won : change ≤ min top peer - current → Won [] (begun current peer top)
  unfolding begun
  begun_won h = record { at = fresh; idle = refl; none = refl; bound = omega (arith, fit.under); low = omega (arith, fit.under, fit.some) }

  -- the theorem: so many sizes are tried where the path passes every size but the upper bound
  pub attained : change ≤ min top peer - current → Tried (sizes_most change (min top peer - current))
  unfolding begun
  attained h =
      let s = begun current peer top in
      let w = s.upper - s.last in
      let e : w ≡ min top peer - current = omega (arith, fit.under) in
      let r = climb w [] s (begun_won h) (omega arith) (omega arith) in
      record { tried = r.tried; state = r.state; steps = r.steps; many = omega (arith, r.many, sizes_none, ap (λ (v : ℕ). sizes_most change v) e) }

  -- ---- as far below as `shortfall` allows
  pub record Farthest : Type 0 where
    pub tried : List ℕ
    pub state : SearchState
    pub steps : Passing tried state
    pub over : Poll state change 0 Over
    pub far : largest - known state ≡ shortfall change

  none_left : (l u : ℕ) → 3 ≤ change → u + 3 ≡ l + 2 * change → chosen l (u - 1) u change ≡ 0
  none_left l u three e = chosen_none l (u - 1) u change (omega arith) (omega arith)

  far_below : (l u x : ℕ) → 3 ≤ change → l ≡ x → u + 3 ≡ l + 2 * change → u - 1 - x ≡ shortfall change
  far_below l u x three i e = omega arith

  -- the theorem: where the bounds are 2 m - 3 apart only the upper bound is tried, and the search ends where it began
  pub farthest : 3 ≤ change → min top peer - current ≡ 2 * change - 3 → Farthest
  unfolding begun
  farthest three h =
      let s = begun current peer top in
      let k = begun_won (omega arith) in
      let p = thrice [] s k (next_upper [] s k (omega (arith, fit.under)) (omega (arith, fit.under))) in
      let d = dropped [] s k 3 in
      let u : s.upper + 3 ≡ s.last + 2 * change = omega (arith, fit.under) in
      let c = none_left s.last s.upper three u in
      let i = turn_lost d change 0 refl (λ z. omega arith) (omega arith) refl (onward_over s.last (s.upper - 1) s.upper change 0 (sym c) refl) in
      let e = known_lost d refl (λ z. omega arith) in
      record { tried = s.upper ∷ s.upper ∷ s.upper ∷ []; state = d; steps = p; over = i; far = far_below s.last (min top peer) (known d) three e (omega (arith, u, k.bound)) }
