-- The books of one search: the probes sent so far and what its state still allows come to at most b sizes, three times b probes, and three of each size.
-- Each step of a search keeps them: a size that was lost is sent again, or a new one lies strictly between the bounds, where none was tried. Assumes nothing.
use mathlib.Core.Path.{◌≡◌, refl, ap, sym, ◌∙◌}
use mathlib.Core.Bool.{true, false}
use mathlib.Core.List.{List, [], ◌∷◌}
use mathlib.Core.Logic.{◌⊎◌, inl, inr, ⊎_elim}
use Prim.Native.Nat.{ℕ, suc, ◌+◌, ◌-◌, ◌*◌, ◌≤◌, ◌<◌, min}
use native.Mathlib.Omega.{arith}
use lib.ListN.{length}
use borrow.Author.Tests.{eq-eqb, ne_eqb}
use Rattle.mtu_search.specs.declared.SearchState.{SearchState}
use Rattle.mtu_search.specs.declared.Turn.{Turn}
use Rattle.mtu_search.specs.declared.Turn.TheVariants.{Waiting, Probing, Over}
use Rattle.mtu_search.specs.Search.{begun, chosen, sent, onward, turn, acked, missed}
use Rattle.mtu_search.specs.Measure.{tries_left, sizes_in, probes_in}
use Rattle.answers.proofs.Tests.{split}
use Rattle.mtu_search.proofs.Laws.{onward_by, turn_by}
use Rattle.mtu_search.proofs.Kept.{Fine}
use Rattle.mtu_search.proofs.Measure.{Less}
use Rattle.mtu_search.specs.Count.{times, sizes}

-- ---- what a turn does to the bounds
-- the same size again
pub record Same (s t : SearchState) : Type 0 where
  pub last : t.last ≡ s.last
  pub lower : t.lower ≡ s.lower
  pub upper : t.upper ≡ s.upper
  pub tries : tries_left t < tries_left s

-- a new size: the bounds close in, and the last size is not between them
pub record New (s t : SearchState) : Type 0 where
  pub lower : s.lower ≤ t.lower
  pub upper : t.upper ≤ s.upper
  pub apart : (x : ℕ) → t.lower < x → x ≤ t.upper → x ≡ s.last → ⊥
  pub tries : tries_left t ≡ 2

unfoldable pub TurnKind : Turn → SearchState → Type 0
TurnKind Waiting s = Unit
TurnKind (Probing t) s = Same s t ⊎ New s t
TurnKind Over s = Unit

unfoldable pub TurnTries : Turn → Type 0
TurnTries Waiting = Unit
TurnTries (Probing t) = tries_left t ≡ 2
TurnTries Over = Unit

sent_tries : (lower upper z n : ℕ) → tries_left (sent lower upper z n 0) ≡ 2
unfolding tries_left
sent_tries lower upper z n = refl

onward_tries : (lower upper last change n : ℕ) → TurnTries (onward lower upper last change n)
unfolding TurnTries
onward_tries lower upper last change n =
    onward_by (λ (u : Turn). TurnTries u) lower upper last change n (λ h. tt) (λ h. sent_tries lower upper (chosen lower upper last change) n)

pub first_tries : (current peer top change n : ℕ) → TurnTries (turn (begun current peer top) change n)
unfolding turn begun
first_tries current peer top change n = onward_tries _ _ _ change n

onward_kind : (s : SearchState) (lower upper last change n : ℕ) → s.lower ≤ lower → upper ≤ s.upper → ((x : ℕ) → lower < x → x ≤ upper → x ≡ s.last → ⊥)
    → TurnKind (onward lower upper last change n) s
unfolding TurnKind
onward_kind s lower upper last change n a b c =
    onward_by (λ (u : Turn). TurnKind u s) lower upper last change n (λ h. tt)
    (λ h. inr (record { lower = a; upper = b; apart = c; tries = sent_tries lower upper (chosen lower upper last change) n }))

again : (s : SearchState) (n : ℕ) → s.flying ≡ false → (s.lost ≡ 0 → ⊥) → s.lost < 3 → Same s (sent s.lower s.upper s.last n s.lost)
unfolding tries_left
again s n e f g = record { last = refl; lower = refl; upper = refl; tries = rw (e, ne_eqb s.lost 0 f) (omega arith) }

pub turn_kind : (s : SearchState) (current peer : ℕ) → Fine s current peer → (change n : ℕ) → TurnKind (turn s change n) s
unfolding TurnKind
turn_kind s current peer k change n =
    turn_by (λ (u : Turn). TurnKind u s) s change n (λ e. tt)
    (λ e z. onward_kind s s.last s.upper s.last change n (omega (arith, k)) (omega arith) (λ x h l i. omega arith))
    (λ e z l. inl (again s n e z l))
    (λ e z l. onward_kind s s.lower (s.last - 1) s.last change n (omega arith) (omega (arith, k)) (λ x h l i. omega (arith, k)))

-- ---- the books
pub record Counts (zs : List ℕ) (s : SearchState) (change b : ℕ) : Type 0 where
  pub probes : length zs + probes_in s change ≤ 3 * b
  pub sorts : sizes zs + sizes_in s change ≤ b
  pub out : 1 ≤ times s.last zs
  pub mine : times s.last zs + tries_left s ≤ 3
  pub others : (x : ℕ) → (x ≡ s.last → ⊥) → times x zs ≤ 3
  pub between : (x : ℕ) → s.lower < x → x ≤ s.upper → (x ≡ s.last → ⊥) → times x zs ≡ 0

pub times_here : (x : ℕ) (l : List ℕ) → times x (x ∷ l) ≡ suc (times x l)
unfolding times
times_here x l = rw (eq-eqb x x refl) (omega arith)

times_there : (x y : ℕ) (l : List ℕ) → (x ≡ y → ⊥) → times x (y ∷ l) ≡ times x l
unfolding times
times_there x y l d = rw (ne_eqb x y d) (omega arith)

pub times_none : (x : ℕ) → times x [] ≡ 0
unfolding times
times_none x = refl

pub sizes_old : (x : ℕ) (l : List ℕ) → 1 ≤ times x l → sizes (x ∷ l) ≡ sizes l
unfolding sizes
sizes_old x l h = rw (ne_eqb (times x l) 0 (λ e. omega arith)) (omega arith)

pub sizes_new : (x : ℕ) (l : List ℕ) → times x l ≡ 0 → sizes (x ∷ l) ≡ suc (sizes l)
unfolding sizes
sizes_new x l h = rw (eq-eqb (times x l) 0 h) (omega arith)

pub sizes_none : sizes [] ≡ 0
unfolding sizes
sizes_none = refl

is_or_not : (x y : ℕ) → (x ≡ y) ⊎ (x ≡ y → ⊥)
is_or_not x y = ⊎_elim (λ a. inr (λ e. omega arith)) (λ a. ⊎_elim (λ b. inr (λ e. omega arith)) (λ b. inl (omega arith)) (split y x)) (split x y)

-- a state with the same sizes and no more tries
pub counts_less : (zs : List ℕ) (s t : SearchState) (change b : ℕ) → Counts zs s change b → t.lower ≡ s.lower → t.upper ≡ s.upper → t.last ≡ s.last
    → tries_left t ≤ tries_left s → sizes_in t change ≡ sizes_in s change → Counts zs t change b
unfolding probes_in
counts_less zs s t change b k el eu ea h e =
    record {
      probes = omega (arith, k.probes);
      sorts = omega (arith, k.sorts);
      out = omega (arith, k.out, ap (λ (y : ℕ). times y zs) ea);
      mine = omega (arith, k.mine, ap (λ (y : ℕ). times y zs) ea);
      others = λ x d. k.others x (λ i. d (i ∙ sym ea));
      between = λ x h l d. k.between x (omega arith) (omega arith) (λ i. d (i ∙ sym ea));
    }

module _ (zs : List ℕ) (s t : SearchState) (change b : ℕ) (k : Counts zs s change b) (l : Less s t change) where
  same_counts : Same s t → Counts (t.last ∷ zs) t change b
  same_counts j =
      let e : times t.last zs ≡ times s.last zs = ap (λ (x : ℕ). times x zs) j.last in
      let h = times_here t.last zs in
      record {
        probes = omega (arith, k.probes, l.probes);
        sorts = omega (arith, sizes_old t.last zs (omega (arith, k.out)), k.sorts, l.sizes);
        out = omega arith;
        mine = omega (arith, k.mine, j.tries);
        others = λ x d. omega (arith, times_there x t.last zs d, k.others x (λ i. d (i ∙ sym j.last)));
        between = λ x v w d. times_there x t.last zs d ∙ k.between x (omega (arith, j)) (omega (arith, j)) (λ i. d (i ∙ sym j.last));
      }

  new_counts : {current peer : ℕ} → Fine t current peer → New s t → Counts (t.last ∷ zs) t change b
  new_counts f j =
      let h = times_here t.last zs in
      let d0 : t.last ≡ s.last → ⊥ = j.apart t.last f.above f.within in
      let z : times t.last zs ≡ 0 = k.between t.last (omega (arith, j, f)) (omega (arith, j, f)) d0 in
      record {
        probes = omega (arith, k.probes, l.probes);
        sorts = omega (arith, sizes_new t.last zs z, k.sorts, l.fresh d0);
        out = omega arith;
        mine = omega (arith, j.tries);
        others = λ x d.
            ⊎_elim (λ i. omega (arith, times_there x t.last zs d, ap (λ (y : ℕ). times y zs) i, k.mine)) (λ i. omega (arith, times_there x t.last zs d, k.others x i))
            (is_or_not x s.last);
        between = λ x v w d. times_there x t.last zs d ∙ k.between x (omega (arith, j)) (omega (arith, j)) (j.apart x v w);
      }

  pub next_counts : {current peer : ℕ} → Fine t current peer → Same s t ⊎ New s t → Counts (t.last ∷ zs) t change b
  next_counts f (inl j) = same_counts j
  next_counts f (inr j) = new_counts f j

pub first_counts : (t : SearchState) (change b : ℕ) → sizes_in t change < b → probes_in t change < 3 * b → tries_left t ≡ 2 → Counts (t.last ∷ []) t change b
first_counts t change b v w c =
    let h = times_here t.last [] in
    let n = times_none t.last in
    record {
      probes = omega arith;
      sorts = omega (arith, sizes_new t.last [] n, sizes_none);
      out = omega arith;
      mine = omega arith;
      others = λ x d. omega (arith, times_there x t.last [] d, times_none x);
      between = λ x h l d. times_there x t.last [] d ∙ times_none x;
    }

pub acked_tries : (s : SearchState) → tries_left (acked s) ≤ tries_left s
unfolding tries_left acked
acked_tries s = omega arith

pub missed_tries : (s : SearchState) → s.flying ≡ true → s.lost < 3 → tries_left (missed s) ≤ tries_left s
unfolding tries_left missed
missed_tries s e h = rw (e, ne_eqb (min s.lost 2 + 1) 0 (λ z. omega arith)) (omega arith)

-- at most b sizes, three times b probes, each size at most three times
pub within : (zs : List ℕ) (s : SearchState) (change b : ℕ) → Counts zs s change b → (length zs ≤ 3 * b) × ((sizes zs ≤ b) × ((x : ℕ) → times x zs ≤ 3))
within zs s change b k =
    (omega (arith, k.probes), (omega (arith, k.sorts), λ x. ⊎_elim (λ i. omega (arith, ap (λ (y : ℕ). times y zs) i, k.mine)) (λ i. k.others x i) (is_or_not x s.last)))
