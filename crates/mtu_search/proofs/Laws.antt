-- The search's definitions, case by case.
-- Assumes nothing.
use mathlib.Core.Path.{◌≡◌, refl}
use mathlib.Core.Bool.{Bool, true, false, cond}
use Prim.Native.Nat.{ℕ, ◌-◌, ◌≤◌, ◌<◌}
use lib.Dec.{eqb, ltb}
use borrow.Author.Tests.{ltb-true, ltb-false, eqb-true, eqb-false, lt-ltb, le-ltb, le-leb, lt-leb, eq-eqb, ne_eqb}
use Rattle.mtu_search.specs.declared.SearchState.{SearchState}
use Rattle.mtu_search.specs.declared.Turn.{Turn}
use Rattle.mtu_search.specs.declared.Turn.TheVariants.{Waiting, Probing, Over}
use Rattle.mtu_search.specs.Search.{half, distance, chosen, sent, onward, turn, known}

module _ (lower upper last change : ℕ) where
  pub chosen_half : change ≤ distance (half lower upper) last → lower < half lower upper → chosen lower upper last change ≡ half lower upper
  unfolding chosen
  chosen_half h l = rw (le-leb change (distance (half lower upper) last) h, lt-ltb lower (half lower upper) l)

  pub chosen_upper : distance (half lower upper) last < change → change ≤ upper - last → chosen lower upper last change ≡ upper
  unfolding chosen
  chosen_upper h l = rw (lt-leb change (distance (half lower upper) last) h, le-leb change (upper - last) l)

  pub chosen_none : distance (half lower upper) last < change → upper - last < change → chosen lower upper last change ≡ 0
  unfolding chosen
  chosen_none h l = rw (lt-leb change (distance (half lower upper) last) h, lt-leb change (upper - last) l)

  pub onward_over : (n : ℕ) {z : ℕ} → z ≡ chosen lower upper last change → z ≡ 0 → Over ≡ onward lower upper last change n
  unfolding onward
  onward_over n e h = rw (← e, eq-eqb _ 0 h)

  pub onward_sent : (n : ℕ) {z : ℕ} → z ≡ chosen lower upper last change → (z ≡ 0 → ⊥) → Probing (sent lower upper z n 0) ≡ onward lower upper last change n
  unfolding onward
  onward_sent n e h = rw (← e, ne_eqb _ 0 h)

module _ (s : SearchState) where
  pub known_flying : s.flying ≡ true → s.lower ≡ known s
  unfolding known
  known_flying e = rw e

  pub known_acked : s.flying ≡ false → s.lost ≡ 0 → s.last ≡ known s
  unfolding known
  known_acked e z = rw (e, eq-eqb s.lost 0 z)

  pub known_lost : s.flying ≡ false → (s.lost ≡ 0 → ⊥) → s.lower ≡ known s
  unfolding known
  known_lost e z = rw (e, ne_eqb s.lost 0 z)

  module _ (change n : ℕ) where
    pub turn_won : {r : Turn} → s.flying ≡ false → s.lost ≡ 0 → r ≡ onward s.last s.upper s.last change n → r ≡ turn s change n
    unfolding turn
    turn_won e z er = rw (e, eq-eqb s.lost 0 z) er

    pub turn_again : s.flying ≡ false → (s.lost ≡ 0 → ⊥) → s.lost < 3 → Probing (sent s.lower s.upper s.last n s.lost) ≡ turn s change n
    unfolding turn
    turn_again e z l = rw (e, ne_eqb s.lost 0 z, lt-ltb s.lost 3 l)

    pub turn_lost : {u : ℕ} {r : Turn} → s.flying ≡ false → (s.lost ≡ 0 → ⊥) → 3 ≤ s.lost → u ≡ s.last - 1 → r ≡ onward s.lower u s.last change n
        → r ≡ turn s change n
    unfolding turn
    turn_lost e z l eu er = rw (e, ne_eqb s.lost 0 z, le-ltb s.lost 3 l, ← eu) er

-- ---- by cases: what holds of each outcome holds of the turn
pub onward_by : (P : Turn → Type 0) (lower upper last change n : ℕ) → (chosen lower upper last change ≡ 0 → P Over)
    → ((chosen lower upper last change ≡ 0 → ⊥) → P (Probing (sent lower upper (chosen lower upper last change) n 0))) → P (onward lower upper last change n)
unfolding onward
onward_by P lower upper last change n none some = by (eqb (chosen lower upper last change) 0) refl
  where
    by : (b : Bool) → eqb (chosen lower upper last change) 0 ≡ b → P (cond b Over (Probing (sent lower upper (chosen lower upper last change) n 0)))
    by true e = none (eqb-true _ _ e)
    by false e = some (eqb-false _ _ e)

pub turn_by : (P : Turn → Type 0) (s : SearchState) (change n : ℕ) → (s.flying ≡ true → P Waiting)
    → (s.flying ≡ false → s.lost ≡ 0 → P (onward s.last s.upper s.last change n))
    → (s.flying ≡ false → (s.lost ≡ 0 → ⊥) → s.lost < 3 → P (Probing (sent s.lower s.upper s.last n s.lost)))
    → (s.flying ≡ false → (s.lost ≡ 0 → ⊥) → 3 ≤ s.lost → P (onward s.lower (s.last - 1) s.last change n)) → P (turn s change n)
unfolding turn
turn_by P s change n waits won again lost = by s.flying (eqb s.lost 0) (ltb s.lost 3) refl refl refl
  where
    by : (a b c : Bool) → s.flying ≡ a → eqb s.lost 0 ≡ b → ltb s.lost 3 ≡ c
        → P
        (cond a Waiting
        (cond b (onward s.last s.upper s.last change n)
        (cond c (Probing (sent s.lower s.upper s.last n s.lost)) (onward s.lower (s.last - 1) s.last change n))))
    by true b c e f g = waits e
    by false true c e f g = won e (eqb-true _ _ f)
    by false false true e f g = again e (eqb-false _ _ f) (ltb-true _ _ g)
    by false false false e f g = lost e (eqb-false _ _ f) (ltb-false _ _ g)
