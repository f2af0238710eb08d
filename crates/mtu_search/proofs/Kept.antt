-- Every step keeps a search well formed, and what it probes lies above the size known to pass and not above the upper bound.
-- Each by the cases of its definition. Assumes nothing.
use mathlib.Core.Path.{◌≡◌, refl, sym, ◌∙◌}
use mathlib.Core.Bool.{Bool, true, false, cond, ◌&&◌, ◌||◌, not}
use Prim.Native.Nat.{ℕ, ◌+◌, ◌-◌, ◌^◌, ◌≤◌, ◌<◌, min, max}
use native.Mathlib.Omega.{arith}
use lib.Dec.{eqb, ltb, leb}
use borrow.Author.Tests.{ltb-true, leb-true, leb-false, eqb-true, lt-ltb, le-leb, eq-eqb, ne_eqb}
use Rattle.answers.proofs.Tests.{never, fst, snd, both}
use Rattle.mtu_search.specs.declared.SearchState.{SearchState}
use Rattle.mtu_search.specs.declared.Turn.{Turn}
use Rattle.mtu_search.specs.declared.Turn.TheVariants.{Waiting, Probing, Over}
use Rattle.mtu_search.proofs.Laws.{onward_by, turn_by, known_flying, known_acked, known_lost}
use Rattle.mtu_search.specs.Search.{begun, half, distance, chosen, sent, onward, turn, acked, missed, known, good}

-- ---- the size that is chosen
-- what `chosen` may be: nothing; half way, above the lower bound; or the upper bound, far enough above the last size
pub data Choice (lower upper last change : ℕ) : ℕ → Type 0 where
  nothing : Choice lower upper last change 0
  middle : change ≤ distance (half lower upper) last → lower < half lower upper → Choice lower upper last change (half lower upper)
  bound : distance (half lower upper) last < change → change ≤ upper - last → Choice lower upper last change upper

pub choice : (lower upper last change : ℕ) → Choice lower upper last change (chosen lower upper last change)
unfolding chosen
choice lower upper last change =
    far (leb change (distance (half lower upper) last)) (ltb lower (half lower upper)) (leb change (upper - last)) refl refl refl
  where
    far : (a b c : Bool) → leb change (distance (half lower upper) last) ≡ a → ltb lower (half lower upper) ≡ b → leb change (upper - last) ≡ c
        → Choice lower upper last change (cond a (cond b (half lower upper) 0) (cond c upper 0))
    far true true c e f g = middle (leb-true _ _ e) (ltb-true _ _ f)
    far true false c e f g = nothing
    far false b true e f g = bound (leb-false _ _ e) (leb-true _ _ g)
    far false b false e f g = nothing

-- a probe is above what is known to pass, and at most the upper bound
pub chosen_between : (lower upper last change z : ℕ) → Choice lower upper last change z → lower ≤ upper → lower ≤ last → 0 < change → (z ≡ 0 → ⊥) → (lower < z) × (z ≤ upper)
chosen_between lower upper last change z nothing a b c d = absurd (d refl)
chosen_between lower upper last change z (middle h l) a b c d = (l, omega arith)
chosen_between lower upper last change z (bound h l) a b c d = (omega arith, omega arith)

-- ---- a good search, as facts
pub record Fine (s : SearchState) (current peer : ℕ) : Type 0 where
  pub low : 1200 ≤ s.lower
  pub above : s.lower < s.last
  pub within : s.last ≤ s.upper
  pub top : s.upper ≤ peer
  pub tries : s.lost ≤ 3
  pub fly : s.flying ≡ true → s.lost < 3
  pub probe : s.probe < 2 ^ 62
  pub is : current ≡ known s

less_or : (a b : Bool) → (a || not b) ≡ true → b ≡ true → a ≡ true
less_or true b e f = refl
less_or false true e f = e
less_or false false e f = never f

pub good_fine : (s : SearchState) (current peer : ℕ) → good s current peer ≡ true → Fine s current peer
unfolding good
good_fine s current peer g =
    let low = leb 1200 s.lower in
    let above = ltb s.lower s.last in
    let within = leb s.last s.upper in
    let top = leb s.upper peer in
    let tries = leb s.lost 3 in
    let fly = ltb s.lost 3 || not s.flying in
    let probe = ltb s.probe (2 ^ 62) in
    let is = eqb current (known s) in
    let x = fst (low && (above && (within && top))) ((tries && fly) && (probe && is)) g in
    let y = snd (low && (above && (within && top))) ((tries && fly) && (probe && is)) g in
    let t = fst (tries && fly) (probe && is) y in
    let p = snd (tries && fly) (probe && is) y in
    let w = snd above (within && top) (snd low (above && (within && top)) x) in
    record {
      low = leb-true _ _ (fst low (above && (within && top)) x);
      above = ltb-true _ _ (fst above (within && top) (snd low (above && (within && top)) x));
      within = leb-true _ _ (fst within top w);
      top = leb-true _ _ (snd within top w);
      tries = leb-true _ _ (fst tries fly t);
      fly = λ f. ltb-true _ _ (less_or (ltb s.lost 3) s.flying (snd tries fly t) f);
      probe = ltb-true _ _ (fst probe is p);
      is = eqb-true _ _ (snd probe is p);
    }

or_less : (a b : Bool) → (b ≡ true → a ≡ true) → (a || not b) ≡ true
or_less true b f = refl
or_less false true f = f refl
or_less false false f = refl

pub fine_good : (s : SearchState) (current peer : ℕ) → Fine s current peer → good s current peer ≡ true
unfolding good
fine_good s current peer k =
    both (both (le-leb _ _ k.low) (both (lt-ltb _ _ k.above) (both (le-leb _ _ k.within) (le-leb _ _ k.top))))
    (both (both (le-leb _ _ k.tries) (or_less _ _ (λ f. lt-ltb _ _ (k.fly f)))) (both (lt-ltb _ _ k.probe) (eq-eqb _ _ k.is)))

-- ---- a turn
-- a probe that goes out leaves a good search; otherwise there is nothing to say
unfoldable pub TurnFine : Turn → ℕ → ℕ → Type 0
TurnFine Waiting current peer = Unit
TurnFine (Probing s) current peer = Fine s current peer
TurnFine Over current peer = Unit

sent_fine : (lower upper x n lost current peer : ℕ) → 1200 ≤ lower → lower < x → x ≤ upper → upper ≤ peer → lost < 3 → n < 2 ^ 62 → current ≡ lower → Fine (sent lower upper x n lost) current peer
unfolding known
sent_fine lower upper x n lost current peer a b c d e f g = record { low = a; above = b; within = c; top = d; tries = omega arith; fly = λ h. e; probe = f; is = g }

pub onward_fine : (lower upper last change n current peer : ℕ) → 1200 ≤ lower → lower ≤ upper → lower ≤ last → upper ≤ peer → 0 < change → n < 2 ^ 62 → current ≡ lower
    → TurnFine (onward lower upper last change n) current peer
unfolding TurnFine
onward_fine lower upper last change n current peer a b c d e f g =
    onward_by (λ (u : Turn). TurnFine u current peer) lower upper last change n (λ h. tt)
    (λ h.
    let z = chosen_between lower upper last change _ (choice lower upper last change) b c e h in
    sent_fine lower upper _ n 0 current peer a z.0 z.1 d (omega arith) f g)

module _ (s : SearchState) (current peer : ℕ) (k : Fine s current peer) where
  pub turn_fine : (change n : ℕ) → 0 < change → n < 2 ^ 62 → TurnFine (turn s change n) current peer
  unfolding TurnFine
  turn_fine change n hc hn =
      turn_by (λ (u : Turn). TurnFine u current peer) s change n (λ e. tt)
      (λ e z. onward_fine s.last s.upper s.last change n current peer (omega (arith, k)) k.within (omega arith) k.top hc hn (k.is ∙ sym (known_acked s e z)))
      (λ e z l. sent_fine s.lower s.upper s.last n s.lost current peer k.low k.above k.within k.top l hn (k.is ∙ sym (known_lost s e z)))
      (λ e z l. onward_fine s.lower (s.last - 1) s.last change n current peer k.low (omega (arith, k)) (omega (arith, k)) (omega (arith, k)) hc hn (k.is ∙ sym (known_lost s e z)))

  pub acked_fine : Fine (acked s) s.last peer
  unfolding acked known
  acked_fine = record { low = k.low; above = k.above; within = k.within; top = k.top; tries = omega arith; fly = λ h. never h; probe = omega arith; is = refl }

  pub missed_fine : s.flying ≡ true → Fine (missed s) current peer
  unfolding missed known
  missed_fine e =
      record {
        low = k.low;
        above = k.above;
        within = k.within;
        top = k.top;
        tries = omega arith;
        fly = λ h. never h;
        probe = omega arith;
        is = k.is ∙ sym (known_flying s e) ∙ sym (rw (ne_eqb (min s.lost 2 + 1) 0 (λ z. omega arith)));
      }

-- the first turn of a search
pub first_fine : (current peer top change n : ℕ) → 1200 ≤ current → current ≤ peer → 0 < change → n < 2 ^ 62 → TurnFine (turn (begun current peer top) change n) current peer
unfolding turn begun
first_fine current peer top change n a b c d =
    onward_fine (min current peer) (max (min current peer) (min top peer)) (min current peer) change n current peer (omega arith) (omega arith) (omega arith) (omega arith) c d (omega arith)
