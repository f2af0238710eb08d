-- One search by its own four calls, whatever is acknowledged and lost: it tries at most `sizes_most` sizes, each at most three times.
-- A history is made of what the functions' own contracts allow; each call keeps the search well formed (Kept) and its books (Counts). Assumes nothing.
use mathlib.Core.Path.{◌≡◌, refl, ap, sym, ◌∙◌, subst}
use mathlib.Core.Bool.{true}
use mathlib.Core.List.{List, [], ◌∷◌}
use Prim.Native.Nat.{ℕ, ◌-◌, ◌*◌, ◌^◌, ◌≤◌, ◌<◌, min}
use lib.ListN.{length}
use Rattle.mtu_search.specs.declared.SearchState.{SearchState}
use Rattle.mtu_search.specs.declared.Turn.{Turn}
use Rattle.mtu_search.specs.declared.Turn.TheVariants.{Probing}
use Rattle.mtu_search.specs.Search.{begun, turn, acked, missed}
use Rattle.mtu_search.specs.Measure.{sizes_most}
use Rattle.mtu_search.proofs.SearchState.new as new
use Rattle.mtu_search.proofs.SearchState.poll as poll
use Rattle.mtu_search.proofs.SearchState.on_acked as on_acked
use Rattle.mtu_search.proofs.SearchState.on_lost as on_lost
use Rattle.mtu_search.proofs.Kept.{Fine, TurnFine, turn_fine, first_fine, acked_fine, missed_fine}
use Rattle.mtu_search.proofs.Measure.{TurnLess, turn_less, TurnFirst, first_turn, acked_sizes, missed_sizes}
use Rattle.mtu_search.specs.Count.{times, sizes}
use Rattle.mtu_search.proofs.Counts.{TurnKind, turn_kind, TurnTries, first_tries, Counts, counts_less, next_counts, first_counts, acked_tries, missed_tries, within}

-- ---- the calls, by their contracts
abbrev pub New : ℕ → ℕ → ℕ → SearchState → Type 0
New current peer top s = new.Reads.Post tt (current, (peer, (top, tt))) s (current, (peer, (top, tt)))

abbrev pub Poll : SearchState → ℕ → ℕ → Turn → Type 0
Poll s change n t = poll.Reads.Post tt (s, (change, (n, tt))) t (s, (change, (n, tt)))

abbrev pub OnAcked : SearchState → SearchState → Type 0
OnAcked s t = on_acked.Reads.Post tt (s, tt) t (s, tt)

abbrev pub OnLost : SearchState → SearchState → Type 0
OnLost s t = on_lost.Reads.Post tt (s, tt) t (s, tt)

-- zs are the sizes of the probes of a search that began at the MTU `current` under the peer's maximum and the configured upper bound, the newest first, and s
-- is its state. Of the probes in flight only those of a size in Ack are acknowledged, and only those of a size in Miss are lost
pub data Steps (Ack Miss : ℕ → Type 0) (current peer top change : ℕ) : List ℕ → SearchState → Type 0 where
  opens : (s : SearchState) (n : ℕ) (t : SearchState) → New current peer top s → Poll s change n (Probing t) → n < 2 ^ 62
      → Steps Ack Miss current peer top change (t.last ∷ []) t
  probes : {zs : List ℕ} {s : SearchState} (n : ℕ) (t : SearchState) → Steps Ack Miss current peer top change zs s → Poll s change n (Probing t) → n < 2 ^ 62
      → Steps Ack Miss current peer top change (t.last ∷ zs) t
  acks : {zs : List ℕ} {s : SearchState} (t : SearchState) → Steps Ack Miss current peer top change zs s → s.flying ≡ true → Ack s.last → OnAcked s t
      → Steps Ack Miss current peer top change zs t
  loses : {zs : List ℕ} {s : SearchState} (t : SearchState) → Steps Ack Miss current peer top change zs s → s.flying ≡ true → Miss s.last → OnLost s t
      → Steps Ack Miss current peer top change zs t

abbrev pub Any : ℕ → Type 0
Any x = Unit

-- of a path that passes exactly the sizes up to S
abbrev pub Passes : ℕ → ℕ → Type 0
Passes S x = x ≤ S

abbrev pub Stops : ℕ → ℕ → Type 0
Stops S x = S < x

-- settings that a call passes
pub record Fit (current peer change : ℕ) : Type 0 where
  pub low : 1200 ≤ current
  pub under : current ≤ peer
  pub top : peer ≤ 65536
  pub some : 0 < change

sent_fine : {t : SearchState} {u : Turn} {current peer : ℕ} → Probing t ≡ u → TurnFine u current peer → Fine t current peer
unfolding TurnFine
sent_fine {t} {u} {current} {peer} e f = subst (λ (x : Turn). TurnFine x current peer) (sym e) f

pub acked_last : (s : SearchState) → (acked s).last ≡ s.last
unfolding acked
acked_last s = refl

pub acked_lower : (s : SearchState) → (acked s).lower ≡ s.lower
unfolding acked
acked_lower s = refl

pub acked_upper : (s : SearchState) → (acked s).upper ≡ s.upper
unfolding acked
acked_upper s = refl

pub missed_last : (s : SearchState) → (missed s).last ≡ s.last
unfolding missed
missed_last s = refl

pub missed_lower : (s : SearchState) → (missed s).lower ≡ s.lower
unfolding missed
missed_lower s = refl

pub missed_upper : (s : SearchState) → (missed s).upper ≡ s.upper
unfolding missed
missed_upper s = refl

-- the size of the newest probe
abbrev pub newest : List ℕ → ℕ
newest [] = 0
newest (x ∷ l) = x

module _ (Ack Miss : ℕ → Type 0) (current peer top change : ℕ) (fit : Fit current peer change) where
  -- how far its bounds are apart
  abbrev wide : ℕ
  wide = min top peer - current

  -- the search is well formed, and its books are kept
  pub record Sure (zs : List ℕ) (s : SearchState) : Type 0 where
    pub mtu : ℕ
    pub fine : Fine s mtu peer
    pub counts : Counts zs s change (sizes_most change wide)
    pub newest : newest zs ≡ s.last

  first_sure : (s : SearchState) (n : ℕ) (t : SearchState) → s ≡ begun current peer top → Probing t ≡ turn s change n → n < 2 ^ 62 → Sure (t.last ∷ []) t
  unfolding TurnFirst TurnTries
  first_sure s n t d e h =
      let i : Probing t ≡ turn (begun current peer top) change n = e ∙ ap (λ (x : SearchState). turn x change n) d in
      let f = subst (λ (x : Turn). TurnFirst x change wide) (sym i) (first_turn current peer top change n fit.under fit.top fit.some) in
      let j = subst (λ (x : Turn). TurnTries x) (sym i) (first_tries current peer top change n) in
      record {
        mtu = current;
        fine = sent_fine i (first_fine current peer top change n fit.low fit.under fit.some h);
        counts = first_counts t change (sizes_most change wide) f.1.0 f.1.1 j;
        newest = refl;
      }

  next_sure : (zs : List ℕ) (s : SearchState) (n : ℕ) (t : SearchState) → Sure zs s → Probing t ≡ turn s change n → n < 2 ^ 62 → Sure (t.last ∷ zs) t
  unfolding TurnLess TurnKind
  next_sure zs s n t k e h =
      let f = sent_fine e (turn_fine s k.mtu peer k.fine change n fit.some h) in
      let l = subst (λ (x : Turn). TurnLess x s change) (sym e) (turn_less s k.mtu peer k.fine fit.top change fit.some n) in
      let j = subst (λ (x : Turn). TurnKind x s) (sym e) (turn_kind s k.mtu peer k.fine change n) in
      record { mtu = k.mtu; fine = f; counts = next_counts zs s t change (sizes_most change wide) k.counts l f j; newest = refl }

  acked_sure : (zs : List ℕ) (s t : SearchState) → Sure zs s → t ≡ acked s → Sure zs t
  acked_sure zs s t k e =
      subst (λ (x : SearchState). Sure zs x) (sym e)
      (record {
        mtu = s.last;
        fine = acked_fine s k.mtu peer k.fine;
        counts = counts_less zs s (acked s) change (sizes_most change wide) k.counts (acked_lower s) (acked_upper s) (acked_last s) (acked_tries s) (acked_sizes s change);
        newest = k.newest ∙ sym (acked_last s);
      })

  missed_sure : (zs : List ℕ) (s t : SearchState) → Sure zs s → s.flying ≡ true → t ≡ missed s → Sure zs t
  missed_sure zs s t k g e =
      subst (λ (x : SearchState). Sure zs x) (sym e)
      (record {
        mtu = k.mtu;
        fine = missed_fine s k.mtu peer k.fine g;
        counts = counts_less zs s (missed s) change (sizes_most change wide) k.counts (missed_lower s) (missed_upper s) (missed_last s) (missed_tries s g (k.fine.fly g))
            (missed_sizes s change);
        newest = k.newest ∙ sym (missed_last s);
      })

  pub sure : {zs : List ℕ} {s : SearchState} → Steps Ack Miss current peer top change zs s → Sure zs s
  sure (opens s n t d e h) = first_sure s n t d e h
  sure (probes {zs} {s} n t k e h) = next_sure zs s n t (sure k) e h
  sure (acks {zs} {s} t k g a e) = acked_sure zs s t (sure k) e
  sure (loses {zs} {s} t k g a e) = missed_sure zs s t (sure k) g e

  -- the theorem: a search whose bounds are so far apart tries at most `sizes_most change wide` sizes, each at most three times
  pub steps_sizes : {zs : List ℕ} {s : SearchState} → Steps Ack Miss current peer top change zs s
      → (length zs ≤ 3 * sizes_most change wide) × ((sizes zs ≤ sizes_most change wide) × ((x : ℕ) → times x zs ≤ 3))
  steps_sizes {zs} {s} h = within zs s change (sizes_most change wide) (sure h).counts
