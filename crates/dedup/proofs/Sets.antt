-- The definition of `noted`, read as sets of numbers: after n is inserted, a number counts as seen exactly if it is too old for the
-- window now, is n, or was seen before. A fresh window has seen nothing.
-- Assumes nothing.
use mathlib.Core.Path.{◌≡◌, refl, ap, sym, ◌∙◌}
use mathlib.Core.Bool.{Bool, true, false, ◌||◌, or-true, or_comm, or_self_left}
use mathlib.Core.Logic.{◌⊎◌, inl, inr, ⊎_elim}
use Prim.Native.Nat.{ℕ, zero, suc, ◌+◌, ◌-◌, ◌*◌, ◌%◌, ◌^◌, ◌≤◌, ◌<◌, max}
use native.Mathlib.Omega.{arith}
use native.Mathlib.Nat.{max-eq_left, max-eq_right, pow-suc}
use lib.Dec.{eqb, leb}
use lib.Pow.{high, low}
use lib.Arith.{digits_lt}
use borrow.Author.Tests.{lt-leb, le-leb, eq-eqb, ne_eqb}
use Rattle.std.specs.Prelude.{Result}
use Rattle.answers.specs.declared.Refusal.{Refusal}
use Rattle.dedup.specs.declared.Dedup.{Dedup}
use Rattle.dedup.specs.declared.Inserted.{Inserted}
use Rattle.dedup.specs.Bits.{bit, pack, num}
use Rattle.dedup.specs.Dedup.{place, recorded, with_number, too_old, seen, holding, told, inserted, fresh}
use Rattle.dedup.specs.History.{left}
use Rattle.dedup.proofs.BitLaws.{bit_mod}
use Rattle.dedup.proofs.Laws.{three, same_test, place_low, place_high, recorded_below, above_unseen, top_seen, old_seen, inserted_new, inserted_seen}

num_lt : (b : Bool) → num b < 2
num_lt true = omega arith
num_lt false = omega arith

num_bit : (b : Bool) → eqb (num b % 2) 1 ≡ b
num_bit true = refl
num_bit false = refl

pack_lt : (k : ℕ) (f : ℕ → Bool) → pack k f < 2 ^ k
unfolding pack
pack_lt zero f = omega arith
pack_lt (suc k) f =
    let h : num (f k) * 2 ^ k + pack k f < 2 * 2 ^ k = digits_lt (num_lt (f k)) (pack_lt k f) in
    let e : 2 ^ suc k ≡ 2 * 2 ^ k = pow-suc 2 k ∙ omega arith in
    rw e h

-- the bits of a packed word are those that were packed
pack_at : (k : ℕ) (f : ℕ → Bool) (i : ℕ) → i < k → bit (pack k f) i ≡ f i
unfolding pack bit
pack_at zero f i h = absurd (omega arith)
pack_at (suc k) f i h =
    three i k
    (λ l. sym (bit_mod (num (f k) * 2 ^ k + pack k f) k i l) ∙ ap (λ (x : ℕ). bit x i) (low (num (f k)) k (pack_lt k f)) ∙ pack_at k f i l)
    (λ e. rw (e, high (num (f k)) k (pack_lt k f)) (num_bit (f k)))
    (λ l. absurd (omega arith))

pub held : (f : ℕ → Bool) (n k : ℕ) → n ≤ k → k < n + 128 → recorded (holding f n) k ≡ f k
unfolding holding
held f n k l h =
    recorded_below (holding f n) k h
    ∙ three (n + 127 - k) 64
    (λ t.
    let e : n + 127 - (n + 127 - k) ≡ k = omega arith in
    place_low _ _ (n + 127 - k) t ∙ pack_at 64 (λ p. f (n + 127 - p)) (n + 127 - k) t ∙ ap f e)
    (λ t. upper (omega arith))
    (λ t. upper (omega arith))
  where
    upper : 64 ≤ n + 127 - k → place (pack 64 (λ p. f (n + 127 - p))) (pack 64 (λ p. f (n + 63 - p))) (n + 127 - k) ≡ f k
    upper g =
        let e : n + 63 - (n + 127 - k - 64) ≡ k = omega arith in
        place_high _ _ (n + 127 - k) g ∙ pack_at 64 (λ p. f (n + 63 - p)) (n + 127 - k - 64) (omega arith) ∙ ap f e

pub fresh_unseen : (n : ℕ) → seen fresh n ≡ false
fresh_unseen n = above_unseen fresh n (omega arith)

-- the larger of two numbers is one of them
larger : (a b : ℕ) → (b ≤ a × (max a b ≡ a)) ⊎ (a ≤ b × (max a b ≡ b))
larger a b = three a b (λ l. inr (omega arith, max-eq_right (omega arith))) (λ e. inr (omega arith, max-eq_right (omega arith))) (λ l. inl (omega arith, max-eq_left (omega arith)))

-- n is new, and the window goes to x
module _ (w : Dedup) (n m x : ℕ) (gw : w.next ≤ x) (gn : n < x) (is : (x ≡ w.next) ⊎ (x ≡ n + 1)) where
  abbrev after : Dedup
  after = holding (with_number w n) x

  new_old : m + 130 ≤ x → seen after m ≡ (too_old x m || (eqb m n || seen w m))
  unfolding holding
  new_old h = old_seen after m h ∙ sym (rw (le-leb (m + 130) x h))

  new_top : x ≡ m + 1 → seen after m ≡ (too_old x m || (eqb m n || seen w m))
  unfolding holding
  new_top e =
      top_seen after m e
      ∙ sym
      (⊎_elim
      (λ a. rw (top_seen w m (omega arith), or-true, or-true))
      (λ b. rw (eq-eqb m n (omega arith), or-true))
      is)

  new_above : x ≤ m → seen after m ≡ (too_old x m || (eqb m n || seen w m))
  unfolding holding
  new_above h =
      above_unseen after m h
      ∙ sym (rw (lt-leb (m + 130) x (omega arith), ne_eqb m n (λ e. omega arith), above_unseen w m (omega arith)))

  new_in : x ≤ m + 129 → m + 1 < x → seen after m ≡ (too_old x m || (eqb m n || seen w m))
  unfolding holding seen
  new_in h l =
      rw (
        lt-leb (m + 130) x (omega arith),
        held (with_number w n) x (m + 129) h (omega arith),
        lt-leb (m + 130) w.next (omega arith),
        same_test (m + 129) (n + 129) m n (λ e. omega arith) (λ e. omega arith),
      )
      (or_comm (recorded w (m + 129)) (eqb m n))

  new : seen after m ≡ (too_old x m || (eqb m n || seen w m))
  new =
      three (m + 129) x
      (λ l. new_old (omega arith))
      (λ e. new_in (omega arith) (omega arith))
      (λ l. three (m + 1) x (λ k. new_in (omega arith) k) (λ e. new_top (sym e)) (λ k. new_above (omega arith)))

never : false ≡ true → ⊥
never e = let z : ◌≡◌ {A = ℕ} 0 1 = cc in omega arith

-- what is seen lies below next
below : (w : Dedup) (n : ℕ) → seen w n ≡ true → n < w.next
below w n t =
    three n w.next (λ l. l)
    (λ e. absurd (never (sym (above_unseen w n (omega arith)) ∙ t)))
    (λ l. absurd (never (sym (above_unseen w n (omega arith)) ∙ t)))

module _ (w : Dedup) (n m : ℕ) (t : seen w n ≡ true) where
  differ : (m ≡ n → ⊥) → (too_old w.next m || (eqb m n || seen w m)) ≡ seen w m
  unfolding seen
  differ d = rw (ne_eqb m n d) (or_self_left (leb (m + 130) w.next) (recorded w (m + 129)))

  again : (too_old w.next m || (eqb m n || seen w m)) ≡ seen w m
  again =
      three m n (λ l. differ (λ e. omega arith))
      (λ e. rw (eq-eqb m n e, or-true) (sym (ap (seen w) e ∙ t)))
      (λ l. differ (λ e. omega arith))

-- what r says and does as sets of numbers: it is no refusal, and n is seen if it was; and afterwards what is seen is what is too old now, n, and what was seen
pub record AsSets (w : Dedup) (n : ℕ) (r : Result Inserted Refusal) : Type 0 where
  pub answer : r ≡ told (seen w n) (left w r)
  pub next : (left w r).next ≡ max w.next (n + 1)
  pub then : (m : ℕ) → seen (left w r) m ≡ (too_old (max w.next (n + 1)) m || (eqb m n || seen w m))

module _ (w : Dedup) (n : ℕ) (hn : n < 2 ^ 62) (hx : w.next ≤ 2 ^ 62) where
  by_cases : (b : Bool) → seen w n ≡ b → AsSets w n (inserted w n)
  unfolding holding
  by_cases true t =
      let l : n < w.next = below w n t in
      let e : max w.next (n + 1) ≡ w.next = max-eq_left (omega arith) in
      rw (inserted_seen w n hn hx t)
      (record {
        answer = rw t;
        next = sym e;
        then = λ m. sym (ap (λ (x : ℕ). too_old x m || (eqb m n || seen w m)) e ∙ again w n m t);
      })
  by_cases false f =
      rw (inserted_new w n hn hx f)
      (record {
        answer = rw f;
        next = refl;
        then = λ m. new w n m (max w.next (n + 1)) (omega arith) (omega arith) (⊎_elim (λ a. inl a.1) (λ b. inr b.1) (larger w.next (n + 1)));
      })

  -- a packet number noted in a window that is well formed
  pub as_sets : AsSets w n (inserted w n)
  as_sets = by_cases (seen w n) refl
