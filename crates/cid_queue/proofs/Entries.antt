-- The entries are the ids held, ascending, each once: each number is the first held after the one before it, so none is passed over.
-- Assumes nothing.
use mathlib.Core.Path.{◌≡◌, refl, ap}
use mathlib.Core.Bool.{true}
use mathlib.Core.Logic.{⊎_elim}
use Prim.Native.Nat.{ℕ, zero, suc, ◌+◌, ◌-◌, ◌≤◌, ◌<◌}
use native.Mathlib.Omega.{arith}
use Rattle.answers.proofs.Tests.{split}
use Rattle.std.specs.Prelude.{Option, Some, None, Ok, is_some, is_ok}
use Rattle.cid_ring.specs.declared.Cid.{Cid}
use Rattle.cid_ring.specs.declared.Ring.{Ring}
use Rattle.cid_ring.specs.Cids.{under, held, sound}
use Rattle.cid_ring.proofs.Places.{clash, same}
use Rattle.cid_ring.proofs.Found.{first_from, first_yes, first_no}
use Rattle.cid_ring.proofs.Kept.{Sound, sound_says, held_from, held_below}
use Rattle.cid_queue.specs.Queue.{shown_as, shown, active_of, nth}

module _ (q : Ring) where
  -- ascending
  pub nth_rises : (k : ℕ) → nth q k < nth q (suc k)
  unfolding nth
  nth_rises k = omega (arith, first_from (held q) (nth q k + 1) (q.offset + 5 - (nth q k + 1)))

  -- each is held
  pub nth_held : Sound q → (k : ℕ) → nth q k < q.offset + 5 → held q (nth q k) ≡ true
  unfolding nth
  nth_held h zero l = h.active
  nth_held h (suc k) l =
      let n = nth q k + 1 in
      first_yes (held q) n (q.offset + 5 - n) (omega (arith, first_from (held q) n (q.offset + 5 - n)))

  nth_from : (k : ℕ) → q.offset + k ≤ nth q k
  unfolding nth
  nth_from zero = omega arith
  nth_from (suc k) = omega (arith, nth_from k, nth_rises k)

  -- the entry that tells the number n
  pub record Told (n : ℕ) : Type 0 where
    pub place : ℕ
    pub few : place < 5
    pub is : nth q place ≡ n

  module _ (n : ℕ) (e : held q n ≡ true) where
    found : (k : ℕ) → nth q k ≡ n → Told n
    found k d = record { place = k; few = omega (arith, nth_from k, held_below q n e); is = d }

    not_passed : (k : ℕ) → nth q k < n → nth q (suc k) ≤ n
    unfolding nth
    not_passed k l =
        ⊎_elim
        (λ u.
        clash (held q n) e (first_no (held q) (nth q k + 1) (q.offset + 5 - (nth q k + 1)) n (omega arith) u))
        (λ u. u)
        (split n (nth q (suc k)))

    sought : (d k : ℕ) → nth q k ≤ n → n ≤ nth q k + d → Told n
    sought zero k l u = found k (omega arith)
    sought (suc d) k l u =
        ⊎_elim (found k)
        (λ ne. let m : nth q k < n = omega (arith, ne) in sought d (suc k) (not_passed k m) (omega (arith, nth_rises k)))
        (same (nth q k) n)

    -- every id held is told
    pub all_told : Told n
    unfolding nth
    all_told = sought (n - q.offset) zero (held_from q n e) (omega (arith, held_from q n e))

-- a number that is held has an id to show
pub record Shown (q : Ring) (n : ℕ) : Type 0 where
  pub id : Cid
  pub there : under q n ≡ Some id
  pub is : shown q n ≡ Ok (record { seq = n; cid = id })

pub held_shown : (q : Ring) (n : ℕ) → held q n ≡ true → Shown q n
unfolding held
held_shown q n e = by_id (under q n) refl e
  where
    by_id : (x : Option Cid) → under q n ≡ x → is_some x ≡ true → Shown q n
    by_id None d f = clash (is_some (under q n)) e (ap (λ (x : Option Cid). is_some x) d)
    by_id (Some s) d f = record { id = s; there = d; is = ap (shown_as n) d }

-- so a queue in good form always shows its active id
pub active_there : (q : Ring) → sound q ≡ true → is_ok (active_of q) ≡ true
unfolding active_of
active_there q e =
    let s = held_shown q q.offset (sound_says q e).active in
    rw (e, s.is)
