-- What the calls' proofs need beside the definitions: a bound from good form, and the turns of a search. Assumes nothing.
use mathlib.Core.Path.{◌≡◌, ap, ◌∙◌}
use mathlib.Core.Bool.{true}
use Prim.Native.Nat.{ℕ, ◌+◌, ◌-◌, ◌^◌, ◌≤◌, ◌<◌}
use native.Mathlib.Omega.{arith}
use native.Mathlib.Numerals.{add-one}
use Rattle.cid_ring.specs.declared.Ring.{Ring}
use Rattle.cid_ring.specs.Cids.{held, first, sound}
use Rattle.cid_ring.proofs.Found.{first_within}
use Rattle.cid_ring.proofs.Kept.{sound_says}
use Rattle.cid_queue.specs.Queue.{nth}

pub sound_small : (q : Ring) → sound q ≡ true → q.offset < 2 ^ 62
sound_small q e = (sound_says q e).small

-- a turn: the next number held, which rises by at most one past the five a turn
pub nth_more : (q : Ring) (i n m : ℕ) → n ≡ nth q i → m ≡ first (held q) (n + 1) (q.offset + 5 - (n + 1)) → m ≡ nth q (i + 1)
unfolding nth
nth_more q i n m e d = rw (add-one i) (d ∙ ap (λ (x : ℕ). first (held q) (x + 1) (q.offset + 5 - (x + 1))) e)

pub nth_bound : (q : Ring) (i n m : ℕ) → n ≤ q.offset + 5 + i → m ≡ first (held q) (n + 1) (q.offset + 5 - (n + 1)) → m ≤ q.offset + 5 + (i + 1)
nth_bound q i n m l e = omega (arith, first_within (held q) (n + 1) (q.offset + 5 - (n + 1)))
