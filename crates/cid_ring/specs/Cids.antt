-- The connection-id queue (01, Connection-id queue; RFC 9000 sections 5.1 and 19.15) as a partial map from sequence numbers to ids.
-- A queue is read as what stands under each number, `under`, and is made of such a map and its least number, `ring_of`: the record's five
-- places are named in these two alone. What each call does is said of the map: `retired` takes numbers out, `put` writes one, `first`
-- finds the least one held. Assumes nothing.
use Rattle.std.specs.Prelude.{ℕ, zero, suc, ◌+◌, ◌-◌, ◌%◌, ◌^◌, max, Bool, true, cond, ◌&&◌, ◌||◌, List, [], ◌∷◌, eqb, ltb, leb, get_or, Option, Some, None, is_some}
use Rattle.cid_ring.specs.declared.Cid.{Cid}
use Rattle.cid_ring.specs.declared.Ring.{Ring}

-- The record and the map.

-- what stands under the number n, if there is an id: five numbers from the active one on have a place, n has the place n % 5
unfoldable pub under : Ring → ℕ → Option Cid
under q n = cond (leb q.offset n && ltb n (q.offset + 5)) (get_or q.slots (n % 5) None) None

-- whether there is an id under n
unfoldable pub held : Ring → ℕ → Bool
held q n = is_some (under q n)

-- the token of an id that came with one
abbrev pub token_of : Option Cid → Option (List ℕ)
token_of None = None
token_of (Some s) = s.token

-- which of the five numbers from a on has the place p
abbrev pub number_at : ℕ → ℕ → ℕ
number_at a p = a + (p + 5 - a % 5) % 5

-- the five places, for the map f from the number a on
abbrev pub table : (ℕ → Option Cid) → ℕ → List (Option Cid)
table f a = f (number_at a 0) ∷ f (number_at a 1) ∷ f (number_at a 2) ∷ f (number_at a 3) ∷ f (number_at a 4) ∷ []

-- the queue whose active number is a, and in which f n stands under each of the five numbers n from a on
unfoldable pub ring_of : (ℕ → Option Cid) → ℕ → Ring
ring_of f a = record { slots = table f a; offset = a }

-- Steps on the map.

-- the least of the k numbers from n on of which h says yes; n + k where it says so of none
unfoldable pub first : (ℕ → Bool) → ℕ → ℕ → ℕ
first h n zero = n
first h n (suc k) = cond (h n) n (first h (suc n) k)

-- all numbers below `to` are gone, and it is the active one, unless the active one is above it already
unfoldable pub retired : Ring → ℕ → Ring
retired q to = ring_of (λ n. cond (ltb n to) None (under q n)) (max q.offset to)

-- s stands under the number m, if m has a place; all others are as they were
unfoldable pub put : Ring → ℕ → Option Cid → Ring
put q m s = ring_of (λ n. cond (eqb n m) s (under q n)) q.offset

-- Good form.

-- what may stand under n: nothing, or an id of 1 to 20 bytes under a number below 2^62, with a token unless n is 0
unfoldable pub fit : Option Cid → ℕ → Bool
fit None n = true
fit (Some s) n = (ltb 0 s.len && leb s.len 20) && (ltb n (2 ^ 62) && (is_some s.token || eqb n 0))

-- the same of k numbers from n on
unfoldable pub fits : Ring → ℕ → ℕ → Bool
fits q n zero = true
fits q n (suc k) = fit (under q n) n && fits q (suc n) k

-- a queue in good form: the active number is below 2^62 and held, and what stands under the five numbers may stand there
unfoldable pub sound : Ring → Bool
sound q = ltb q.offset (2 ^ 62) && (held q q.offset && fits q q.offset 5)

-- nothing under any number, from 0 on
unfoldable pub empty : Ring
empty = ring_of (λ n. None) 0
