-- Wrong versions that the promises rule out, of the contracts themselves: one that always refuses, one that keeps no id, one that retires another
-- range or hands back another token. Whatever meets the contracts does as in the example of 4 and 5.
-- Assumes nothing.
use mathlib.Core.Path.{◌≡◌}
use mathlib.Core.Bool.{true}
use mathlib.Core.List.{List, ◌∷◌}
use Prim.Native.Nat.{ℕ}
use lib.ListN.{replicate}
use Rattle.std.specs.Prelude.{Result, is_ok}
use Rattle.answers.specs.declared.Refusal.{Refusal}
use Rattle.cid_queue.specs.declared.CidQueue.{CidQueue}
use Rattle.cid_queue.specs.declared.Retirement.{Retirement}
use Rattle.cid_queue.specs.History.{left}
use Rattle.cid_queue.proofs.History.{New, Frame}
use Rattle.cid_queue.proofs.Examples.{gone, part, begun, begins, edges, gap}

abbrev bytes : ℕ → List ℕ
bytes n = n ∷ replicate 19 0

abbrev token : ℕ → List ℕ
token n = replicate 16 n

pub new_is_taken : (m : Result CidQueue Refusal) → New (bytes 170) 1 m → is_ok m ≡ true
new_is_taken m a = rw a begins

pub first_taken : (m : Result CidQueue Refusal) (r : Result Retirement Refusal) → New (bytes 170) 1 m → Frame (begun m) 4 0 (bytes 4) 1 (token 4) r → is_ok r ≡ true
first_taken m r a b = rw (b, a) edges.0

pub then_retired : (m : Result CidQueue Refusal) (r s : Result Retirement Refusal) → New (bytes 170) 1 m → Frame (begun m) 4 0 (bytes 4) 1 (token 4) r
    → Frame (left (begun m) r) 5 1 (bytes 5) 1 (token 5) s → (gone s ≡ part 0 4 4) × ((left (left (begun m) r) s).ring.offset ≡ 4)
then_retired m r s a b c = rw (c, b, a) gap
