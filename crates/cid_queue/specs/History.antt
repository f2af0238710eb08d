-- What a history of calls comes to. The ids that came are listed with their numbers, the newest first: the handshake's id, those of frames that
-- were taken, and those that replaced the handshake's. Assumes nothing.
use Rattle.std.specs.Prelude.{ℕ, cond, List, [], ◌∷◌, eqb, ltb, Option, Some, None, Result, Ok, Err}
use Rattle.answers.specs.declared.Refusal.{Refusal}
use Rattle.cid_ring.specs.declared.Cid.{Cid}
use Rattle.cid_queue.specs.declared.CidQueue.{CidQueue}
use Rattle.cid_queue.specs.declared.Retirement.{Retirement}

-- the newest id that came for the number n
unfoldable pub latest : List (ℕ × Cid) → ℕ → Option Cid
latest [] n = None
latest (e ∷ es) n = cond (eqb n e.0) (Some e.1) (latest es n)

-- what stands under n once the active number is a: nothing below it, else the newest that came
abbrev pub held_after : ℕ → List (ℕ × Cid) → ℕ → Option Cid
held_after a es n = cond (ltb n a) None (latest es n)

-- the queue that a caller has after a step: what the step handed back, and after a refusal the caller's own, as it was
abbrev pub left : CidQueue → Result Retirement Refusal → CidQueue
left q (Ok r) = r.queue
left q (Err why) = q

-- the same of a call that hands back a queue alone
abbrev pub left_alone : CidQueue → Result CidQueue Refusal → CidQueue
left_alone q (Ok g) = g
left_alone q (Err why) = q
