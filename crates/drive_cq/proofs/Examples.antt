-- What docs/EVENTS.md says of the events of the queue, of the definitions: ORDER before the first `new`, refusals that leave what was kept, and a few
-- lines by computing. Assumes nothing.
use mathlib.Core.Path.{◌≡◌, refl}
use mathlib.Core.List.{List, [], ◌∷◌}
use Prim.Native.Nat.{ℕ}
use lib.ListN.{replicate}
use borrow.Author.Tests.{ne_eqb}
use Rattle.std.specs.Prelude.{Option, Some}
use Rattle.answers.specs.Answers.{OK, RANGE, ORDER}
use Rattle.codes.specs.Codes.{CQ_FRAME, CQ_ACTIVE, CQ_NEW}
use Rattle.said.specs.Said.{said_plain, said_number}
use Rattle.cid_ring.specs.Cids as ring
use Rattle.cid_queue.specs.declared.CidQueue.{CidQueue}
use Rattle.cid_queue.specs.Queue as cids
use Rattle.drive_cq.specs.Step.{part_of, filled, give_of, begin_of, new_of, frame_of, call_of, step_of}

-- at the start, all that is no `new` is ORDER, and there is no queue after it either
pub order_first : (code : ℕ) (numbers bytes : List ℕ) (first size : ℕ) → (code ≡ CQ_NEW → ⊥)
    → step_of code numbers bytes first size begin_of.kept ≡ give_of (said_plain ORDER) begin_of.kept
unfolding step_of begin_of
order_first code numbers bytes first size h = rw (ne_eqb code CQ_NEW h)

-- `cq.new -`: an id of no bytes leaves what was kept
pub new_refused : (numbers bytes : List ℕ) (k : Option CidQueue) → step_of CQ_NEW numbers bytes 0 0 k ≡ give_of (said_plain RANGE) k
unfolding step_of new_of cids.made
new_refused numbers bytes k = refl

-- a frame with a token of 15 bytes leaves the queue
pub token_short : (numbers bytes : List ℕ) (q : CidQueue) → step_of CQ_FRAME numbers bytes 8 23 (Some q) ≡ give_of (said_plain RANGE) (Some q)
unfolding step_of call_of frame_of
token_short numbers bytes q = refl

-- the bytes 2..5 of six, as an id
pub cut : filled 20 (part_of (10 ∷ 11 ∷ 12 ∷ 13 ∷ 14 ∷ 15 ∷ []) 2 5) ≡ 12 ∷ 13 ∷ 14 ∷ replicate 17 0
unfolding filled part_of
cut = refl

-- `cq.new 070809`, then `cq.active`: the number 0 and the id
pub active_first : (step_of CQ_ACTIVE [] [] 0 0 (step_of CQ_NEW [] (7 ∷ 8 ∷ 9 ∷ []) 0 3 begin_of.kept).kept).said ≡ said_number OK 0
unfolding step_of new_of filled part_of call_of begin_of cids.made cids.active_of ring.put ring.ring_of ring.under ring.sound ring.held ring.fits ring.fit ring.empty
active_first = refl

pub active_id : (step_of CQ_ACTIVE [] [] 0 0 (step_of CQ_NEW [] (7 ∷ 8 ∷ 9 ∷ []) 0 3 begin_of.kept).kept).named ≡ Some (cids.initial (7 ∷ 8 ∷ 9 ∷ replicate 17 0) 3)
unfolding step_of new_of filled part_of call_of begin_of cids.made cids.active_of ring.put ring.ring_of ring.under ring.sound ring.held ring.fits ring.fit ring.empty
active_id = refl
