-- What is summed and what is left make up the whole; a pair takes at most 16 bytes, so no sum wraps.
use native.Mathlib.Omega.{arith}
use Prim.Native.Nat.{◌<◌, ◌*◌, ◌+◌, ◌-◌}
use lib.ListN.{get_or}
use Rattle.ack_write.specs.Write.{Ordered}
use Rattle.ack_write.proofs.Laws.{ordered_on, size_on, len_le, pairs_end}
use Rattle.ack_write.proofs.pairs_size.Goals as goal
use Rattle.ack_write.proofs.pairs_size.Goals.{In-loop-n}

-- the range of this turn is in order
turn : (c : In-loop-n) →
    let l = c.args.list.now in let k = c.loop-n.n - 1 in
    (get_or l (k * 2) 0 < get_or l (k * 2 + 1) 0) × ((get_or l (k * 2 + 1) 0 < c.loop-n.low) × Ordered l k (get_or l (k * 2) 0))
turn c = ordered_on _ _ _ c.loop-n-test.true c.loop-n.invariant.ordered

pub loop-n-init : goal.loop-n-init
loop-n-init c = record { low_in = omega arith; ordered = c.requires.1.1; sum = omega arith; small = omega arith }

pub overflow_sub-low : goal.overflow_sub-low
overflow_sub-low c = omega (arith, turn (goal.at.overflow_sub-low c).In-loop-n)

pub overflow_sub-low-in-loop-n : goal.overflow_sub-low-in-loop-n
overflow_sub-low-in-loop-n c = omega (arith, turn (goal.at.overflow_sub-low-in-loop-n c).In-loop-n)

pub len_of-requires : goal.len_of-requires
len_of-requires c = omega (arith, turn (goal.at.len_of-requires c).In-loop-n)

pub overflow_sub-hi : goal.overflow_sub-hi
overflow_sub-hi c = omega (arith, turn (goal.at.overflow_sub-hi c).In-loop-n)

pub overflow_sub-hi-in-loop-n : goal.overflow_sub-hi-in-loop-n
overflow_sub-hi-in-loop-n c = omega (arith, turn (goal.at.overflow_sub-hi-in-loop-n c).In-loop-n)

pub len_of-requires-in-loop-n : goal.len_of-requires-in-loop-n
len_of-requires-in-loop-n c = omega (arith, turn (goal.at.len_of-requires-in-loop-n c).In-loop-n)

pub overflow_add-total : goal.overflow_add-total
overflow_add-total c =
    let x = len_le (c.loop-n.low - get_or c.args.list.now ((c.loop-n.n - 1) * 2 + 1) 0 - 1) in
    let y = len_le (get_or c.args.list.now ((c.loop-n.n - 1) * 2 + 1) 0 - 1 - get_or c.args.list.now ((c.loop-n.n - 1) * 2) 0) in
    omega arith

pub overflow_add-total-in-loop-n : goal.overflow_add-total-in-loop-n
overflow_add-total-in-loop-n c =
    let x = len_le (c.loop-n.low - get_or c.args.list.now ((c.loop-n.n - 1) * 2 + 1) 0 - 1) in
    let y = len_le (get_or c.args.list.now ((c.loop-n.n - 1) * 2 + 1) 0 - 1 - get_or c.args.list.now ((c.loop-n.n - 1) * 2) 0) in
    omega arith

pub loop-n-preserved : goal.loop-n-preserved
loop-n-preserved c =
    let l = c.loop-n in
    let s = c.args.list.now in
    let t = turn (goal.at.loop-n-preserved c).In-loop-n in
    let x = len_le (l.low - get_or s ((l.n - 1) * 2 + 1) 0 - 1) in
    let y = len_le (get_or s ((l.n - 1) * 2 + 1) 0 - 1 - get_or s ((l.n - 1) * 2) 0) in
    let z = size_on s l.low l.n c.loop-n-test.true in
    record { low_in = omega arith; ordered = t.1.1; sum = omega arith; small = omega arith }

pub returns : goal.returns
returns c =
    let l = c.loop-n in
    let e = pairs_end c.args.list.now l.low l.n (omega arith) in
    omega (arith, rw e at l.invariant.sum)
