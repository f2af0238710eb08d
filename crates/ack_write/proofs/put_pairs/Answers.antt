-- What is written and what is left to write make up the whole.
use native.Mathlib.Omega.{arith}
use Prim.Native.Nat.{◌≤◌, ◌<◌, ◌*◌, ◌+◌, ◌-◌}
use mathlib.Core.Path.{sym, ◌∙◌, ap, refl}
use lib.ListN.{length, get_or}
use Rattle.varint.specs.Varint.{len_of}
use Rattle.ack_write.specs.Write.{put, pairs_of, Ordered}
use Rattle.ack_write.proofs.Laws.{ordered_on, pairs_on, size_on, put_turn, put_none, pairs_end}
use Rattle.ack_write.proofs.put_pairs.Goals as goal
use Rattle.ack_write.proofs.put_pairs.Goals.{In-loop-n}

-- the range of this turn is in order, and has room
turn : (c : In-loop-n) →
    let l = c.args.list.now in let k = c.loop-n.n - 1 in
    (get_or l (k * 2) 0 < get_or l (k * 2 + 1) 0) × ((get_or l (k * 2 + 1) 0 < c.loop-n.low) × Ordered l k (get_or l (k * 2) 0))
turn c = ordered_on _ _ _ c.loop-n-test.true c.loop-n.invariant.ordered

room-on : (c : In-loop-n) →
    let l = c.args.list.now in let p = c.loop-n in let k = p.n - 1 in
    p.at + len_of (p.low - get_or l (k * 2 + 1) 0 - 1) + len_of (get_or l (k * 2 + 1) 0 - 1 - get_or l (k * 2) 0) + length (pairs_of l k (get_or l (k * 2) 0)) ≤ length p.out
room-on c =
    let l = c.args.list.now in
    let p = c.loop-n in
    omega (arith, size_on l p.low p.n c.loop-n-test.true)

pub loop-n-init : goal.loop-n-init
loop-n-init c = record { low_in = omega arith; ordered = c.requires.1.1.1; room = refl; left = refl }

pub overflow_sub-low : goal.overflow_sub-low
overflow_sub-low c = omega (arith, turn (goal.at.overflow_sub-low c).In-loop-n)

pub overflow_sub-low-in-loop-n : goal.overflow_sub-low-in-loop-n
overflow_sub-low-in-loop-n c = omega (arith, turn (goal.at.overflow_sub-low-in-loop-n c).In-loop-n)

pub put_at-at-requires : goal.put_at-at-requires
put_at-at-requires c = let t = turn (goal.at.put_at-at-requires c).In-loop-n in let r = room-on (goal.at.put_at-at-requires c).In-loop-n in (omega arith, omega arith)

pub overflow_sub-hi : goal.overflow_sub-hi
overflow_sub-hi c = omega (arith, turn (goal.at.overflow_sub-hi c).In-loop-n)

pub overflow_sub-hi-in-loop-n : goal.overflow_sub-hi-in-loop-n
overflow_sub-hi-in-loop-n c = omega (arith, turn (goal.at.overflow_sub-hi-in-loop-n c).In-loop-n)

pub put_at-at-requires-in-loop-n : goal.put_at-at-requires-in-loop-n
put_at-at-requires-in-loop-n c =
    let t = turn (goal.at.put_at-at-requires-in-loop-n c).In-loop-n in let r = room-on (goal.at.put_at-at-requires-in-loop-n c).In-loop-n in let k = c.put_at-at.auto.out in let e = c.put_at-at.ensures.0 in (omega arith, omega arith)

pub loop-n-preserved : goal.loop-n-preserved
loop-n-preserved c =
    let p = c.loop-n in
    let s = c.args.list.now in
    let t = turn (goal.at.loop-n-preserved c).In-loop-n in
    let r = room-on (goal.at.loop-n-preserved c).In-loop-n in
    let z = size_on s p.low p.n c.loop-n-test.true in
    let x = c.put_at-at.auto.out in
    let y = c.put_at-at-in-loop-n.auto.out in
    let m = c.put_at-at.ensures.0 in
    let o = c.put_at-at-in-loop-n.ensures.0 in
    record {
      low_in = omega arith;
      ordered = t.1.1;
      room = omega arith;
      left =
          put_turn p.out p.at (p.low - get_or s ((p.n - 1) * 2 + 1) 0 - 1) (get_or s ((p.n - 1) * 2 + 1) 0 - 1 - get_or s ((p.n - 1) * 2) 0) (pairs_of s (p.n - 1) (get_or s ((p.n - 1) * 2) 0)) r m c.put_at-at.ensures.1 o c.put_at-at-in-loop-n.ensures.1
          ∙ ap (put p.out p.at) (sym (pairs_on s p.low p.n c.loop-n-test.true)) ∙ p.invariant.left;
    }

pub returns : goal.returns
returns c =
    let l = c.loop-n in
    let e = pairs_end c.args.list.now l.low l.n (omega arith) in
    (omega (arith, rw e at l.invariant.room), sym (put_none l.out l.at) ∙ rw e at l.invariant.left)
