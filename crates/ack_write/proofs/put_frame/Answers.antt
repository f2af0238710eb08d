-- The head and the pairs behind it are the frame.
-- the list holds the ranges, the highest of which is in order
use native.Mathlib.Omega.{arith}
use Prim.Native.Nat.{◌+◌, ◌-◌, ◌*◌, ◌/◌, ◌^◌, ◌<◌, ◌≤◌}
use mathlib.Core.Path.{ap, sym, ◌∙◌}
use lib.ListN.{length, get_or}
use Rattle.range_list.proofs.Sound.{formed}
use Rattle.ack_write.specs.Write.{put, pairs_of, head_bytes, Ordered}
use Rattle.ack_write.proofs.Laws.{frame_length, frame_split, put_then, top_is}
use Rattle.ack_write.proofs.put_frame.Goals as goal
use Rattle.ack_write.proofs.put_frame.Goals.{Start}

room : (c : Start) → c.args.n + 1 ≤ length c.args.list.now / 2
room c = (formed c.args.list.now (c.args.n + 1) c.requires.0).room

top : (c : Start) → let l = c.args.list.now in let n = c.args.n in
    (get_or l (n * 2) 0 < get_or l (n * 2 + 1) 0) × ((get_or l (n * 2 + 1) 0 < 2 ^ 62 + 1) × Ordered l n (get_or l (n * 2) 0))
top c = top_is c.args.list.now c.args.n c.requires.0

pub overflow_mul-lo : goal.overflow_mul-lo
overflow_mul-lo c = omega (arith, room (goal.at.overflow_mul-lo c).Start)

pub offset_bounds-list-n : goal.offset_bounds-list-n
offset_bounds-list-n c = omega (arith, room (goal.at.offset_bounds-list-n c).Start)

pub bounds-list-n : goal.bounds-list-n
bounds-list-n c = omega (arith, room (goal.at.bounds-list-n c).Start)

pub overflow_mul-hi : goal.overflow_mul-hi
overflow_mul-hi c = omega (arith, room (goal.at.overflow_mul-hi c).Start)

pub overflow_add-hi : goal.overflow_add-hi
overflow_add-hi c = omega (arith, room (goal.at.overflow_add-hi c).Start)

pub offset_bounds-list-n-2 : goal.offset_bounds-list-n-2
offset_bounds-list-n-2 c = omega (arith, room (goal.at.offset_bounds-list-n-2 c).Start)

pub bounds-list-n-2 : goal.bounds-list-n-2
bounds-list-n-2 c = omega (arith, room (goal.at.bounds-list-n-2 c).Start)

pub overflow_sub-hi : goal.overflow_sub-hi
overflow_sub-hi c = omega (arith, top (goal.at.overflow_sub-hi c).Start)

pub overflow_sub-hi-2 : goal.overflow_sub-hi-2
overflow_sub-hi-2 c = omega (arith, top (goal.at.overflow_sub-hi-2 c).Start)

pub overflow_sub-hi-3 : goal.overflow_sub-hi-3
overflow_sub-hi-3 c = omega (arith, top (goal.at.overflow_sub-hi-3 c).Start)

pub put_head-at-requires : goal.put_head-at-requires
put_head-at-requires c =
    let a = c.args in
    let t = top (goal.at.put_head-at-requires c).Start in
    let r = room (goal.at.put_head-at-requires c).Start in
    let z = frame_length a.list.now a.n a.delay in
    (omega arith, (c.requires.1.0, (omega (arith, c), (omega arith, omega (arith, c.requires)))))

pub put_pairs-requires : goal.put_pairs-requires
put_pairs-requires c =
    let a = c.args in
    let t = top (goal.at.put_pairs-requires c).Start in
    let r = room (goal.at.put_pairs-requires c).Start in
    let z = frame_length a.list.now a.n a.delay in
    let k = c.put_head-at.auto.out in
    let e = c.put_head-at.ensures.0 in
    (omega arith, (omega arith, (omega (arith, c.requires), t.1.1)))

pub returns : goal.returns
returns c =
    let a = c.args in
    let l = a.list.now in
    let hi = get_or l (a.n * 2 + 1) 0 in
    let lo = get_or l (a.n * 2) 0 in
    let x = head_bytes (hi - 1) a.delay a.n (hi - 1 - lo) in
    let z = frame_length l a.n a.delay in
    let h = c.put_head-at.ensures in
    let e = h.0 in
    c.put_pairs.ensures.1
    ∙ put_then a.out.now x 0 (pairs_of l a.n lo) h.1 (omega arith) (omega (arith, c.requires))
    ∙ ap (put a.out.now 0) (sym (frame_split l a.n a.delay))
