-- The frame is its head and its pairs; a pair takes at most 16 bytes, as a range does in the list, so the sum fits.
-- the list holds the ranges, the highest of which is in order
use native.Mathlib.Omega.{arith}
use Prim.Native.Nat.{◌+◌, ◌-◌, ◌*◌, ◌/◌, ◌^◌, ◌<◌, ◌≤◌}
use lib.ListN.{length, get_or}
use Rattle.range_list.proofs.Sound.{formed}
use Rattle.ack_write.specs.Write.{Ordered}
use Rattle.ack_write.proofs.Laws.{len_le, head_length, pairs_short, frame_length, top_is}
use Rattle.ack_write.proofs.frame_size.Goals as goal
use Rattle.ack_write.proofs.frame_size.Goals.{Start}

room : (c : Start) → c.args.n + 1 ≤ length c.args.list.now / 2
room c = (formed c.args.list.now (c.args.n + 1) c.requires.0).room

top : (c : Start) → let l = c.args.list.now in let n = c.args.n in
    (get_or l (n * 2) 0 < get_or l (n * 2 + 1) 0) × ((get_or l (n * 2 + 1) 0 < 2 ^ 62 + 1) × Ordered l n (get_or l (n * 2) 0))
top c = top_is c.args.list.now c.args.n c.requires.0

pub overflow_mul-lo : goal.overflow_mul-lo
overflow_mul-lo c = omega (arith, room (goal.at.overflow_mul-lo c).Start)

pub offset_bounds-list-n : goal.offset_bounds-list-n
offset_bounds-list-n c = omega (arith, room (goal.at.offset_bounds-list-n c).Start)

pub bounds-list-n : goal.bounds-list-n
bounds-list-n c = omega (arith, room (goal.at.bounds-list-n c).Start)

pub overflow_mul-hi : goal.overflow_mul-hi
overflow_mul-hi c = omega (arith, room (goal.at.overflow_mul-hi c).Start)

pub overflow_add-hi : goal.overflow_add-hi
overflow_add-hi c = omega (arith, room (goal.at.overflow_add-hi c).Start)

pub offset_bounds-list-n-2 : goal.offset_bounds-list-n-2
offset_bounds-list-n-2 c = omega (arith, room (goal.at.offset_bounds-list-n-2 c).Start)

pub bounds-list-n-2 : goal.bounds-list-n-2
bounds-list-n-2 c = omega (arith, room (goal.at.bounds-list-n-2 c).Start)

pub overflow_sub-hi : goal.overflow_sub-hi
overflow_sub-hi c = omega (arith, top (goal.at.overflow_sub-hi c).Start)

pub overflow_sub-hi-2 : goal.overflow_sub-hi-2
overflow_sub-hi-2 c = omega (arith, top (goal.at.overflow_sub-hi-2 c).Start)

pub overflow_sub-hi-3 : goal.overflow_sub-hi-3
overflow_sub-hi-3 c = omega (arith, top (goal.at.overflow_sub-hi-3 c).Start)

pub head_size-requires : goal.head_size-requires
head_size-requires c =
    let t = top (goal.at.head_size-requires c).Start in
    let r = room (goal.at.head_size-requires c).Start in
    (omega arith, (c.requires.1, (omega (arith, c), omega arith)))

pub pairs_size-requires : goal.pairs_size-requires
pairs_size-requires c =
    let t = top (goal.at.pairs_size-requires c).Start in
    let r = room (goal.at.pairs_size-requires c).Start in
    (omega arith, (omega arith, t.1.1))

pub overflow_add-result : goal.overflow_add-result
overflow_add-result c =
    let a = c.args in
    let l = a.list.now in
    let hi = get_or l (a.n * 2 + 1) 0 in
    let first = hi - 1 - get_or l (a.n * 2) 0 in
    let r = room (goal.at.overflow_add-result c).Start in
    let z = head_length (hi - 1) a.delay a.n first in
    let p = pairs_short l a.n (get_or l (a.n * 2) 0) in
    omega (arith, c, len_le (hi - 1), len_le a.delay, len_le a.n, len_le first)

pub returns : goal.returns
returns c = let a = c.args in omega (arith, frame_length a.list.now a.n a.delay)
