-- Each return is one case of the definition; the list is touched only past the walk.
use Rattle.std.proofs.lemmas.Result.{err_from_is_err_and}
use native.Mathlib.Omega.{arith}
use Prim.Native.Nat.{◌<◌, ◌/◌, ◌*◌, ◌+◌}
use mathlib.Core.Path.{sym, ◌∙◌}
use lib.ListN.{length, length-set}
use Rattle.ack_frame.proofs.Laws.{walk_legal, read_bad, read_full, read_stop, read_ok, list_filled}
use Rattle.ack_frame.proofs.read.Goals as goal

pub returns-in_err-head : goal.returns-in_err-head
returns-in_err-head c =
    let p = err_from_is_err_and c.from_residual.result c.from_residual.ensures.1 in
    record { list_after = rw (p.1, p.2) (read_bad c.args.frame.now c.args.list.now c.in_err-head.ensures.value); sound = rw p.1 tt }

pub returns-then-room-eq0-clause-list_after : goal.returns-then-room-eq0-clause-list_after
returns-then-room-eq0-clause-list_after c = read_full c.args.frame.now c.args.list.now c.in_ok-head.ensures.value c.if-room-eq0.true

pub returns-in_err-taken-clause-list_after : goal.returns-in_err-taken-clause-list_after
returns-in_err-taken-clause-list_after c =
    let a = c.args in
    let p = err_from_is_err_and c.from_residual-in_err-taken.result c.from_residual-in_err-taken.ensures.1 in
    let o : 0 < length a.list.now / 2 = omega (arith, c.if-room-eq0.false) in
    rw (p.1, p.2) (read_stop a.frame.now a.list.now c.in_ok-head.ensures.value o (sym c.in_err-taken.ensures.value))

pub offset_bounds-list-n : goal.offset_bounds-list-n
offset_bounds-list-n c = omega (arith, walk_legal _ _ _ _ _ (sym c.in_ok-taken.ensures.value), c.if-room-eq0.false, c.well_formed)

pub bounds-list-n : goal.bounds-list-n
bounds-list-n c = omega (arith, walk_legal _ _ _ _ _ (sym c.in_ok-taken.ensures.value), c.if-room-eq0.false)

pub offset_bounds-list-n-2 : goal.offset_bounds-list-n-2
offset_bounds-list-n-2 c = omega (arith, walk_legal _ _ _ _ _ (sym c.in_ok-taken.ensures.value), c.if-room-eq0.false, c.well_formed)

pub bounds-list-n-2 : goal.bounds-list-n-2
bounds-list-n-2 c = simp length-set (omega (arith, walk_legal _ _ _ _ _ (sym c.in_ok-taken.ensures.value), c.if-room-eq0.false))

pub fill-requires : goal.fill-requires
fill-requires c =
    let w = walk_legal _ _ _ _ _ (sym c.in_ok-taken.ensures.value) in
    (omega (arith, c.in_ok-head.ensures.sound), (simp length-set (omega (arith, w.0, c.if-room-eq0.false)), w.1))

pub returns-clause-list_after : goal.returns-clause-list_after
returns-clause-list_after c =
    let a = c.args in
    let h = c.in_ok-head.head in
    let w = walk_legal _ _ _ _ _ (sym c.in_ok-taken.ensures.value) in
    let o : 0 < length a.list.now / 2 = omega (arith, c.if-room-eq0.false) in
    let i : 2 * h.count + 1 < length a.list.now = omega (arith, w.0, c.if-room-eq0.false) in
    read_ok a.frame.now a.list.now c.in_ok-head.ensures.value o (sym c.in_ok-taken.ensures.value)
    (c.fill.ensures ∙ list_filled a.frame.now a.list.now h.count h.at h.low h.largest w.1 i)
