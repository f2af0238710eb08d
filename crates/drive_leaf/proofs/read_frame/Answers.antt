-- `read_frame` meets its contract: a law for each return. The parts that are lent lie within what they are parts of. Assumes nothing.
use mathlib.Core.Path.{sym}
use lib.Seq.{length-take-le}
use borrow.Author.Rules.{rules}
use Rattle.drive_leaf.proofs.Laws.{reads, frame_is, frame_refused}
use Rattle.drive_leaf.proofs.read_frame.Goals as goal

pub returns-then-bytes-size : goal.returns-then-bytes-size
returns-then-bytes-size c = search (rules, reads)

pub returns-then-places-gt16384 : goal.returns-then-places-gt16384
returns-then-places-gt16384 c = search (rules, reads)

pub returns-then-list-end : goal.returns-then-list-end
returns-then-list-end c = search (rules, reads)

pub slice_bounds-read-end : goal.slice_bounds-read-end
slice_bounds-read-end c = sym (length-take-le _ _ (search rules))

pub slice_bounds-read-end-3 : goal.slice_bounds-read-end-3
slice_bounds-read-end-3 c = sym (length-take-le _ _ (search rules))

pub returns-in-Ok : goal.returns-in-Ok
returns-in-Ok c =
    let a = c.args in
    frame_is a.bytes.now a.size a.places a.list.now c.if-bytes-size.false c.if-places-gt16384.false c.if-list-end.false c.in-Ok.ensures.list_after c.two.ensures

pub returns-in-Err : goal.returns-in-Err
returns-in-Err c =
    let a = c.args in
    frame_refused a.bytes.now a.size a.places a.list.now c.if-bytes-size.false c.if-places-gt16384.false c.if-list-end.false c.in-Err.ensures.list_after
    c.from.ensures c.two-in-Err.ensures
