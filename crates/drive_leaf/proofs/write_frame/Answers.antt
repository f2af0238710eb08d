-- `write_frame` meets its contract: a law for each return. The parts that are lent lie within what they are parts of. Assumes nothing.
use mathlib.Core.Path.{sym}
use lib.Seq.{length-take-le}
use borrow.Author.Rules.{rules}
use Rattle.drive_leaf.proofs.Laws.{writes, write_frame, frame_not}
use Rattle.drive_leaf.proofs.write_frame.Goals as goal

pub returns-then-count-lt2 : goal.returns-then-count-lt2
returns-then-count-lt2 c = search (rules, writes)

pub returns-then-numbers-count : goal.returns-then-numbers-count
returns-then-numbers-count c = search (rules, writes)

pub returns-then-scratch-end : goal.returns-then-scratch-end
returns-then-scratch-end c = search (rules, writes)

pub slice_bounds-write-end-2 : goal.slice_bounds-write-end-2
slice_bounds-write-end-2 c = sym (length-take-le _ _ (search rules))

pub returns-in-Ok : goal.returns-in-Ok
returns-in-Ok c =
    let a = c.args in
    write_frame a.numbers.now a.count a.scratch.now c.if-count-lt2.false c.if-numbers-count.false c.if-scratch-end.false c.in-Ok.ensures c.plain-in-Ok.ensures

pub returns-in-Err : goal.returns-in-Err
returns-in-Err c =
    let a = c.args in
    frame_not a.numbers.now a.count a.scratch.now c.if-count-lt2.false c.if-numbers-count.false c.if-scratch-end.false c.in-Err.ensures
    c.from.ensures c.plain-in-Err.ensures
