-- `read_number` meets its contract. The part that is lent lies within what it is a part of. Assumes nothing.
use mathlib.Core.Path.{sym}
use lib.Seq.{length-take-le}
use borrow.Author.Rules.{rules}
use Rattle.drive_leaf.proofs.Laws.{strings, expand_is, expand_refused}
use Rattle.drive_leaf.proofs.read_number.Goals as goal

pub returns-then-bytes-size : goal.returns-then-bytes-size
returns-then-bytes-size c = search (rules, strings)

pub slice_bounds-expand-end : goal.slice_bounds-expand-end
slice_bounds-expand-end c = sym (length-take-le _ _ (search rules))

pub returns-in-Ok : goal.returns-in-Ok
returns-in-Ok c = expand_is c.args.bytes.now c.args.size c.args.largest c.if-bytes-size.false c.in-Ok.ensures c.number.ensures

pub returns-in-Err : goal.returns-in-Err
returns-in-Err c =
    expand_refused c.args.bytes.now c.args.size c.args.largest c.if-bytes-size.false c.in-Err.ensures c.from.ensures c.number-in-Err.ensures
