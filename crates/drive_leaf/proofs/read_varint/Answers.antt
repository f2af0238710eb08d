-- `read_varint` meets its contract: a law for each case. The part that is lent lies within what it is a part of. Assumes nothing.
use mathlib.Core.Path.{sym}
use lib.Seq.{length-take-le}
use borrow.Author.Rules.{rules}
use Rattle.drive_leaf.proofs.Laws.{strings, read_value, read_refused}
use Rattle.drive_leaf.proofs.read_varint.Goals as goal

pub returns-then-bytes-size : goal.returns-then-bytes-size
returns-then-bytes-size c = search (rules, strings)

pub slice_bounds-read-end : goal.slice_bounds-read-end
slice_bounds-read-end c = sym (length-take-le _ _ (search rules))

pub returns-in-Ok : goal.returns-in-Ok
returns-in-Ok c = read_value c.args.bytes.now c.args.size c.if-bytes-size.false c.in-Ok.ensures.value c.two.ensures

pub returns-in-Err : goal.returns-in-Err
returns-in-Err c = read_refused c.args.bytes.now c.args.size c.if-bytes-size.false c.in-Err.ensures.value c.from.ensures c.plain-in-Err.ensures
