-- `compare` meets its contract. The parts that are lent lie within what they are parts of. Assumes nothing.
use mathlib.Core.Path.{sym}
use lib.Seq.{length-take-le}
use borrow.Author.Rules.{rules}
use Rattle.drive_leaf.proofs.Laws.{strings}
use Rattle.drive_leaf.proofs.compare.Goals as goal

pub returns-then-size-first : goal.returns-then-size-first
returns-then-size-first c = search (rules, strings)

pub returns-then-bytes-size : goal.returns-then-bytes-size
returns-then-bytes-size c = search (rules, strings)

pub slice_bounds-eq-end : goal.slice_bounds-eq-end
slice_bounds-eq-end c = sym (length-take-le _ _ (search rules))

pub returns : goal.returns
returns c = search (rules, strings)
