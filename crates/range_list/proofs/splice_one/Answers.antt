-- `splice_one` meets its contract: a move of the ranges after the gap and two stores are the splice.
use Rattle.range_list.proofs.Laws.{splice_one_is}
use lib.ListN.{length-set}
use borrow.Author.Rules.{rules}
use native.Mathlib.Omega.{arith}
use Rattle.range_list.proofs.splice_one.Goals as goal

pub bounds-list-lo-2 : goal.bounds-list-lo-2
bounds-list-lo-2 c = simp length-set (omega arith)

pub returns : goal.returns
returns c =
    let a = c.args in
    splice_one_is a.list.now _ a.count a.lo a.hi a.a a.b (search rules) (search rules) (search rules) (search rules) c.shift.ensures
