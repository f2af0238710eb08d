-- `splice_none` meets its contract: a move of the ranges after the gap is the splice.
use Rattle.range_list.proofs.Laws.{splice_none_is}
use mathlib.Core.Path.{◌∙◌}
use borrow.Author.Rules.{rules}
use Rattle.range_list.proofs.splice_none.Goals as goal

pub returns : goal.returns
returns c =
    let a = c.args in
    c.shift.ensures ∙ splice_none_is a.list.now a.count a.lo a.hi (search rules) (search rules) (search rules)
