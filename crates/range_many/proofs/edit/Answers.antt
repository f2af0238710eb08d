-- `edit` meets its contract: it is one of the two, by `way`.
use mathlib.Core.Path.{sym, ap, ◌∙◌}
use Rattle.range_many.specs.declared.Way.{Way}
use Rattle.range_many.specs.Many.{edit_into}
use Rattle.range_many.proofs.edit.Goals as goal

pub returns-in-TakeOut : goal.returns-in-TakeOut
returns-in-TakeOut c =
    let a = c.args in
    c.take_out.ensures ∙ ap (λ (t : Way). edit_into t a.list.now a.count a.s a.e) (sym c.in-TakeOut.is)

pub returns-in-PutIn : goal.returns-in-PutIn
returns-in-PutIn c =
    let a = c.args in
    c.put.ensures ∙ ap (λ (t : Way). edit_into t a.list.now a.count a.s a.e) (sym c.in-PutIn.is)
