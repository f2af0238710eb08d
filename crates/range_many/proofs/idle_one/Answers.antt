-- `idle_one` meets its contract: it is one of the two, by `way`.
use mathlib.Core.Path.{sym, ap, ◌∙◌}
use Rattle.range_many.specs.declared.Way.{Way}
use Rattle.range_list.specs.Ranges.{read}
use Rattle.range_many.specs.Many.{idle}
use Rattle.range_many.proofs.idle_one.Goals as goal

pub outside-requires : goal.outside-requires
outside-requires c = (c.requires.0, c.requires.1, c.requires.2)

pub returns-in-TakeOut : goal.returns-in-TakeOut
returns-in-TakeOut c =
    let a = c.args in
    c.outside.ensures ∙ ap (λ (t : Way). idle t a.s a.e (read a.list.now 0 a.count)) (sym c.in-TakeOut.is)

pub inside-requires : goal.inside-requires
inside-requires c = (c.requires.0, c.requires.2)

pub returns-in-PutIn : goal.returns-in-PutIn
returns-in-PutIn c =
    let a = c.args in
    c.inside.ensures ∙ ap (λ (t : Way). idle t a.s a.e (read a.list.now 0 a.count)) (sym c.in-PutIn.is)
