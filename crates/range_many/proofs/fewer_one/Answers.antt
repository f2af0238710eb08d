-- `fewer_one` meets its contract: it is one of the two, by `way`.
use mathlib.Core.Path.{sym, ap, ◌∙◌}
use Rattle.range_many.specs.declared.Way.{Way}
use Rattle.range_list.specs.Ranges.{read}
use Rattle.range_many.specs.Many.{fewer}
use Rattle.range_many.proofs.fewer_one.Goals as goal

pub fewer_without-requires : goal.fewer_without-requires
fewer_without-requires c = (c.requires.0, c.requires.1, c.requires.2)

pub returns-in-TakeOut : goal.returns-in-TakeOut
returns-in-TakeOut c =
    let a = c.args in
    c.fewer_without.ensures ∙ ap (λ (t : Way). fewer t a.s a.e (read a.list.now 0 a.count)) (sym c.in-TakeOut.is)

pub fewer_with-requires : goal.fewer_with-requires
fewer_with-requires c = (c.requires.0, c.requires.1, c.requires.2)

pub returns-in-PutIn : goal.returns-in-PutIn
returns-in-PutIn c =
    let a = c.args in
    c.fewer_with.ensures ∙ ap (λ (t : Way). fewer t a.s a.e (read a.list.now 0 a.count)) (sym c.in-PutIn.is)
