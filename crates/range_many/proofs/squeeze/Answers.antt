-- `squeeze` meets its contract: it is one of the two, by `way`.
use mathlib.Core.Path.{sym, ap, ◌∙◌}
use Rattle.range_many.specs.declared.Way.{Way}
use lib.ListN.{length}
use Rattle.range_list.specs.Ranges.{read}
use Rattle.range_many.specs.Many.{squeezed}
use Rattle.range_list.specs.Ranges.{flat, over}
use Rattle.range_many.proofs.squeeze.Goals as goal

pub returns-in-TakeOut : goal.returns-in-TakeOut
returns-in-TakeOut c =
    let a = c.args in (
      c.spare.ensures.0 ∙ ap (λ (b : Way). length (squeezed b (read a.other.now 0 a.n) (read a.list.now 0 a.count))) (sym c.in-TakeOut.is),
      c.spare.ensures.1 ∙ ap (λ (b : Way). over (flat (squeezed b (read a.other.now 0 a.n) (read a.list.now 0 a.count))) a.list.now) (sym c.in-TakeOut.is),
    )

pub returns-in-PutIn : goal.returns-in-PutIn
returns-in-PutIn c =
    let a = c.args in (
      c.join.ensures.0 ∙ ap (λ (b : Way). length (squeezed b (read a.other.now 0 a.n) (read a.list.now 0 a.count))) (sym c.in-PutIn.is),
      c.join.ensures.1 ∙ ap (λ (b : Way). over (flat (squeezed b (read a.other.now 0 a.n) (read a.list.now 0 a.count))) a.list.now) (sym c.in-PutIn.is),
    )
