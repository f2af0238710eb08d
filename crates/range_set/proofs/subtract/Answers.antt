-- `subtract` meets its contract: once both lists are tested, the second is taken out by `merge`.
use mathlib.Core.Path.{◌≡◌, sym, ◌∙◌}
use mathlib.Core.Bool.{true}
use Rattle.range_list.specs.Ranges.{well_formed}
use Rattle.range_set.proofs.Laws.{sets_bad, sets_other, sets_good}
use Rattle.range_set.proofs.subtract.Goals as goal
use Rattle.range_set.proofs.subtract.Goals.{Else-not-well_formed, Else-not-well_formed-2}

one_at : (c : Else-not-well_formed) → well_formed c.args.list.now c.args.count ≡ true
one_at c = sym c.well_formed-2.ensures ∙ c.if-not-well_formed.false

two_at : (c : Else-not-well_formed-2) → well_formed c.args.other.now c.args.n ≡ true
two_at c = sym c.well_formed-3.ensures ∙ c.if-not-well_formed-2.false

pub returns-then-not-well_formed : goal.returns-then-not-well_formed
returns-then-not-well_formed c =
    let a = c.args in
    sets_bad a.list.now a.count a.other.now a.n _ (sym c.well_formed-2.ensures ∙ c.if-not-well_formed.true)

pub returns-then-not-well_formed-2 : goal.returns-then-not-well_formed-2
returns-then-not-well_formed-2 c =
    let a = c.args in
    sets_other a.list.now a.count a.other.now a.n _ (one_at (goal.at.returns-then-not-well_formed-2 c).Else-not-well_formed) (sym c.well_formed-3.ensures ∙ c.if-not-well_formed-2.true)

pub merge-requires : goal.merge-requires
merge-requires c = (one_at (goal.at.merge-requires c).Else-not-well_formed, two_at (goal.at.merge-requires c).Else-not-well_formed-2)

pub returns : goal.returns
returns c =
    let a = c.args in
    c.merge.ensures ∙ sets_good a.list.now a.count a.other.now a.n _ (one_at (goal.at.returns c).Else-not-well_formed) (two_at (goal.at.returns c).Else-not-well_formed-2)
