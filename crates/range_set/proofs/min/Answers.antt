-- `min` meets its contract: the least number is the first start.
use Rattle.range_set.proofs.Laws.{bound_bad, least_none, least_is}
use mathlib.Core.Path.{sym, ◌∙◌}
use native.Mathlib.Omega.{arith}
use Rattle.range_list.proofs.Sound.{Formed, formed}
use Rattle.range_set.proofs.min.Goals as goal
use Rattle.range_set.proofs.min.Goals.{Else-not-well_formed}

formed-at : (c : Else-not-well_formed) → Formed c.args.list.now c.args.count
formed-at c = formed _ _ (sym c.well_formed-2.ensures ∙ c.if-not-well_formed.false)

pub returns-then-not-well_formed : goal.returns-then-not-well_formed
returns-then-not-well_formed c = bound_bad _ _ _ (sym c.well_formed-2.ensures ∙ c.if-not-well_formed.true)

pub returns-then-count-eq0 : goal.returns-then-count-eq0
returns-then-count-eq0 c = least_none _ _ (formed-at (goal.at.returns-then-count-eq0 c).Else-not-well_formed).formed c.if-count-eq0.true

pub bounds-list-0 : goal.bounds-list-0
bounds-list-0 c = let w = formed-at (goal.at.bounds-list-0 c).Else-not-well_formed in omega arith

pub returns : goal.returns
returns c = least_is _ _ (formed-at (goal.at.returns c).Else-not-well_formed).formed (omega arith)
