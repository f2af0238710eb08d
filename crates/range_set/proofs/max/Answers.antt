-- `max` meets its contract: the greatest number is the one below the last end.
use Rattle.range_set.proofs.Laws.{bound_bad, greatest_none, greatest_is, last_some}
use mathlib.Core.Path.{sym, ◌∙◌}
use native.Mathlib.Omega.{arith}
use Rattle.range_list.proofs.Sound.{Formed, formed}
use Rattle.range_set.proofs.max.Goals as goal
use Rattle.range_set.proofs.max.Goals.{Else-not-well_formed}

formed-at : (c : Else-not-well_formed) → Formed c.args.list.now c.args.count
formed-at c = formed _ _ (sym c.well_formed-2.ensures ∙ c.if-not-well_formed.false)

pub returns-then-not-well_formed : goal.returns-then-not-well_formed
returns-then-not-well_formed c = bound_bad _ _ _ (sym c.well_formed-2.ensures ∙ c.if-not-well_formed.true)

pub returns-then-count-eq0 : goal.returns-then-count-eq0
returns-then-count-eq0 c = greatest_none _ _ (formed-at (goal.at.returns-then-count-eq0 c).Else-not-well_formed).formed c.if-count-eq0.true

pub overflow_mul-result : goal.overflow_mul-result
overflow_mul-result c = let w = formed-at (goal.at.overflow_mul-result c).Else-not-well_formed in omega arith

pub offset_bounds-list-count : goal.offset_bounds-list-count
offset_bounds-list-count c = let w = formed-at (goal.at.offset_bounds-list-count c).Else-not-well_formed in omega arith

pub bounds-list-count : goal.bounds-list-count
bounds-list-count c = let w = formed-at (goal.at.bounds-list-count c).Else-not-well_formed in omega arith

pub overflow_sub-result-2 : goal.overflow_sub-result-2
overflow_sub-result-2 c = last_some _ _ (omega arith) (formed-at (goal.at.overflow_sub-result-2 c).Else-not-well_formed)

pub returns : goal.returns
returns c = greatest_is _ _ (formed-at (goal.at.returns c).Else-not-well_formed).formed (omega arith)
