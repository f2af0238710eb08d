-- `pop_min` meets its contract: the splice of the first range is what is left.
use Rattle.range_set.proofs.Laws.{pop_bad, pop_none, pop_first_law}
use mathlib.Core.Path.{sym, ◌∙◌}
use native.Mathlib.Omega.{arith}
use Rattle.range_list.proofs.Sound.{Formed, formed}
use Rattle.range_set.proofs.pop_min.Goals as goal
use Rattle.range_set.proofs.pop_min.Goals.{Else-not-well_formed}

formed-at : (c : Else-not-well_formed) → Formed c.args.list.now c.args.count
formed-at c = formed _ _ (sym c.well_formed-2.ensures ∙ c.if-not-well_formed.false)

pub returns-then-not-well_formed : goal.returns-then-not-well_formed
returns-then-not-well_formed c = pop_bad _ _ (sym c.well_formed-2.ensures ∙ c.if-not-well_formed.true)

pub returns-then-count-eq0 : goal.returns-then-count-eq0
returns-then-count-eq0 c = pop_none _ _ (formed-at (goal.at.returns-then-count-eq0 c).Else-not-well_formed).formed c.if-count-eq0.true

pub bounds-list-0 : goal.bounds-list-0
bounds-list-0 c = let w = formed-at (goal.at.bounds-list-0 c).Else-not-well_formed in omega arith

pub bounds-list-1 : goal.bounds-list-1
bounds-list-1 c = let w = formed-at (goal.at.bounds-list-1 c).Else-not-well_formed in omega arith

pub splice_none-requires : goal.splice_none-requires
splice_none-requires c = let w = formed-at (goal.at.splice_none-requires c).Else-not-well_formed in (omega arith, omega arith, w.room)

pub returns : goal.returns
returns c = pop_first_law _ _ (formed-at (goal.at.returns c).Else-not-well_formed).formed (omega arith) _ c.splice_none.ensures
