-- `contains` meets its contract: only the first range that does not end before x can have it.
use Rattle.range_set.proofs.Laws.{held_far, held_bad, held_is}
use mathlib.Core.Path.{sym, ◌∙◌}
use Rattle.range_list.proofs.Sound.{Formed, formed}
use Rattle.range_edit.proofs.Insert.{Passed, passed}
use Rattle.range_set.proofs.contains.Goals as goal
use Rattle.range_set.proofs.contains.Goals.{After-passed-at, Else-not-well_formed}

formed-at : (c : Else-not-well_formed) → Formed c.args.list.now c.args.count
formed-at c = formed _ _ (sym c.well_formed-2.ensures ∙ c.if-not-well_formed.false)

passed-at : (c : After-passed-at) → Passed c.args.list.now c.args.count c.args.x c.passed-at.result
passed-at c = passed _ _ _ _ c.passed-at.ensures

pub returns-then-x-ge-LIMIT : goal.returns-then-x-ge-LIMIT
returns-then-x-ge-LIMIT c = held_far _ _ _ c.if-x-ge-LIMIT.true

pub returns-then-not-well_formed : goal.returns-then-not-well_formed
returns-then-not-well_formed c = held_bad _ _ _ c.if-x-ge-LIMIT.false (sym c.well_formed-2.ensures ∙ c.if-not-well_formed.true)

pub passed-at-requires : goal.passed-at-requires
passed-at-requires c = (formed-at (goal.at.passed-at-requires c).Else-not-well_formed).formed

pub covered-requires : goal.covered-requires
covered-requires c = ((passed-at (goal.at.covered-requires c).After-passed-at).low, (formed-at (goal.at.covered-requires c).Else-not-well_formed).room)

pub returns : goal.returns
returns c =
    held_is _ _ _ c.if-x-ge-LIMIT.false (formed-at (goal.at.returns c).Else-not-well_formed) _ (passed-at (goal.at.returns c).After-passed-at) _ c.covered.ensures
