-- `insert` meets its contract: once its arguments are tested, the rest is `put`.
use Rattle.range_set.proofs.Laws.{Valid, is_valid, range_bad, range_empty, range_some}
use mathlib.Core.Path.{sym, ◌∙◌}
use Rattle.range_set.proofs.insert.Goals as goal
use Rattle.range_set.proofs.insert.Goals.{Else-not-usable}

valid-at : (c : Else-not-usable)
    → Valid c.args.list.now c.args.count c.args.start c.args.end
valid-at c = is_valid _ _ _ _ (sym c.usable.ensures ∙ c.if-not-usable.false)

pub returns-then-not-usable : goal.returns-then-not-usable
returns-then-not-usable c = range_bad _ _ _ _ _ (sym c.usable.ensures ∙ c.if-not-usable.true)

pub returns-then-end-start : goal.returns-then-end-start
returns-then-end-start c = range_empty _ _ _ _ _ (valid-at (goal.at.returns-then-end-start c).Else-not-usable).valid c.if-end-start.true

pub put-requires : goal.put-requires
put-requires c = let v = valid-at (goal.at.put-requires c).Else-not-usable in (c.if-end-start.false, v.far, v.formed)

pub returns : goal.returns
returns c = c.put.ensures ∙ range_some _ _ _ _ _ (valid-at (goal.at.returns c).Else-not-usable).valid c.if-end-start.false
