-- `len` meets its contract: the count of a list in good form is its own.
use Rattle.range_set.proofs.Laws.{size_bad, size_is}
use mathlib.Core.Path.{sym, ◌∙◌}
use Rattle.range_set.proofs.len.Goals as goal

pub returns-then-not-well_formed : goal.returns-then-not-well_formed
returns-then-not-well_formed c = size_bad _ _ (sym c.well_formed-2.ensures ∙ c.if-not-well_formed.true)

pub returns : goal.returns
returns c = size_is _ _ (sym c.well_formed-2.ensures ∙ c.if-not-well_formed.false)
