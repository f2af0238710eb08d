-- `usable` meets its contract: its tests are those of `valid`, in their order.
use native.Mathlib.Omega.{arith}
use Rattle.range_set.proofs.Laws.{valid_start, valid_end, valid_rest}
use mathlib.Core.Path.{◌∙◌}
use Rattle.range_set.proofs.usable.Goals as goal

pub returns-then-start-gt-LIMIT : goal.returns-then-start-gt-LIMIT
returns-then-start-gt-LIMIT c = grind (arith, valid_start, valid_end)

pub returns : goal.returns
returns c = c.well_formed-2.ensures ∙ valid_rest _ _ _ _ (omega arith) (omega arith)
