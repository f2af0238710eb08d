-- `takes` meets its contract: its tests are those of `cappable`, in their order.
use Rattle.range_set.proofs.AtLimit.{takes_far, takes_none, takes_more, takes_rest}
use mathlib.Core.Path.{◌∙◌}
use native.Mathlib.Omega.{arith}
use Rattle.range_set.proofs.takes.Goals as goal

pub returns-then-x-ge-LIMIT : goal.returns-then-x-ge-LIMIT
returns-then-x-ge-LIMIT c = grind (arith, takes_far, takes_none, takes_more)

pub returns : goal.returns
returns c = c.well_formed-2.ensures ∙ takes_rest _ _ _ _ (omega arith) (omega arith) (omega arith)
