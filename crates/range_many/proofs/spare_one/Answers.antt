-- `spare_one` meets its contract: its one test is the definition's.
use Rattle.range_many.proofs.Laws.{one_skip, one_keep}
use mathlib.Core.Path.{sym, ◌∙◌}
use lib.ListN.{length-set}
use native.Mathlib.Omega.{arith}
use Rattle.range_many.proofs.spare_one.Goals as goal

pub inside-requires : goal.inside-requires
inside-requires c = let p = c.requires in (p.2, p.3)

pub returns-then-inside : goal.returns-then-inside
returns-then-inside c = one_skip _ _ _ _ (sym c.if-inside.true ∙ c.inside.ensures)

pub bounds-list-k-2 : goal.bounds-list-k-2
bounds-list-k-2 c = simp length-set (omega arith)

pub returns : goal.returns
returns c = one_keep _ _ _ _ (sym c.if-inside.false ∙ c.inside.ensures)
