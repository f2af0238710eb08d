-- `join_one` meets its contract: its one test is the definition's.
use mathlib.Core.Path.{sym, ◌∙◌}
use lib.ListN.{length-set}
use native.Mathlib.Omega.{arith}
use Rattle.range_many.proofs.join_one.Goals as goal

pub inside-requires : goal.inside-requires
inside-requires c = let p = c.requires in (p.2, p.3)

pub returns-then-inside : goal.returns-then-inside
returns-then-inside c = let e = sym c.if-inside.true ∙ c.inside.ensures in rw (sym e)

pub bounds-list-k-2 : goal.bounds-list-k-2
bounds-list-k-2 c = simp length-set (omega arith)

pub returns : goal.returns
returns c = let e = sym c.if-inside.false ∙ c.inside.ensures in rw (sym e)
