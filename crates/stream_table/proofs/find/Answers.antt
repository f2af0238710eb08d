-- The invariant: what is found in the records that are left is what is found in all.
use mathlib.Core.Path.{sym, ◌∙◌}
use Rattle.stream_table.proofs.Tables.{find_start, find_here, find_on, find_end}
use Rattle.stream_table.proofs.find.Goals as goal

pub loop-i-init : goal.loop-i-init
loop-i-init c = find_start _ _ _

pub returns-then-table-i : goal.returns-then-table-i
returns-then-table-i c = sym (find_here _ _ _ _ c.loop-i-test.true c.if-table-i.true) ∙ c.loop-i.invariant

pub loop-i-preserved : goal.loop-i-preserved
loop-i-preserved c = sym (find_on _ _ _ _ c.loop-i-test.true c.if-table-i.false) ∙ c.loop-i.invariant

pub returns : goal.returns
returns c = sym (find_end _ _ _ _ c.loop-i-test.false) ∙ c.loop-i.invariant
