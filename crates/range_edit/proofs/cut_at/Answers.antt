-- `cut_at` meets its contract: the cut of the rest from here is that of the whole.
use Rattle.range_edit.proofs.Laws.{cut_stop, cut_on, cut_end}
use mathlib.Core.Path.{refl, sym, ◌∙◌}
use native.Mathlib.Omega.{arith}
use Rattle.range_edit.proofs.cut_at.Goals as goal

pub loop-i-init : goal.loop-i-init
loop-i-init c = refl

pub returns-then-e-list : goal.returns-then-e-list
returns-then-e-list c = sym (cut_stop c.args.list.now c.args.e c.loop-i.b c.loop-i.i c.args.count (omega arith) c.if-e-list.true) ∙ c.loop-i.invariant

pub loop-i-preserved : goal.loop-i-preserved
loop-i-preserved c = cut_on _ _ _ _ _ (omega arith) c.if-e-list.false ∙ c.loop-i.invariant

pub returns : goal.returns
returns c = sym (cut_end c.args.list.now c.args.e c.loop-i.b c.loop-i.i c.args.count (omega arith)) ∙ c.loop-i.invariant
