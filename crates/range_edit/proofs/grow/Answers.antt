-- `grow` meets its contract: what the rest grows from here is what the whole grows from the start.
use Rattle.range_edit.proofs.Laws.{grown_stop, grown_on, grown_end}
use mathlib.Core.Path.{refl, sym, ◌∙◌}
use native.Mathlib.Omega.{arith}
use Rattle.range_edit.proofs.grow.Goals as goal

pub loop-i-init : goal.loop-i-init
loop-i-init c = refl

pub returns-then-b-x : goal.returns-then-b-x
returns-then-b-x c = sym (grown_stop c.args.list.now c.loop-i.a c.loop-i.b c.loop-i.i c.args.count (omega arith) c.if-b-x.true) ∙ c.loop-i.invariant

pub loop-i-preserved : goal.loop-i-preserved
loop-i-preserved c = rw (c.min-a.ensures, c.max-b.ensures) (grown_on _ _ _ _ _ (omega arith) c.if-b-x.false ∙ c.loop-i.invariant)

pub returns : goal.returns
returns c = sym (grown_end c.args.list.now c.loop-i.a c.loop-i.b c.loop-i.i c.args.count (omega arith)) ∙ c.loop-i.invariant
