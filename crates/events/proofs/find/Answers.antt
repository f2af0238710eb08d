-- `events::find` meets its contract. What is left of the grammar gives the same as the whole. Assumes nothing.
use mathlib.Core.Path.{refl, ◌∙◌}
use native.Mathlib.Omega.{arith}
use Rattle.events.specs.Events.{find_in}
use Rattle.events.proofs.Laws.{find_here, find_on, find_end}
use Rattle.events.proofs.find.Goals as goal

pub loop-index-init : goal.loop-index-init
unfolding find_in
loop-index-init c = refl

pub returns-then-same-clause-value : goal.returns-then-same-clause-value
returns-then-same-clause-value c =
    find_here _ _ _ _ (omega arith) c.word_at-w.ensures.value c.word_at-shape.ensures.value c.same.ensures c.if-same.true ∙ c.loop-index.invariant

pub loop-index-preserved : goal.loop-index-preserved
loop-index-preserved c =
    find_on _ _ _ _ (omega arith) c.word_at-w.ensures.value c.word_at-shape.ensures.value c.same.ensures c.if-same.false ∙ c.loop-index.invariant

pub returns-clause-value : goal.returns-clause-value
returns-clause-value c = find_end _ _ c.loop-index.at _ (omega arith) ∙ c.loop-index.invariant
