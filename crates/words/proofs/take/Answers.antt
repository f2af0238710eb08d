-- `words::take` meets its contract. What is left of the shape gives the same as the whole. Assumes nothing.
use mathlib.Core.Path.{refl, ◌∙◌}
use Rattle.words.specs.Words.{words_taken}
use Rattle.words.proofs.Laws.{words_on, words_end}
use borrow.Author.Rules.{rules}
use Rattle.words.proofs.take.Goals as goal

pub loop-kind-init : goal.loop-kind-init
unfolding words_taken
loop-kind-init c = refl

pub loop-kind-preserved : goal.loop-kind-preserved
loop-kind-preserved c = words_on _ c.args.shape.now c.loop-kind.kind-index _ _ _ (search rules) c.one-c.ensures ∙ c.loop-kind.invariant

pub returns : goal.returns
returns c = words_end _ c.args.shape.now c.loop-kind.kind-index _ (search rules) ∙ c.loop-kind.invariant
