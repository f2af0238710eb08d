-- `words::take_rest` meets its contract. What is left to read gives the same as the whole. Assumes nothing.
use mathlib.Core.Path.{sym, ◌∙◌}
use Rattle.words.proofs.Laws.{pairs_end, pairs_on, pairs_done}
use native.Mathlib.Omega.{arith}
use Rattle.words.proofs.take_rest.Goals as goal

pub returns-then-is_end : goal.returns-then-is_end
returns-then-is_end c = sym (pairs_end _ _ _ _ c.is_end.ensures c.if-is_end.true) ∙ c.loop-turn.invariant

pub loop-turn-preserved : goal.loop-turn-preserved
loop-turn-preserved c = pairs_on _ _ _ _ _ (omega arith) c.is_end.ensures c.if-is_end.false c.take_number-c.ensures ∙ c.loop-turn.invariant

pub returns : goal.returns
returns c = sym (pairs_done _ _ _ _ (omega arith)) ∙ c.loop-turn.invariant
