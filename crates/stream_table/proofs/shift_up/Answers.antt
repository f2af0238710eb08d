-- The invariant: putting the record in hand among those left, from here on, gives the words that putting the new one among all gives.
use Rattle.stream_table.proofs.Shape.{insert_start, insert_turn, insert_done, length_after}
use mathlib.Core.Path.{refl, ◌∙◌}
use Rattle.stream_table.proofs.shift_up.Goals as goal

pub loop-i-init : goal.loop-i-init
loop-i-init c = (refl, insert_start _ _ _)

pub loop-i-preserved : goal.loop-i-preserved
loop-i-preserved c =
    (length_after c.loop-i.table c.loop-i.i c.lower.result c.store.ensures ∙ c.loop-i.invariant.0, insert_turn c.loop-i.table _ c.loop-i.i c.loop-i.hand c.loop-i.invariant.1 c.loop-i-test.true c.load-t.ensures c.lower.ensures c.store.ensures c.upper-hand.ensures)

pub returns : goal.returns
returns c = insert_done c.loop-i.table _ c.loop-i.i c.loop-i.hand c.loop-i.invariant.1 c.loop-i-test.false c.loop-i.auto.i-end c.store-2.ensures
