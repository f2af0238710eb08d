-- The invariant: moving down those left, from here on, gives the words that moving down all gives.
use Rattle.stream_table.proofs.Shape.{remove_start, remove_turn, remove_done, length_after}
use native.Mathlib.Omega.{arith}
use mathlib.Core.Path.{refl, ◌∙◌}
use Rattle.stream_table.proofs.shift_down.Goals as goal

pub loop-i-init : goal.loop-i-init
loop-i-init c = (omega arith, refl, remove_start _ _ _)

pub loop-i-preserved : goal.loop-i-preserved
loop-i-preserved c =
    (omega arith, length_after c.loop-i.table c.loop-i.i c.load-t.result c.store.ensures ∙ c.loop-i.invariant.1, remove_turn c.loop-i.table _ c.loop-i.i c.loop-i.invariant.2 (omega arith) c.load-t.ensures c.store.ensures)

pub returns : goal.returns
returns c = remove_done c.loop-i.table _ c.loop-i.i c.loop-i.invariant.2 (omega arith)
