-- The place so far, or the new one where it is smaller.
use Rattle.std.proofs.Common.{◌∙◌, arith}
use Rattle.black_hole.proofs.Laws.{least_start, least_less, least_same}
use Rattle.black_hole.proofs.least_at.Goals as goal
use Rattle.black_hole.proofs.least_at.Goals.{then-size-sizes, else-size-sizes}

pub loop-i-init : goal.loop-i-init
loop-i-init c = (least_start _, omega arith)

pub loop-i-preserved : goal.loop-i-preserved
loop-i-preserved c =
    elim c.if-size-sizes.branch [
      | then-size-sizes w ↦ (w.at-is ∙ least_less _ c.loop-i.i w.if-size-sizes.true c.loop-i.invariant.0, omega (arith, w.at-is))
      | else-size-sizes w ↦ (w.at-is ∙ least_same _ c.loop-i.i w.if-size-sizes.false c.loop-i.invariant.0, omega (arith, w.at-is))
    ]
