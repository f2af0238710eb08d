-- A place in use and above len is passed on, another is not.
use Rattle.std.proofs.Common.{refl, ◌∙◌}
use Rattle.black_hole.proofs.Laws.{retain_start, retain_on, retain_off}
use Rattle.black_hole.proofs.Bursts.retain.Goals as goal
use Rattle.black_hole.proofs.Bursts.retain.Goals.{then-i-self, else-i-self}

pub loop-i-init : goal.loop-i-init
loop-i-init c = retain_start _ _ refl

pub loop-i-preserved : goal.loop-i-preserved
loop-i-preserved c =
    elim c.if-i-self.branch [
      | then-i-self w ↦ w.left-is ∙ retain_on _ _ c.loop-i.i w.if-i-self.true c.loop-i.invariant w.push-left.ensures
      | else-i-self w ↦ w.left-is ∙ retain_off _ _ c.loop-i.i w.if-i-self.false c.loop-i.invariant
    ]
