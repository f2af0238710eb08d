-- `clip` meets its contract: after k turns the parts of k ranges are written over what was there.
use Rattle.range_edit.proofs.Laws.{clip_turn}
use mathlib.Core.Path.{◌≡◌, refl, ◌∙◌}
use lib.ListN.{length-set}
use native.Mathlib.Omega.{arith}
use Rattle.range_edit.proofs.clip.Goals as goal

pub loop-k-init : goal.loop-k-init
loop-k-init c = (refl, refl)

pub bounds-out-k-in-loop-k : goal.bounds-out-k-in-loop-k
bounds-out-k-in-loop-k c = simp length-set (omega arith)

pub loop-k-preserved : goal.loop-k-preserved
loop-k-preserved c =
    (simp length-set c.loop-k.invariant.0, clip_turn _ _ _ _ _ _ _ _ _ (omega arith) c.loop-k.invariant.1 c.max.ensures c.min.ensures)

pub returns : goal.returns
returns c =
    let e : c.loop-k.k ≡ c.args.n = omega arith in
    c.loop-k.invariant.1 ∙ rw e
