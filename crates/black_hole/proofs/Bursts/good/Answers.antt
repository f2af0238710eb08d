-- One place more.
use Rattle.std.proofs.Common.{arith}
use Rattle.black_hole.proofs.Laws.{good_start, good_next, good_all}
use Rattle.black_hole.proofs.Bursts.good.Goals as goal

pub loop-i-init : goal.loop-i-init
loop-i-init c = good_start _ _

pub loop-i-preserved : goal.loop-i-preserved
loop-i-preserved c = good_next _ _ c.loop-i.i c.loop-i.invariant c.good_place-fine.ensures

pub returns : goal.returns
returns c = good_all _ _ c.loop-i.i (omega arith) c.loop-i.invariant
