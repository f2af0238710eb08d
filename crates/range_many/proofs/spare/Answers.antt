-- `spare` meets its contract: what is written and what is left to test make the whole.
use Rattle.range_many.proofs.Laws.{spare_start, spare_lo, spare_hi, spare_turn, spare_end, range_at_law}
use Rattle.range_list.specs.Ranges.{read}
use native.Mathlib.Omega.{arith}
use Rattle.range_list.proofs.Sound.{Formed, formed}
use Rattle.range_many.proofs.spare.Goals as goal
use Rattle.range_many.proofs.spare.Goals.{Start}

formed-at : (c : Start) → Formed c.args.list.now c.args.count
formed-at c = formed c.args.list.now c.args.count c.requires.0

pub loop-i-init : goal.loop-i-init
loop-i-init c = let a = c.args in spare_start a.list.now a.count (read a.other.now 0 a.n)

pub spare_one-k-requires : goal.spare_one-k-requires
spare_one-k-requires c =
    let p = c.loop-i.invariant in
    let w = formed-at (goal.at.spare_one-k-requires c).Start in
    let q = range_at_law _ _ w c.loop-i.i (omega arith) in
    (p.low, omega arith, omega (arith, q.some, spare_lo _ _ _ _ _ _ p, spare_hi _ _ _ _ _ _ p), c.requires.1)

pub loop-i-preserved : goal.loop-i-preserved
loop-i-preserved c =
    spare_turn _ _ _ _ _ _ c.loop-i.invariant (omega arith) (formed-at (goal.at.loop-i-preserved c).Start).room _ _ c.spare_one-k.ensures.0 c.spare_one-k.ensures.1

pub shape_of-list : goal.shape_of-list
shape_of-list c = c.loop-i.invariant.len

pub returns : goal.returns
returns c = spare_end _ _ _ _ _ _ c.loop-i.invariant (omega arith)
