-- One turn, by the laws of the search.
use Rattle.cid_queue.proofs.Laws.{nth_more, nth_bound}
use Rattle.cid_queue.proofs.nth.Goals as goal

pub loop-preserved : goal.loop-preserved
loop-preserved c =
    let q = c.args.ring in
    let i = c.loop.counter in
    let n = c.loop.n in
    let m = c.first-n.result in
    (nth_bound q i n m c.loop.invariant.0 c.first-n.ensures, nth_more q i n m c.loop.invariant.1 c.first-n.ensures)
