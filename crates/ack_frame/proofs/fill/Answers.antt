-- What is left to store and what is stored make up the whole; the pairs left are legal, so no read of them fails.
use native.Mathlib.Omega.{arith}
use mathlib.Core.Path.{◌≡◌, sym, ◌∙◌}
use Rattle.ack_frame.specs.Read.{below}
use Rattle.ack_frame.proofs.Laws.{legal_on, legal_stop, fill_on}
use Rattle.ack_frame.proofs.fill.Goals as goal

pub unreachable-requires : goal.unreachable-requires
unreachable-requires c = legal_stop _ _ _ _ c.loop-n-test.true (sym c.in_default.ensures.value) c.loop-n.invariant.good

pub loop-n-preserved : goal.loop-n-preserved
loop-n-preserved c =
    let l = c.loop-n in
    record {
      low_in = omega (arith, c.in-Ok.ensures.sound);
      good = legal_on _ _ _ _ c.loop-n-test.true (sym c.in-Ok.ensures.value) l.invariant.good;
      filled = fill_on _ _ _ _ _ c.loop-n-test.true (sym c.in-Ok.ensures.value) (omega arith) ∙ l.invariant.filled;
    }

pub returns : goal.returns
unfolding below
returns c =
    let l = c.loop-n in
    let e : l.n ≡ 0 = omega arith in
    rw e at l.invariant.filled
