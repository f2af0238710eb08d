-- `big_endian::get` meets its contract. The number so far is that of the bytes passed.
use native.Mathlib.Omega.{arith}
use lib.ListN.{length-take}
use Rattle.big_endian.proofs.Laws.{gets_short, gets_long, gets_all}
use Rattle.big_endian.proofs.get.Goals as goal
use Rattle.big_endian.proofs.get.Goals.{then-s-n-via-then-s-n, then-s-n-via-else-s-n+then-n-gt8}

pub returns-then-s-n : goal.returns-then-s-n
returns-then-s-n c =
    elim c.then-s-n.branch [ then-s-n-via-then-s-n w ↦ gets_short _ _ w.if-s-n.true | then-s-n-via-else-s-n+then-n-gt8 w ↦ gets_long _ _ w.if-n-gt8.true ]

pub returns : goal.returns
returns c =
    let d = length-take c.args.n c.args.s.now in
    gets_all c.args.n c.args.s.now c.if-s-n.false c.if-n-gt8.false c.loop-byte.invariant (omega arith)
