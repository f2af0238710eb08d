-- `big_endian::put` meets its contract. What is left to write and what is written make up the whole: one byte a turn, the last first.
use Prim.Native.Nat.{ℕ}
use mathlib.Core.Path.{◌≡◌, ap, sym, ◌∙◌}
use mathlib.Core.List.{◌++◌}
use lib.ListN.{drop}
use native.Mathlib.Omega.{arith}
use Rattle.big_endian.specs.Bytes.{bytes}
use Rattle.big_endian.proofs.Laws.{bytes_step, puts_none, puts_all}
use Rattle.big_endian.proofs.put.Goals as goal

pub returns-then-out-n : goal.returns-then-out-n
returns-then-out-n c = puts_none _ _ _ c.if-out-n.true

pub loop-i-preserved : goal.loop-i-preserved
loop-i-preserved c =
    let l = c.loop-i in
    bytes_step l.i l.rest l.out c.loop-i-test.true (omega arith) ∙ l.invariant

pub returns : goal.returns
returns c =
    let l = c.loop-i in
    let e : l.i ≡ 0 = omega arith in
    puts_all c.args.n c.args.x c.args.out.now c.if-out-n.false (sym (ap (λ (k : ℕ). bytes k l.rest ++ drop k l.out) e) ∙ l.invariant)
