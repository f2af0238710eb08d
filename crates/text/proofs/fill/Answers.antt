-- `text::fill` meets its contract. What is stored and what is left to store are together all the bytes. Assumes nothing.
use mathlib.Core.Path.{◌≡◌, sym, ◌∙◌}
use Prim.Native.Nat.{◌+◌, ◌*◌}
use native.Mathlib.Omega.{arith}
use Rattle.text.proofs.Laws.{pair_at, fill_on, fill_end}
use Rattle.text.proofs.fill.Goals as goal

pub nibble-requires : goal.nibble-requires
nibble-requires c = (pair_at c.args.s.now (2 * c.loop-i.i) (omega arith) c.loop-i.invariant.hex).high

pub nibble-requires-in-loop-i : goal.nibble-requires-in-loop-i
nibble-requires-in-loop-i c = (pair_at c.args.s.now (2 * c.loop-i.i) (omega arith) c.loop-i.invariant.hex).low

pub loop-i-preserved : goal.loop-i-preserved
loop-i-preserved c =
    let q = pair_at c.args.s.now (2 * c.loop-i.i) (omega arith) c.loop-i.invariant.hex in
    let m : 2 * (c.loop-i.i + 1) ≡ 2 * c.loop-i.i + 2 = omega arith in
    let a = c.nibble.ensures.value in
    let b = c.nibble-in-loop-i.ensures.value in
    record { hex = rw m q.rest; all = fill_on c.loop-i.out c.args.s.now _ c.loop-i.i _ _ (omega arith) a b ∙ c.loop-i.invariant.all }

pub returns : goal.returns
returns c = sym (fill_end c.loop-i.out c.args.s.now _ c.loop-i.i (omega arith)) ∙ c.loop-i.invariant.all
