-- `print::spread` meets its contract. What is stored and what is left to store are together all the digits. Assumes nothing.
use mathlib.Core.Path.{sym, ◌∙◌}
use native.Mathlib.Omega.{arith}
use Rattle.print.proofs.Laws.{spread_on, spread_end}
use Rattle.print.proofs.spread.Goals as goal

pub loop-i-preserved : goal.loop-i-preserved
loop-i-preserved c =
    let a = c.args in
    rw (c.digit.ensures, c.digit-in-loop-i.ensures) (spread_on c.loop-i.out a.s.now a.at c.loop-i.i c.loop-i-test.true ∙ c.loop-i.invariant)

pub returns : goal.returns
returns c =
    let a = c.args in
    sym (spread_end c.loop-i.out a.s.now a.at c.loop-i.i (omega arith)) ∙ c.loop-i.invariant
