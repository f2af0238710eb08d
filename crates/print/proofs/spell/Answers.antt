-- `print::spell` meets its contract. The digits that are left go before those that stand at the end already, and 10^i is above what is left, so that there is room. Assumes nothing.
use mathlib.Core.Path.{◌∙◌}
use native.Mathlib.Omega.{arith}
use lib.ListN.{length-set}
use Rattle.print.proofs.Laws.{spell_start, spell_on, spell_end}
use borrow.Author.Rules.{rules}
use Rattle.print.proofs.spell.Goals as goal

pub loop-rest-init : goal.loop-rest-init
loop-rest-init c =
    let a = c.args in
    (omega arith, omega arith, search rules, search rules, spell_start a.n a.d.now (search rules))

pub loop-rest-preserved : goal.loop-rest-preserved
loop-rest-preserved c =
    let q = spell_on c.loop-rest.i c.loop-rest.rest c.loop-rest.d (search rules) (omega arith) (search rules) (search rules) in
    (q.some, omega arith, q.below, simp length-set (search rules), rw c.digit.ensures (q.same ∙ c.loop-rest.invariant.4))

pub shape_of-d : goal.shape_of-d
shape_of-d c = simp length-set (search rules)

pub returns : goal.returns
returns c =
    (omega arith, rw c.digit-2.ensures (spell_end c.loop-rest.i c.loop-rest.rest c.loop-rest.d (search rules) (omega arith) (search rules) ∙ c.loop-rest.invariant.4))
