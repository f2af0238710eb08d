-- `passed` meets its contract: the ranges passed and those that the rest would pass are those of the whole list.
use Rattle.range_list.proofs.Sound.{formed}
use Rattle.range_edit.proofs.Laws.{below_stop, below_on, below_end, sub_zero_below}
use borrow.Author.Rules.{rules}
use native.Mathlib.Omega.{arith}
use Rattle.range_edit.proofs.passed.Goals as goal

pub loop-i-init : goal.loop-i-init
loop-i-init c =
    let a = c.args in
    ((formed a.list.now a.count c.requires).room, sub_zero_below a.list.now a.count a.s)

pub returns-then-s-list : goal.returns-then-s-list
returns-then-s-list c = below_stop _ _ _ _ _ c.loop-i.invariant.1 (omega arith) c.if-s-list.true

pub loop-i-preserved : goal.loop-i-preserved
loop-i-preserved c = (search rules, below_on _ _ _ _ _ c.loop-i.invariant.1 (omega arith) c.if-s-list.false)

pub returns : goal.returns
returns c = below_end _ _ _ _ _ c.loop-i.invariant.1 (omega arith)
