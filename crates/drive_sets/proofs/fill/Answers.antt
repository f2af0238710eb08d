-- `fill` meets its contract. What is left of the ranges, put into what is there, makes what all of them make of the empty set; each turn takes one.
-- Assumes nothing.
use borrow.Author.Rules.{rules}
use native.Mathlib.Omega.{arith}
use Rattle.std.proofs.lemmas.Result.{err_from_is_err_and}
use Rattle.drive_sets.proofs.Laws.{fill_start, fill_end, fill_short, fill_refused, fill_next}
use Rattle.drive_sets.proofs.fill.Goals as goal

pub loop-i-init : goal.loop-i-init
loop-i-init c = search (rules, fill_start)

pub returns-then-numbers-i : goal.returns-then-numbers-i
returns-then-numbers-i c = search (rules, fill_short)

pub returns-in_err-r : goal.returns-in_err-r
returns-in_err-r c =
    let p = err_from_is_err_and c.from_residual.result c.from_residual.ensures.1 in
    let a = c.args in
    rw (p.1, p.2)
    (fill_refused a.numbers.now a.n c.loop-i.i c.loop-i.list c.loop-i.count c.loop-i.invariant.1 (omega arith) c.if-numbers-i.false c.in_err-r.ensures)

pub loop-i-preserved : goal.loop-i-preserved
loop-i-preserved c =
    let a = c.args in (
      search rules,
      fill_next a.numbers.now a.n c.loop-i.i c.loop-i.list c.loop-i.count c.loop-i.invariant.1 (omega arith) c.if-numbers-i.false c.in_ok-r.ensures,
    )

pub returns : goal.returns
returns c = search (rules, fill_end)
