-- The invariant: checking the records that are left, with the running numbers as they stand, is checking all. The counts stay at or below the number of records passed.
use Rattle.stream_table.proofs.Tables.{check_start, turn_bad, turn_order, turn_over, turn_on, turn_end, good_id, one_most}
use native.Mathlib.Omega.{arith}
use mathlib.Core.Path.{sym, ◌∙◌, ap}
use mathlib.Core.Bool.{not}
use Rattle.stream_table.proofs.check.Goals as goal

pub loop-i-init : goal.loop-i-init
loop-i-init c = (omega arith, omega arith, check_start _ _ _ _ _ _ _)

pub returns-then-not-good : goal.returns-then-not-good
returns-then-not-good c = turn_bad _ _ _ _ _ _ _ _ c.loop-i.invariant.2 c.loop-i-test.true c.load-s.ensures c.good.ensures (ap not c.if-not-good.true)

pub returns-then-s-low : goal.returns-then-s-low
returns-then-s-low c = turn_order _ _ _ _ _ _ _ _ c.loop-i.invariant.2 c.loop-i-test.true c.load-s.ensures c.good.ensures (ap not c.if-not-good.false) c.if-s-low.true

pub returns-then-left-s : goal.returns-then-left-s
returns-then-left-s c =
    turn_over _ _ _ _ _ _ _ _ c.loop-i.invariant.2 c.loop-i-test.true c.load-s.ensures c.good.ensures (ap not c.if-not-good.false) (omega arith) c.if-left-s.true

pub overflow_add-low : goal.overflow_add-low
overflow_add-low c = omega (arith, good_id _ _ (sym c.good.ensures ∙ c.if-not-good.false))

pub overflow_add-b : goal.overflow_add-b
overflow_add-b c = omega (arith, c.loop-i.invariant.0, c.loop-i-test.true, c.count_one-b.ensures, one_most c.args.c 0 c.load-s.result.id)

pub overflow_add-u : goal.overflow_add-u
overflow_add-u c = omega (arith, c.loop-i.invariant.1, c.loop-i-test.true, c.count_one-u.ensures, one_most c.args.c 1 c.load-s.result.id)

pub loop-i-preserved : goal.loop-i-preserved
loop-i-preserved c =
    (omega (arith, c.loop-i.invariant.0, c.count_one-b.ensures, one_most c.args.c 0 c.load-s.result.id), omega (arith, c.loop-i.invariant.1, c.count_one-u.ensures, one_most c.args.c 1 c.load-s.result.id), turn_on _ _ _ _ _ _ _ _ c.loop-i.invariant.2 c.loop-i-test.true c.load-s.ensures c.good.ensures (ap not c.if-not-good.false) (omega arith) c.if-left-s.false c.count_one-b.ensures c.count_one-u.ensures)

pub returns : goal.returns
returns c = turn_end _ _ _ _ _ _ _ _ c.loop-i.invariant.2 c.loop-i-test.false
