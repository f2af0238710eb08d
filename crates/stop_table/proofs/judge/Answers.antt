-- Each turn takes one place, which is lent; after the last one the pass has come to what the definition says.
use Rattle.std.proofs.Common.{◌+◌, ◌-◌, arith, ap, sym, ◌∙◌, length}
use Rattle.stop_table.specs.Passing.{pass_on, verdict_of}
use Rattle.stop_table.proofs.Turns.{lent_below, pass_turn, pass_end, judge_is}
use Rattle.stop_table.proofs.judge.Goals as goal

pub offset_bounds-table-i : goal.offset_bounds-table-i
offset_bounds-table-i c = omega (arith, c.lent-n.ensures, lent_below (length c.args.table.now) c.args.count)

pub bounds-table-i : goal.bounds-table-i
bounds-table-i c = omega (arith, c.lent-n.ensures, lent_below (length c.args.table.now) c.args.count)

pub loop-i-preserved : goal.loop-i-preserved
loop-i-preserved c =
    ap (pass_on c.args.c c.args.id c.args.table.now (c.loop-i.i + 1) (c.lent-n.result - (c.loop-i.i + 1))) c.next-a.ensures
    ∙ sym (pass_turn c.args.c c.args.id c.args.table.now c.loop-i.i c.lent-n.result c.loop-i.a c.loop-i-test.true)
    ∙ c.loop-i.invariant

pub returns : goal.returns
returns c =
    judge_is c.args.c c.args.table.now c.args.count c.args.id c.lent-n.ensures c.begin-a.ensures
    (c.decide.ensures
    ∙ ap (verdict_of c.args.c c.args.id)
    (sym (pass_end c.args.c c.args.id c.args.table.now c.loop-i.i c.lent-n.result c.loop-i.a c.loop-i-test.false) ∙ c.loop-i.invariant))
