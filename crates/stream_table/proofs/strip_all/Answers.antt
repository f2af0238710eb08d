-- The invariant: what stripping the records that are left comes to, from here, is what stripping all comes to. A record is written at or before its own place, so those left are as they were.
use Rattle.stream_table.proofs.Strips.{strip_start, sum_start, strip_turn, strip_done, strip_place, strip_length, strip_end, strip_total}
use native.Mathlib.Omega.{arith}
use mathlib.Core.Path.{refl, ◌∙◌}
use Rattle.stream_table.proofs.strip_all.Goals as goal

pub loop-i-init : goal.loop-i-init
loop-i-init c = (omega arith, refl, omega (arith, sum_start c.args.table.now c.args.count), strip_start _ _ _)

pub load-s-requires : goal.load-s-requires
load-s-requires c = omega (arith, c.loop-i.invariant.1, c.loop-i-test.true)

pub put_theirs-w-requires : goal.put_theirs-w-requires
put_theirs-w-requires c = omega (arith, c.loop-i.invariant.0, c.loop-i.invariant.1, c.loop-i-test.true)

pub add_ours-total-requires : goal.add_ours-total-requires
add_ours-total-requires c =
    omega (arith, c.loop-i.invariant.2, strip_end _ c.loop-i.table _ c.loop-i.i c.loop-i.w c.loop-i.total c.loop-i-test.true c.loop-i.invariant.0 c.load-s.ensures c.put_theirs-w.ensures, c.requires.1)

pub loop-i-preserved : goal.loop-i-preserved
loop-i-preserved c =
    (strip_place _ c.loop-i.table _ c.loop-i.i c.loop-i.w c.loop-i.total c.loop-i-test.true c.loop-i.invariant.0 c.load-s.ensures c.put_theirs-w.ensures, strip_length _ c.loop-i.table _ c.loop-i.i c.loop-i.w c.loop-i.total c.loop-i-test.true c.loop-i.invariant.0 c.load-s.ensures c.put_theirs-w.ensures ∙ c.loop-i.invariant.1, omega (arith, c.loop-i.invariant.2, strip_end _ c.loop-i.table _ c.loop-i.i c.loop-i.w c.loop-i.total c.loop-i-test.true c.loop-i.invariant.0 c.load-s.ensures c.put_theirs-w.ensures, strip_total _ c.loop-i.table _ c.loop-i.i c.loop-i.w c.loop-i.total c.loop-i-test.true c.loop-i.invariant.0 c.load-s.ensures c.put_theirs-w.ensures c.add_ours-total.ensures), strip_turn _ c.loop-i.table _ c.loop-i.i c.loop-i.w c.loop-i.total c.loop-i-test.true c.loop-i.invariant.0 c.load-s.ensures c.put_theirs-w.ensures c.add_ours-total.ensures c.loop-i.invariant.3)

pub returns : goal.returns
returns c = strip_done _ c.loop-i.table _ c.loop-i.i c.loop-i.w c.loop-i.total c.loop-i.invariant.3 c.loop-i-test.false
