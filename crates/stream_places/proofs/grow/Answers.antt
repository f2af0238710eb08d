-- The invariant: what is left to grow from here comes to the whole. Each turn puts in one fresh record more.
use Rattle.stream_places.proofs.Wants.{grow_start, grow_turn, grow_done, grow_length}
use native.Mathlib.Omega.{arith}
use mathlib.Core.Path.{refl, ◌∙◌}
use Prim.Native.Nat.{◌+◌}
use Rattle.stream_places.proofs.grow.Goals as goal

pub loop-i-init : goal.loop-i-init
loop-i-init c = (refl, grow_start c.args.w c.args.table.now c.args.count c.args.id c.args.k)

pub loop-i-preserved : goal.loop-i-preserved
loop-i-preserved c = (
  grow_length c.loop-i.table (c.args.count + c.loop-i.i) c.new.result (omega (arith, c.requires.0, c.loop-i-test.true)) (omega (arith, c.loop-i.invariant.0, c.requires.1, c.loop-i-test.true)) c.insert.ensures ∙ c.loop-i.invariant.0,
  grow_turn _ c.loop-i.table c.args.count c.args.id c.args.k c.loop-i.i c.loop-i.invariant.1 c.loop-i-test.true c.requires.0 (omega (arith, c.loop-i.invariant.0, c.requires.1)) c.new.ensures c.insert.ensures,
)

pub returns : goal.returns
returns c = grow_done _ c.loop-i.table c.args.count c.args.id c.args.k c.loop-i.i c.loop-i.invariant.1 c.loop-i-test.false
