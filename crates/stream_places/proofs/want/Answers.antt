-- Good form bounds what is granted; the places are within the table.
use Rattle.stream_places.proofs.Wants.{want_sum, want_mul, want_fits}
use native.Mathlib.Omega.{arith}
use mathlib.Core.Path.{ap}
use mathlib.Core.Bool.{not}
use Rattle.stream_places.proofs.want.Goals as goal

pub overflow_add-m : goal.overflow_add-m
overflow_add-m c =
    omega (arith, want_sum _ c.args.table.now c.args.count c.args.dir c.args.desired c.if-dir-desired.false c.sound.ensures (ap not c.if-not-sound.false) c.counts-k.ensures c.saturating_sub-new.ensures c.saturating_sub.ensures c.if-saturating_sub-new.false)

pub overflow_mul-m : goal.overflow_mul-m
overflow_mul-m c =
    omega (arith, want_mul _ c.args.table.now c.args.count c.args.dir c.args.desired c.if-dir-desired.false c.sound.ensures (ap not c.if-not-sound.false) c.counts-k.ensures c.saturating_sub-new.ensures c.saturating_sub.ensures c.if-saturating_sub-new.false)

pub grant-requires : goal.grant-requires
grant-requires c =
    want_fits _ _ _ _ _ c.if-dir-desired.false c.sound.ensures (ap not c.if-not-sound.false) c.counts-k.ensures c.saturating_sub-new.ensures c.saturating_sub.ensures c.if-saturating_sub-new.false c.if-m-table.false
