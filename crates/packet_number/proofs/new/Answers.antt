-- `new` meets its contract: what can be written has its distance below 2 ^ 31, and its length is 1 to 4.
use mathlib.Core.Path.{sym}
use Prim.Native.Nat.{◌-◌}
use native.Mathlib.Omega.{arith}
use Rattle.packet_number.proofs.Laws.{writable_order, writable_close, fewest_high, window_pos, new_takes, new_refuses}
use Rattle.packet_number.proofs.new.Goals as goal

pub overflow_sub-number : goal.overflow_sub-number
overflow_sub-number c = writable_order _ _ (sym c.if-writable.ensures)

pub fewest-len-requires : goal.fewest-len-requires
fewest-len-requires c = writable_close _ _ (sym c.if-writable.ensures)

pub window-requires : goal.window-requires
window-requires c = omega (arith, fewest_high (c.args.number - c.args.acked))

pub nonzero_rem-result : goal.nonzero_rem-result
nonzero_rem-result c = omega (arith, window_pos c.fewest-len.result)

pub returns-then-writable : goal.returns-then-writable
returns-then-writable c = new_takes _ _ (sym c.if-writable.ensures) c.fewest-len.ensures c.window.ensures

pub returns : goal.returns
returns c = new_refuses _ _ (sym c.if-writable.ensures)
