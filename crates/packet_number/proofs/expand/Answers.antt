-- `expand` meets its contract: its tests are the definition's, and what it calls gives the window, the digits and A.3's choice.
use native.Mathlib.Omega.{arith}
use mathlib.Core.Path.{◌≡◌}
use mathlib.Core.Bool.{true}
use Rattle.big_endian.proofs.Laws.{number_got}
use Rattle.packet_number.specs.PacketNumber.{readable}
use Rattle.packet_number.proofs.Laws.{readable_by, readable_none, readable_long, readable_past, window_pos, window_le, number_fits, expand_refuses, expand_short, expand_past, expand_reads}
use Rattle.packet_number.proofs.expand.Goals as goal
use Rattle.packet_number.proofs.expand.Goals.{then-len-eq0-via-then-len-eq0, then-len-eq0-via-else-len-eq0+then-len-gt4, then-len-eq0-via-else-len-eq0+else-len-gt4+then-largest-ge-LIMIT}

pub returns-then-len-eq0 : goal.returns-then-len-eq0
returns-then-len-eq0 c =
    let a = c.args in
    elim c.then-len-eq0.branch [
      | then-len-eq0-via-then-len-eq0 w ↦ expand_refuses a.bytes.now a.len a.largest (readable_none a.len a.largest w.if-len-eq0.true)
      | then-len-eq0-via-else-len-eq0+then-len-gt4 w ↦ expand_refuses a.bytes.now a.len a.largest (readable_long a.len a.largest w.if-len-gt4.true)
      | then-len-eq0-via-else-len-eq0+else-len-gt4+then-largest-ge-LIMIT w ↦
          expand_refuses a.bytes.now a.len a.largest (readable_past a.len a.largest (omega (arith, w.if-len-eq0.false)) w.if-len-gt4.false w.if-largest-ge-LIMIT.true)
    ]

pub returns-in_default : goal.returns-in_default
returns-in_default c =
    let a = c.args in
    let h : readable a.len a.largest ≡ true = readable_by a.len a.largest (omega arith) (omega arith) (omega arith) in
    expand_short a.bytes.now a.len a.largest h c.in_default.ensures

pub choose-number-requires : goal.choose-number-requires
choose-number-requires c =
    let a = c.args in (
      omega arith,
      (omega (arith, window_pos a.len), (omega (arith, window_le a.len c.if-len-gt4.false), number_fits a.bytes.now c.type_inv.bytes a.len c.in-Some.ensures c.window.ensures)),
    )

pub returns-then-number-ge-LIMIT : goal.returns-then-number-ge-LIMIT
returns-then-number-ge-LIMIT c =
    let a = c.args in
    let h : readable a.len a.largest ≡ true = readable_by a.len a.largest (omega arith) (omega arith) (omega arith) in
    let g = number_got a.len a.bytes.now c.in-Some.ensures in
    expand_past a.bytes.now a.len a.largest h g.0 c.window.ensures g.1 c.choose-number.ensures c.if-number-ge-LIMIT.true

pub returns : goal.returns
returns c =
    let a = c.args in
    let h : readable a.len a.largest ≡ true = readable_by a.len a.largest (omega arith) (omega arith) (omega arith) in
    let g = number_got a.len a.bytes.now c.in-Some.ensures in
    expand_reads a.bytes.now a.len a.largest h g.0 c.window.ensures g.1 c.choose-number.ensures c.if-number-ge-LIMIT.false
