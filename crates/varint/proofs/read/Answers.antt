-- The length is by the first byte, and the number is that of so many bytes without their top two bits.
use mathlib.Core.Path.{◌≡◌, sym}
use lib.ListN.{length, get_or}
use native.Mathlib.Omega.{arith}
use borrow.Author.Tests.{eqb-true}
use Rattle.varint.proofs.Laws.{width_pos, len_low, len_high, mask_low, reads_short, reads_none, reads_some, reads_sound}
use Rattle.varint.proofs.read.Goals as goal

pub returns-then-is_empty-clause-value : goal.returns-then-is_empty-clause-value
returns-then-is_empty-clause-value c =
    let s = c.args.s.now in
    let e : length s ≡ 0 = eqb-true (length s) 0 (sym c.if-is_empty.ensures) in
    sym (reads_short s (omega (arith, width_pos (get_or s 0 0))))

pub returns-in_default-clause-value : goal.returns-in_default-clause-value
returns-in_default-clause-value c = reads_none c.args.s.now c.type_inv.s c.width_of-len.ensures c.in_default.ensures

pub overflow_mul-result : goal.overflow_mul-result
overflow_mul-result c = omega (arith, len_high c.args.s.now c.type_inv.s c.width_of-len.ensures)

pub overflow_sub-result : goal.overflow_sub-result
overflow_sub-result c = omega (arith, len_low c.args.s.now c.type_inv.s c.width_of-len.ensures)

pub overflow_shl-result : goal.overflow_shl-result
overflow_shl-result c = omega (arith, len_high c.args.s.now c.type_inv.s c.width_of-len.ensures)

pub overflow_sub-result-2 : goal.overflow_sub-result-2
overflow_sub-result-2 c = mask_low c.args.s.now c.type_inv.s c.width_of-len.ensures

pub returns-clause-value : goal.returns-clause-value
returns-clause-value c = reads_some c.args.s.now c.type_inv.s c.width_of-len.ensures c.in-Some.ensures

pub returns-clause-sound : goal.returns-clause-sound
returns-clause-sound c = reads_sound c.args.s.now c.type_inv.s c.width_of-len.ensures c.in-Some.ensures
