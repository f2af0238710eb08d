-- The part lent on comes back with the integer at its start.
use mathlib.Core.Path.{◌≡◌, ap}
use Prim.Native.Nat.{ℕ, ◌+◌}
use native.Mathlib.Omega.{arith}
use Rattle.varint.specs.Varint.{len_of}
use Rattle.ack_write.proofs.Laws.{len_back, put_back}
use Rattle.ack_write.proofs.put_at.Goals as goal

pub unreachable-requires : goal.unreachable-requires
unreachable-requires c =
    let e = len_back c.args.out.now c.args.at c.args.v c.requires.0 c.requires.1 c.in_default.ensures in
    cc

pub overflow_add-result : goal.overflow_add-result
overflow_add-result c =
    let a = c.args in
    let e : c.in-Ok.n ≡ len_of a.v = cc (len_back a.out.now a.at a.v c.requires.0 c.requires.1 c.in-Ok.ensures) in
    omega (arith, c.requires.1)

pub returns : goal.returns
returns c =
    let a = c.args in
    let e : c.in-Ok.n ≡ len_of a.v = cc (len_back a.out.now a.at a.v c.requires.0 c.requires.1 c.in-Ok.ensures) in
    (ap (λ (k : ℕ). a.at + k) e, put_back a.out.now a.at a.v c.requires.0 c.requires.1 c.in-Ok.ensures)
