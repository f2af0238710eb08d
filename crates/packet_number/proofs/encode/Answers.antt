-- `encode` meets its contract: what `new` refuses leaves the buffer alone, and `put` writes as many bytes as `new` says.
use Rattle.std.proofs.lemmas.Result.{err_from_is_err_and}
use Rattle.packet_number.proofs.Laws.{encode_refuses, encode_room, encode_puts}
use Rattle.packet_number.proofs.encode.Goals as goal

pub returns-in_err-encoded : goal.returns-in_err-encoded
returns-in_err-encoded c =
    let a = c.args in
    let p = err_from_is_err_and c.from_residual.result c.from_residual.ensures.1 in
    rw (p.1, p.2) (encode_refuses a.number a.acked a.out.now c.in_err-encoded.ensures)

pub returns-then-out-encoded : goal.returns-then-out-encoded
returns-then-out-encoded c =
    let a = c.args in
    encode_room a.number a.acked a.out.now c.in_ok-encoded.ensures c.if-out-encoded.true

pub returns : goal.returns
returns c =
    let a = c.args in
    encode_puts a.number a.acked a.out.now c.in_ok-encoded.ensures c.if-out-encoded.false c.put.ensures
