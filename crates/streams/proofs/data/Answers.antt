-- The event is fair, and is the one of the definition.
use Rattle.std.proofs.Common.{rules, ◌+◌}
use Rattle.stream_record.specs.Record.{took}
use Rattle.streams.specs.Calls.{room, data_after}
use Rattle.streams.proofs.Fair.{took_fair}
use Rattle.streams.proofs.Laws.{fair_of}
use Rattle.streams.proofs.data.Goals as goal

pub on_stream-requires-clause-fair : goal.on_stream-requires-clause-fair
on_stream-requires-clause-fair c = λ s r e. fair_of s (room c.args.c) r (took s (c.args.offset + c.args.len) c.args.fin (room c.args.c)) (search rules) (took_fair s (c.args.offset + c.args.len) c.args.fin (room c.args.c))

pub returns : goal.returns
unfolding data_after
returns c =
    let y = c.on_stream.ensures (λ s. took s (c.args.offset + c.args.len) c.args.fin (room c.args.c)) (λ s r e. search rules) in
    search rules
