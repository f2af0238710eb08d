-- The event is fair, and is the one of the definition.
use Rattle.std.proofs.Common.{rules}
use Rattle.stream_record.specs.Record.{read_on}
use Rattle.streams.specs.Calls.{room, read_after}
use Rattle.streams.proofs.Fair.{read_fair}
use Rattle.streams.proofs.Laws.{fair_of}
use Rattle.streams.proofs.read.Goals as goal

pub on_stream-requires-clause-fair : goal.on_stream-requires-clause-fair
on_stream-requires-clause-fair c = λ s r e. fair_of s (room c.args.c) r (read_on s c.args.n) (search rules) (read_fair s c.args.n (room c.args.c))

pub returns : goal.returns
unfolding read_after
returns c =
    let y = c.on_stream.ensures (λ s. read_on s c.args.n) (λ s r e. search rules) in
    search rules
