-- The event is fair, and is the one of the definition.
use Rattle.std.proofs.Common.{rules}
use Rattle.stream_record.specs.Record.{was_reset}
use Rattle.streams.specs.Calls.{room, reset_after}
use Rattle.streams.proofs.Fair.{reset_fair}
use Rattle.streams.proofs.Laws.{fair_of}
use Rattle.streams.proofs.reset.Goals as goal

pub on_stream-requires-clause-fair : goal.on_stream-requires-clause-fair
on_stream-requires-clause-fair c = λ s r e. fair_of s (room c.args.c) r (was_reset s c.args.last (room c.args.c)) (search rules) (reset_fair s c.args.last (room c.args.c))

pub returns : goal.returns
unfolding reset_after
returns c =
    let y = c.on_stream.ensures (λ s. was_reset s c.args.last (room c.args.c)) (λ s r e. search rules) in
    search rules
