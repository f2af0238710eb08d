-- The event is fair, and is the one of the definition.
use Rattle.std.proofs.Common.{rules}
use Rattle.stream_record.specs.Record.{halted}
use Rattle.streams.specs.Calls.{room, stop_after}
use Rattle.streams.proofs.Fair.{stop_fair}
use Rattle.streams.proofs.Laws.{fair_of}
use Rattle.streams.proofs.stop.Goals as goal

pub on_stream-requires-clause-fair : goal.on_stream-requires-clause-fair
on_stream-requires-clause-fair c = λ s r e. fair_of s (room c.args.c) r (halted s) (search rules) (stop_fair s (room c.args.c))

pub returns : goal.returns
unfolding stop_after
returns c = c.on_stream.ensures halted (λ s r e. search rules)
