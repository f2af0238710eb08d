-- The event is fair, and is the one of the definition.
use Rattle.std.proofs.Common.{rules}
use Rattle.stream_record.specs.Record.{announced}
use Rattle.streams.specs.Calls.{room, announce_after}
use Rattle.streams.proofs.Fair.{announce_fair}
use Rattle.streams.proofs.Laws.{fair_of}
use Rattle.streams.proofs.announce.Goals as goal

pub on_stream-requires-clause-fair : goal.on_stream-requires-clause-fair
on_stream-requires-clause-fair c = λ s r e. fair_of s (room c.args.c) r (announced s c.args.c.swindow) (search rules) (announce_fair s c.args.c.swindow (room c.args.c))

pub returns : goal.returns
unfolding announce_after
returns c = c.on_stream.ensures (λ s. announced s c.args.c.swindow) (λ s r e. search rules)
