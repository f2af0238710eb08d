-- The event is fair, and is the one of the definition.
use Rattle.std.proofs.Common.{rules}
use Rattle.stream_record.specs.Record.{seen_by}
use Rattle.streams.specs.Calls.{room, seen_after}
use Rattle.streams.proofs.Fair.{seen_fair}
use Rattle.streams.proofs.Laws.{fair_of}
use Rattle.streams.proofs.seen.Goals as goal

pub on_stream-requires-clause-fair : goal.on_stream-requires-clause-fair
on_stream-requires-clause-fair c = λ s r e. fair_of s (room c.args.c) r (seen_by s) (search rules) (seen_fair s (room c.args.c))

pub returns : goal.returns
unfolding seen_after
returns c = c.on_stream.ensures seen_by (λ s r e. search rules)
