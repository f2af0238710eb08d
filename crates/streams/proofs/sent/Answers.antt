-- The event is fair, and is the one of the definition.
use Rattle.std.proofs.Common.{rules}
use Rattle.stream_record.specs.Record.{sent_done}
use Rattle.streams.specs.Calls.{room, sent_after}
use Rattle.streams.proofs.Fair.{sent_fair}
use Rattle.streams.proofs.Laws.{fair_of}
use Rattle.streams.proofs.sent.Goals as goal

pub on_stream-requires-clause-fair : goal.on_stream-requires-clause-fair
on_stream-requires-clause-fair c = λ s r e. fair_of s (room c.args.c) r (sent_done s) (search rules) (sent_fair s (room c.args.c))

pub returns : goal.returns
unfolding sent_after
returns c = c.on_stream.ensures sent_done (λ s r e. search rules)
