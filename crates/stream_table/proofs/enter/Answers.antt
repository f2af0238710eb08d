-- One law a return; what is found is one of the table's places, so its record can be read.
use Rattle.stream_table.proofs.Entries.{enters}
use Rattle.stream_table.specs.Table.{entered}
use borrow.Author.Rules.{rules}
use Rattle.stream_table.proofs.enter.Goals as goal

pub returns-then-id-ge-TOP : goal.returns-then-id-ge-TOP
returns-then-id-ge-TOP c = search (rules, enters)

pub returns-then-not-sound : goal.returns-then-not-sound
returns-then-not-sound c = search (rules, enters)

pub returns-in_err-admit : goal.returns-in_err-admit
unfolding entered
returns-in_err-admit c = search (rules, enters)

pub find-requires : goal.find-requires
find-requires c = search (rules, enters)

pub returns-in_default : goal.returns-in_default
returns-in_default c = search (rules, enters)

pub load-stream-requires : goal.load-stream-requires
load-stream-requires c = search (rules, enters)

pub returns : goal.returns
returns c = search (rules, enters)
