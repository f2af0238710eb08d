-- One law a return; good form bounds the sum of ends.
use Rattle.stream_table.proofs.Strips.{strips}
use borrow.Author.Rules.{rules}
use Rattle.stream_table.proofs.strip.Goals as goal

pub returns-then-not-sound : goal.returns-then-not-sound
returns-then-not-sound c = search (rules, strips)

pub strip_all-requires : goal.strip_all-requires
strip_all-requires c = search (rules, strips)

pub returns : goal.returns
returns c = search (rules, strips)
