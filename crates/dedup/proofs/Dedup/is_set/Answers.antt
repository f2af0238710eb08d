-- A shift and a remainder by 2 read one bit.
use Rattle.dedup.proofs.Laws.{sets}
use borrow.Author.Rules.{rules}
use Rattle.dedup.proofs.Dedup.is_set.Goals as goal

pub returns-then-at-lt64 : goal.returns-then-at-lt64
returns-then-at-lt64 c = search (rules, sets)

pub returns-else-at-lt64 : goal.returns-else-at-lt64
returns-else-at-lt64 c = search (rules, sets)
