-- Each branch is one law of `marks`: one bit more is one mark more.
use Rattle.dedup.proofs.Laws.{marks}
use borrow.Author.Rules.{rules}
use Rattle.dedup.proofs.Dedup.mark.Goals as goal

pub returns-then-place-lt64 : goal.returns-then-place-lt64
returns-then-place-lt64 c = search (rules, marks)

pub returns-else-place-lt64 : goal.returns-else-place-lt64
returns-else-place-lt64 c = search (rules, marks)
