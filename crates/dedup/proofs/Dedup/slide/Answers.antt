-- Each branch is one law of `slides`: the words after the shift hold the marks bit by bit.
use Rattle.dedup.proofs.Laws.{slides}
use borrow.Author.Rules.{rules}
use Rattle.dedup.proofs.Dedup.slide.Goals as goal

pub returns-then-by-ge128 : goal.returns-then-by-ge128
returns-then-by-ge128 c = search (rules, slides)

pub returns-then-by-ge64 : goal.returns-then-by-ge64
returns-then-by-ge64 c = search (rules, slides)

pub returns-else-by-ge64 : goal.returns-else-by-ge64
returns-else-by-ge64 c = search (rules, slides)
