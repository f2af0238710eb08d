-- `text::word_at` meets its contract. Each return is a law of Laws.antt, from what the calls before it promise. Assumes nothing.
use borrow.Author.Tests.{lt-ltb}
use Rattle.text.specs.Words.{word_at}
use Rattle.text.proofs.Laws.{word_is}
use borrow.Author.Rules.{rules}
use Rattle.text.proofs.word_at.Goals as goal

pub returns-then-s-at : goal.returns-then-s-at
unfolding word_at
returns-then-s-at c = record { value = simp (lt-ltb _ _ c.if-s-at.true); start_le_end = search rules }

pub returns-clause-value : goal.returns-clause-value
returns-clause-value c = word_is _ _ c.if-s-at.false c.blanks.ensures.value c.before_blank.ensures.value
