-- `text::is_end` meets its contract. The word is empty exactly where its ends are equal. Assumes nothing.
use Rattle.text.specs.Words.{is_end}
use Rattle.text.proofs.is_end.Goals as goal

pub returns : goal.returns
unfolding is_end
returns c = rw c.word_at-w.ensures.value
