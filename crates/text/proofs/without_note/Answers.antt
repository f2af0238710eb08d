-- `text::without_note` meets its contract. The part up to the first # is what the definition takes. Assumes nothing.
use Rattle.text.proofs.Laws.{line_is}
use Rattle.text.proofs.without_note.Goals as goal

pub returns : goal.returns
returns c = line_is _ c.before_note.ensures.value
