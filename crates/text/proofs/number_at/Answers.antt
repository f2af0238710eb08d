-- `text::number_at` meets its contract. Each return is a law of Laws.antt, from what the calls before it promise. Assumes nothing.
use Rattle.text.proofs.Laws.{number_is}
use Rattle.text.proofs.number_at.Goals as goal

pub returns-in-Some : goal.returns-in-Some
returns-in-Some c = number_is _ _ c.word_at-w.ensures.value c.decimal.ensures c.in-Some.is

pub returns-in-None : goal.returns-in-None
returns-in-None c = number_is _ _ c.word_at-w.ensures.value c.decimal.ensures c.in-None.is
