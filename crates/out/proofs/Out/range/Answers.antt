-- `out::Out::range` meets its contract. The text had room at once, or after what was gathered was written out, or not at all. Assumes nothing.
use Rattle.out.proofs.Laws.{went_in, later_in, later_none}
use borrow.Author.Rules.{rules}
use Rattle.out.proofs.Out.range.Goals as goal

pub returns-in-Ok : goal.returns-in-Ok
returns-in-Ok c = went_in _ _ _ c.in-Ok.ensures

pub returns-in-Ok-again : goal.returns-in-Ok-again
returns-in-Ok-again c = later_in _ _ _ c.in_default.ensures c.flush.ensures (search rules) c.in-Ok-again.ensures

pub returns-in_default-again : goal.returns-in_default-again
returns-in_default-again c = later_none _ _ _ c.in_default.ensures c.flush.ensures c.in_default-again.ensures
