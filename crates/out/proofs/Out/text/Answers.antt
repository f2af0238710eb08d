-- `out::Out::text` meets its contract. The text had room at once, or after what was gathered was written out, or not at all. Assumes nothing.
use Rattle.out.proofs.Laws.{went_in, later_in, later_out, later_long}
use borrow.Author.Rules.{rules}
use Rattle.out.proofs.Out.text.Goals as goal

pub returns-in-Ok : goal.returns-in-Ok
returns-in-Ok c = went_in _ _ _ c.in-Ok.ensures

pub returns-in-Ok-text : goal.returns-in-Ok-text
returns-in-Ok-text c = later_in _ _ _ c.in_default.ensures c.flush.ensures (search rules) c.in-Ok-text.ensures

pub returns-in-Err : goal.returns-in-Err
returns-in-Err c = later_out _ _ _ c.in_default.ensures c.flush.ensures c.in-Err.ensures c.if-self.true

pub returns-in-Err-2 : goal.returns-in-Err-2
returns-in-Err-2 c = later_long _ _ _ c.in_default.ensures c.flush.ensures c.in-Err-2.ensures c.if-self.false c.write-self.ensures
