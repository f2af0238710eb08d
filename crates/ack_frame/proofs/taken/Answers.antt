-- A part from the start is as many bytes of the whole.
use Rattle.ack_frame.proofs.Laws.{taken_laws}
use borrow.Author.Rules.{rules}
use Rattle.ack_frame.proofs.taken.Goals as goal

pub returns-then-frame-n : goal.returns-then-frame-n
returns-then-frame-n c = search (rules, taken_laws)

pub returns : goal.returns
returns c = search (rules, taken_laws)
