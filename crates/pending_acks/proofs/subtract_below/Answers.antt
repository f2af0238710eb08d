-- Each return is one law of `says`: the two refusals, and what the remove promises.
use Rattle.pending_acks.proofs.Laws.{says}
use borrow.Author.Rules.{rules}
use Rattle.pending_acks.proofs.subtract_below.Goals as goal

pub returns-then-upto-ge-LIMIT : goal.returns-then-upto-ge-LIMIT
returns-then-upto-ge-LIMIT c = search (rules, says)

pub returns-then-count-gt-MAX_ACK_BLOCKS : goal.returns-then-count-gt-MAX_ACK_BLOCKS
returns-then-count-gt-MAX_ACK_BLOCKS c = search (rules, says)

pub returns : goal.returns
returns c = search (rules, says)
