-- `lines::next` meets its contract. The feed is the one that lies in the buffer. Assumes nothing.
use Rattle.lines.proofs.Laws.{next_fitted, unread_fitted}
use borrow.Author.Rules.{rules}
use Rattle.lines.proofs.next.Goals as goal

pub returns : goal.returns
returns g c = record { next = search (rules, next_fitted); held = search rules; source_unread = search (rules, unread_fitted) }
