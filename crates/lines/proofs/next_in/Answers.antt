-- `lines::next_in` meets its contract. Each arm rewrites with the tests that led there and with what the calls before it promise. Assumes nothing.
use Rattle.lines.proofs.Laws.{end_none, nexts, unread}
use borrow.Author.Rules.{rules}
use Rattle.lines.proofs.next_in.Goals as goal

pub returns-in-Some-clause-next : goal.returns-in-Some-clause-next
returns-in-Some-clause-next g c = search (rules, nexts)

pub returns-in-None-clause-next : goal.returns-in-None-clause-next
returns-in-None-clause-next g c = search (rules, nexts)

pub returns-in-None-2-clause-next : goal.returns-in-None-2-clause-next
returns-in-None-2-clause-next g c = search (rules, nexts)

pub returns-in-None-3 : goal.returns-in-None-3
returns-in-None-3 g c = record { next = search (rules, nexts); held_2 = search rules; source_unread = unread c.args.buf.now c.args.f (search (rules, end_none)) (search rules) (search rules) }
