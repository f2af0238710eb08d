-- `lines::line` meets its contract. The feed is the one that lies in the buffer. Assumes nothing.
use Rattle.lines.proofs.Laws.{line_is}
use borrow.Author.Rules.{rules}
use Rattle.lines.proofs.line.Goals as goal

pub returns : goal.returns
returns c = search (rules, line_is)
