-- A place that is not lent changes nothing, as `set` says it too.
use Rattle.std.proofs.Common.{rules}
use Rattle.stop_table.proofs.Verdicts.{writes}
use Rattle.stop_table.proofs.write.Goals as goal

pub returns-in_default : goal.returns-in_default
returns-in_default c = search (rules, writes)

pub returns-then-p-table : goal.returns-then-p-table
returns-then-p-table c = search (rules, writes)

pub returns : goal.returns
returns c = search (rules, writes)
