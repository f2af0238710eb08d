-- The verdict, carried out, is what the definition says.
use Rattle.std.proofs.Common.{rules}
use Rattle.stop_table.proofs.Verdicts.{stop_refused, stop_done}
use Rattle.stop_table.proofs.stop.Goals as goal

pub returns-in_err-v : goal.returns-in_err-v
returns-in_err-v c = stop_refused _ _ _ _ c.judge.ensures c.in_err-v.was (search rules)

pub returns : goal.returns
returns c = stop_done _ _ _ _ c.judge.ensures c.in_ok-v.was c.write.ensures
