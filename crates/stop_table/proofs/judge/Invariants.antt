-- What is left of the pass from `i` on comes to what the whole of it does.
use Rattle.std.proofs.Common.{◌≡◌, ◌-◌}
use Rattle.stop_table.specs.Passing.{pass_on}
use Rattle.stop_table.proofs.judge.Given as goal

abbrev pub invariant-loop-i : goal.invariant-loop-i
invariant-loop-i l = pass_on l.c l.id l.table l.i (l.n - l.i) l.a ≡ pass_on l.c l.id l.table 0 l.n l.initial.a
