use Prim.Native.Nat.{◌≤◌}
use Rattle.range_set_small.proofs.main.Given as goal

abbrev pub invariant-loop-c : goal.invariant-loop-c
invariant-loop-c l = l.wrong ≤ l.c
