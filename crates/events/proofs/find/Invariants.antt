use mathlib.Core.Path.{◌≡◌}
use Prim.Native.Nat.{◌-◌}
use Rattle.events.specs.Events.{find_from, find_in}
use Rattle.events.proofs.find.Given as goal

abbrev pub invariant-loop-index : goal.invariant-loop-index
invariant-loop-index l = find_from (16 - l.index) l.grammar l.at l.index l.name ≡ find_in l.grammar l.name
