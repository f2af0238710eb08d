use mathlib.Core.Path.{◌≡◌}
use Prim.Native.Nat.{◌-◌}
use lib.ListN.{length}
use Rattle.words.specs.Words.{pairs_from}
use Rattle.words.proofs.take_rest.Given as goal

abbrev pub invariant-loop-turn : goal.invariant-loop-turn
invariant-loop-turn l = pairs_from (length l.line - l._turn) l.line l.c l.numbers ≡ pairs_from (length l.line) l.line l.fn.c l.fn.numbers
