use mathlib.Core.Path.{◌≡◌}
use lib.ListN.{drop}
use Rattle.words.specs.Words.{words_from, words_taken, both}
use Rattle.words.proofs.take.Given as goal

abbrev pub invariant-loop-kind : goal.invariant-loop-kind
invariant-loop-kind l = words_from l.line (drop l.kind-index l.shape) (both l.c l.numbers l.bytes) ≡ words_taken l.line l.at l.shape l.fn.numbers l.fn.bytes
