use mathlib.Core.Path.{◌≡◌}
use Rattle.big_endian.specs.Bytes.{number_of}
use Rattle.big_endian.proofs.get.Given as goal

abbrev pub invariant-loop-byte : goal.invariant-loop-byte
invariant-loop-byte l = l.number ≡ number_of l.s l.byte-index
