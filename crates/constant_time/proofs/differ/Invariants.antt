use Rattle.std.proofs.Common.{◌≡◌, length}
use Rattle.constant_time.specs.Agree.{bits_of}
use Rattle.constant_time.proofs.differ.Given as goal

abbrev pub invariant-loop-x : goal.invariant-loop-x
invariant-loop-x l = (l.turns ≡ length l.yielded) × (l.bits ≡ bits_of l.a l.b (length l.yielded))
