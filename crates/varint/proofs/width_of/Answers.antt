-- A byte's top two bits are at most 3, so the power fits.
use native.Mathlib.Omega.{arith}
use Rattle.varint.proofs.Laws.{width_shift}
use Rattle.varint.proofs.width_of.Goals as goal

pub returns : goal.returns
returns c = width_shift _ (omega arith)
