-- `out::write` meets its contract. All was written, or a write failed. Assumes nothing.
use mathlib.Core.Path.{refl}
use mathlib.Core.Logic.{inl, inr}
use Rattle.out.proofs.write.Goals as goal

pub returns-then-write_all : goal.returns-then-write_all
returns-then-write_all c = inl refl

pub returns-else-write_all : goal.returns-else-write_all
returns-else-write_all c = inr refl
