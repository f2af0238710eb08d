-- `lines::begin` meets its contract. Assumes nothing.
use mathlib.Core.Path.{refl}
use borrow.Author.Rules.{rules}
use Rattle.lines.proofs.begin.Goals as goal

pub returns : goal.returns
returns c = record { value = refl; held = search rules }
