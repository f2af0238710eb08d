-- Worked texts, by computing. Assumes nothing.
use mathlib.Core.Path.{◌≡◌, refl}
use mathlib.Core.List.{[], ◌∷◌}
use Rattle.std.specs.Prelude.{Err}
use Rattle.answers.specs.declared.Refusal.TheVariants.{Room}
use Rattle.print.specs.Print.{decimal_onto, decimal, hexed, range, put_at, done}

pub nought : decimal 0 ≡ 48 ∷ []
unfolding decimal decimal_onto
nought = refl

pub largest : decimal 18446744073709551615 ≡ 49 ∷ 56 ∷ 52 ∷ 52 ∷ 54 ∷ 55 ∷ 52 ∷ 52 ∷ 48 ∷ 55 ∷ 51 ∷ 55 ∷ 48 ∷ 57 ∷ 53 ∷ 53 ∷ 49 ∷ 54 ∷ 49 ∷ 53 ∷ []
unfolding decimal decimal_onto
largest = refl

pub from_3_to_9 : range 3 9 ≡ 51 ∷ 46 ∷ 46 ∷ 57 ∷ []
unfolding range decimal decimal_onto
from_3_to_9 = refl

pub two_bytes : hexed (0 ∷ 255 ∷ []) ≡ 48 ∷ 48 ∷ 102 ∷ 102 ∷ []
unfolding hexed
two_bytes = refl

-- a text that does not fit leaves the buffer as it was
pub no_room : put_at (1 ∷ 2 ∷ []) 1 (7 ∷ 8 ∷ []) ≡ done (Err Room) (1 ∷ 2 ∷ [])
unfolding put_at
no_room = refl
