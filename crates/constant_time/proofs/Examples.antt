-- Agreement and each way to fail it: the definition computes.
use mathlib.Core.Path.{◌≡◌, refl}
use mathlib.Core.List.{[], ◌∷◌}
use mathlib.Core.Bool.{true, false}
use Rattle.constant_time.specs.Agree.{agree}

pub same_bytes : agree (1 ∷ 2 ∷ 3 ∷ []) (1 ∷ 2 ∷ 3 ∷ []) ≡ true
unfolding agree
same_bytes = refl

pub no_bytes : agree [] [] ≡ true
unfolding agree
no_bytes = refl

pub first_differs : agree (0 ∷ 2 ∷ 3 ∷ []) (1 ∷ 2 ∷ 3 ∷ []) ≡ false
unfolding agree
first_differs = refl

pub last_differs : agree (1 ∷ 2 ∷ 3 ∷ []) (1 ∷ 2 ∷ 4 ∷ []) ≡ false
unfolding agree
last_differs = refl

-- a string and its own beginning
pub longer : agree (1 ∷ 2 ∷ 3 ∷ []) (1 ∷ 2 ∷ []) ≡ false
unfolding agree
longer = refl
