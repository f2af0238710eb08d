-- No two refusals have one number, and none has that of a call that went through. Assumes nothing.
use mathlib.Core.Path.{◌≡◌, refl, ap, sym, ◌∙◌}
use mathlib.Core.Bool.{cond}
use Prim.Native.Nat.{ℕ}
use lib.Dec.{eqb}
use native.Mathlib.Omega.{arith}
use Rattle.answers.specs.Answers.{number, OK}
use Rattle.answers.specs.declared.Refusal.{Refusal}
use Rattle.answers.specs.declared.Refusal.TheVariants.{Short, Range, Malformed, Kind, Full, Order, Flow, Final, Limit, State, Room, Retired}

-- the table read the other way; what stands past the eleventh is taken for the last
abbrev with_number : ℕ → Refusal
with_number n =
    cond (eqb n 1) Short
    (cond (eqb n 2) Range
    (cond (eqb n 3) Malformed
    (cond (eqb n 4) Kind
    (cond (eqb n 5) Full
    (cond (eqb n 6) Order
    (cond (eqb n 7) Flow
    (cond (eqb n 8) Final
    (cond (eqb n 9) Limit
    (cond (eqb n 10) State
    (cond (eqb n 11) Room Retired))))))))))

read_back : (a : Refusal) → with_number (number a) ≡ a
read_back Short = refl
read_back Range = refl
read_back Malformed = refl
read_back Kind = refl
read_back Full = refl
read_back Order = refl
read_back Flow = refl
read_back Final = refl
read_back Limit = refl
read_back State = refl
read_back Room = refl
read_back Retired = refl

pub number_once : (a b : Refusal) → number a ≡ number b → a ≡ b
number_once a b e = sym (read_back a) ∙ ap with_number e ∙ read_back b

pub not_ok : (a : Refusal) → number a ≡ OK → ⊥
not_ok Short e = omega arith
not_ok Range e = omega arith
not_ok Malformed e = omega arith
not_ok Kind e = omega arith
not_ok Full e = omega arith
not_ok Order e = omega arith
not_ok Flow e = omega arith
not_ok Final e = omega arith
not_ok Limit e = omega arith
not_ok State e = omega arith
not_ok Room e = omega arith
not_ok Retired e = omega arith
