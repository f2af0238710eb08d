-- What tests say, for every crate: a conjunction and its parts, a disjunction, and that of two numbers one is below the other or not.
-- Assumes nothing.
use mathlib.Core.Path.{◌≡◌, refl}
use mathlib.Core.Bool.{Bool, true, false, ◌&&◌, ◌||◌}
use mathlib.Core.Logic.{◌⊎◌, inl, inr}
use Prim.Native.Nat.{ℕ, ◌≤◌, ◌<◌}
use native.Mathlib.Omega.{arith}
use native.Mathlib.Decide.{dec_lt}

pub never : {X : Type 0} → false ≡ true → X
never e = let z : ◌≡◌ {A = ℕ} 0 1 = cc in let y : ⊥ = omega arith in absurd y

pub fst : (a b : Bool) → (a && b) ≡ true → a ≡ true
fst true b e = refl
fst false b e = never e

pub snd : (a b : Bool) → (a && b) ≡ true → b ≡ true
snd true b e = e
snd false b e = never e

pub both : {a b : Bool} → a ≡ true → b ≡ true → (a && b) ≡ true
both e f = rw (e, f)

pub either : (a b : Bool) → (a || b) ≡ true → (a ≡ true) ⊎ (b ≡ true)
either true b e = inl refl
either false b e = inr e

split' : (a b : ℕ) → Dec (a < b) → (a < b) ⊎ (b ≤ a)
split' a b (yes h) = inl h
split' a b (no h) = inr (omega arith)

pub split : (a b : ℕ) → (a < b) ⊎ (b ≤ a)
split a b = split' a b (dec_lt a b)
