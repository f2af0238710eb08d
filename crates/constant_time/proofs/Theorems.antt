-- `agree` is equality, by induction over both strings; and the count of turns is the length, so equal lengths take equally many.
use Prim.Native.Nat.{ℕ}
use mathlib.Core.Path.{◌≡◌, refl, subst}
use mathlib.Core.Bool.{true}
use mathlib.Core.List.{List}
use lib.ListN.{length}
use Rattle.constant_time.specs.Agree.{agree, turns_of, differs}
use Rattle.constant_time.proofs.Laws.{agree_equal, equal_agree}

-- yes exactly when the strings are equal
pub agree_iff_equal : (a b : List ℕ) → (agree a b ≡ true → a ≡ b) × (a ≡ b → agree a b ≡ true)
agree_iff_equal a b = (agree_equal a b, λ e. subst (λ (l : List ℕ). agree a l ≡ true) e (equal_agree a))

-- the turns depend on the length alone
pub turns_by_length : (a a' b b' : List ℕ) → length a ≡ length a' → (differs a b).turns ≡ (differs a' b').turns
unfolding turns_of
turns_by_length a a' b b' e = e

-- every byte is visited
pub turns_all : (a b : List ℕ) → (differs a b).turns ≡ length a
unfolding turns_of
turns_all a b = refl
