-- What a history of calls comes to, as a set of numbers. A history is the numbers given to `insert` since `new`, the newest first.
-- Assumes nothing.
use Rattle.std.specs.Prelude.{ℕ, ◌+◌, ◌^◌, max, Bool, false, cond, ◌||◌, List, [], ◌∷◌, eqb, ltb, Result, Ok, Err}
use Rattle.answers.specs.declared.Refusal.{Refusal}
use Rattle.dedup.specs.declared.Dedup.{Dedup}
use Rattle.dedup.specs.declared.Inserted.{Inserted}
use Rattle.dedup.specs.Dedup.{too_old}

-- the window after a call that was given w: a refusal leaves it as it was
abbrev pub left : Dedup → Result Inserted Refusal → Dedup
left w (Err e) = w
left w (Ok i) = i.dedup

-- the numbers that were noted: one of 2 ^ 62 or more is refused, and leaves no trace
abbrev pub noted : List ℕ → List ℕ
noted [] = []
noted (n ∷ ns) = cond (ltb n (2 ^ 62)) (n ∷ noted ns) (noted ns)

-- one more than the highest, 0 where there is none
abbrev pub above : List ℕ → ℕ
above [] = 0
above (n ∷ ns) = max (above ns) (n + 1)

-- whether m is one of them
abbrev pub among : ℕ → List ℕ → Bool
among m [] = false
among m (n ∷ ns) = eqb m n || among m ns

-- whether m counts as seen: more than 128 below the highest noted, or noted
unfoldable pub seen_after : List ℕ → ℕ → Bool
seen_after ns m = too_old (above (noted ns)) m || among m (noted ns)
