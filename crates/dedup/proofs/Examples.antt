-- Worked cases, by computing: the width as running spaces.rs showed it, and a few numbers out of order.
use mathlib.Core.Path.{◌≡◌, refl}
use mathlib.Core.Bool.{true, false}
use mathlib.Core.List.{List, [], ◌∷◌}
use Prim.Native.Nat.{ℕ, ◌-◌, ◌^◌}
use Rattle.std.specs.Prelude.{Err}
use Rattle.answers.specs.declared.Refusal.TheVariants.{Range}
use Rattle.dedup.specs.Bits.{bit, pack}
use Rattle.dedup.specs.declared.Dedup.{Dedup}
use Rattle.dedup.specs.Dedup.{place, recorded, seen, holding, fresh, told, inserted}
use Rattle.dedup.specs.History.{left}

-- the fresh window after some numbers, the newest first
abbrev after : List ℕ → Dedup
after [] = fresh
after (n ∷ ns) = left (after ns) (inserted (after ns) n)

-- 128 below the highest is still in the window: 0 is new
pub insert_128_then_0 : inserted (after (128 ∷ [])) 0 ≡ told false (after (0 ∷ 128 ∷ []))
unfolding inserted seen recorded holding place pack bit
insert_128_then_0 = refl

-- 129 below it is too old: 0 counts as seen, and nothing is noted
pub insert_129_then_0 : inserted (after (129 ∷ [])) 0 ≡ told true (after (129 ∷ []))
unfolding inserted seen recorded holding place pack bit
insert_129_then_0 = refl

-- 5, then 3: 3 again is seen, 4 is not, and it is the words that say so
pub insert_5_3
    : (inserted (after (3 ∷ 5 ∷ [])) 3 ≡ told true (after (3 ∷ 5 ∷ [])))
    × (inserted (after (3 ∷ 5 ∷ [])) 4 ≡ told false (after (4 ∷ 3 ∷ 5 ∷ []))) × ((after (3 ∷ 5 ∷ [])).low ≡ 34)
unfolding inserted seen recorded holding place pack bit
insert_5_3 = (refl, refl, refl)

-- the last packet number is noted, and the one above it is none
pub insert_last
    : (inserted fresh (2 ^ 62 - 1) ≡ told false (after ((2 ^ 62 - 1) ∷ []))) × (inserted fresh (2 ^ 62) ≡ Err Range) × (after ((2 ^ 62) ∷ []) ≡ fresh)
unfolding inserted seen recorded holding place pack bit
insert_last = (refl, refl, refl)
