-- How much is left of a search: a number that falls with each new size, and one that falls with each probe, whatever is acknowledged or lost; and how near a
-- search comes to what the path passes. Below m is the minimum change.
-- A width above `edge` is halved, rounded up, and falls by one level; one up to it is halved no more, since half way is nearer to the last size than m. The upper
-- bound itself is tried besides, once, where it is at least m away. Assumes nothing.
use Rattle.std.specs.Prelude.{ℕ, zero, suc, ◌+◌, ◌-◌, ◌*◌, ◌/◌, max, cond, eqb, ltb, leb}
use Rattle.mtu_search.specs.declared.SearchState.{SearchState}

-- ---- of a search whose bounds are w apart
-- the width up to which none is halved: 2 m - 3 for m of 3 and more, m for less
abbrev pub edge : ℕ → ℕ
edge change = max change (2 * change - 3)

-- a width halved, rounded up
abbrev pub up : ℕ → ℕ
up w = (w + 1) / 2

-- how often a width is halved so until it is c or less; at most k times
unfoldable pub level : ℕ → ℕ → ℕ → ℕ
level zero c w = 0
level (suc k) c w = cond (leb w c) 0 (suc (level k c (up w)))

-- the same down to the edge: 16 times suffice, as sizes have 16 bits. It is the least k with w ≤ edge * 2 ^ k (Levels, `levels_enough` and `levels_least`)
unfoldable pub levels : ℕ → ℕ → ℕ
levels change w = level 16 (edge change) w

-- sizes that are tried at most: none where w is below m, else one more than the levels
unfoldable pub sizes_most : ℕ → ℕ → ℕ
sizes_most change w = cond (leb change w) (suc (levels change w)) 0

-- how far a search may end below the largest size that the path passes: 2 m - 4 for m of 3 and more, 1 for less
abbrev pub shortfall : ℕ → ℕ
shortfall change = max 1 (2 * change - 4)

-- ---- of a search that runs
-- sizes that are left for the width w between the bounds, after the last size was lost; after it was acknowledged they are those of a search of that width
unfoldable pub after_lost : ℕ → ℕ → ℕ
after_lost change w = cond (ltb w (max 2 (edge change))) 0 (suc (sizes_most change (up w)))

-- sizes that are left while the size `last` is out
unfoldable pub sizes_left : ℕ → ℕ → ℕ → ℕ → ℕ
sizes_left lower upper last change = max (sizes_most change (upper - last)) (after_lost change (last - 1 - lower))

-- probes of the size `last` that are left: three in all, none once it is acknowledged
unfoldable pub tries_left : SearchState → ℕ
tries_left s = cond s.flying (2 - s.lost) (cond (eqb s.lost 0) 0 (3 - s.lost))

unfoldable pub sizes_in : SearchState → ℕ → ℕ
sizes_in s change = sizes_left s.lower s.upper s.last change

unfoldable pub probes_in : SearchState → ℕ → ℕ
probes_in s change = 3 * sizes_in s change + tries_left s
