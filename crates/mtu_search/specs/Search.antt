-- One search for a larger MTU, as functions of its state (mtud.rs, SearchState and the searching part of EnabledMtuDiscovery; 01, MTU search).
-- It halves the distance between a size that is known to pass and a bound above which nothing is tried. A size that is acknowledged becomes the lower
-- bound, one that is lost three times the upper bound less one; both when the next size is chosen, so between the two the state says what is to come.
-- One rule is not the Rust's: no size is probed that is known to pass, which with a minimum change of 1 or 2 the Rust does. Assumes nothing.
use Rattle.std.specs.Prelude.{ℕ, ◌+◌, ◌-◌, ◌/◌, ◌^◌, min, max, Bool, true, false, cond, ◌&&◌, ◌||◌, not, eqb, ltb, leb, Option, None, Some}
use Rattle.mtu_search.specs.declared.SearchState.{SearchState}
use Rattle.mtu_search.specs.declared.Turn.{Turn}
use Rattle.mtu_search.specs.declared.Turn.TheVariants.{Waiting, Probing, Over}

-- a search begins at the known size, capped by the peer's maximum; its upper bound is the configured one, capped too, and not below the lower
unfoldable pub begun : ℕ → ℕ → ℕ → SearchState
begun current peer top =
    record {
      lower = min current peer;
      upper = max (min current peer) (min top peer);
      last = min current peer;
      flying = false;
      probe = 0;
      lost = 0;
    }

-- the size half way between the bounds
abbrev pub half : ℕ → ℕ → ℕ
half lower upper = (lower + upper) / 2

-- |a - b|
abbrev pub distance : ℕ → ℕ → ℕ
distance a b = (a - b) + (b - a)

-- the next size after `last`, 0 for none
unfoldable pub chosen : ℕ → ℕ → ℕ → ℕ → ℕ
chosen lower upper last change =
    cond (leb change (distance (half lower upper) last))
    (cond (ltb lower (half lower upper)) (half lower upper) 0)
    (cond (leb change (upper - last)) upper 0)

-- the same as a size, if there is one
abbrev pub some_size : ℕ → Option ℕ
some_size z = cond (eqb z 0) None (Some z)

-- a probe of size x goes out as packet n, after that many losses of the same size
abbrev pub sent : ℕ → ℕ → ℕ → ℕ → ℕ → SearchState
sent lower upper x n lost = record { lower = lower; upper = upper; last = x; flying = true; probe = n; lost = lost }

unfoldable pub onward : ℕ → ℕ → ℕ → ℕ → ℕ → Turn
onward lower upper last change n =
    cond (eqb (chosen lower upper last change) 0) Over (Probing (sent lower upper (chosen lower upper last change) n 0))

-- a turn: nothing while a probe is in flight; after no loss the last size is the lower bound; after one or two it is sent again; after three it is too large
unfoldable pub turn : SearchState → ℕ → ℕ → Turn
turn s change n =
    cond s.flying Waiting
    (cond (eqb s.lost 0) (onward s.last s.upper s.last change n)
    (cond (ltb s.lost 3) (Probing (sent s.lower s.upper s.last n s.lost))
    (onward s.lower (s.last - 1) s.last change n)))

-- the probe in flight is acknowledged, or is lost
unfoldable pub acked : SearchState → SearchState
acked s = record { lower = s.lower; upper = s.upper; last = s.last; flying = false; probe = 0; lost = 0 }

unfoldable pub missed : SearchState → SearchState
missed s = record { lower = s.lower; upper = s.upper; last = s.last; flying = false; probe = 0; lost = min s.lost 2 + 1 }

-- the size that is known to pass: the last one once it is acknowledged, until then the lower bound
unfoldable pub known : SearchState → ℕ
known s = cond s.flying s.lower (cond (eqb s.lost 0) s.last s.lower)

-- a good search, under the MTU `current` and the peer's maximum
unfoldable pub good : SearchState → ℕ → ℕ → Bool
good s current peer =
    (leb 1200 s.lower && (ltb s.lower s.last && (leb s.last s.upper && leb s.upper peer)))
    && ((leb s.lost 3 && (ltb s.lost 3 || not s.flying)) && (ltb s.probe (2 ^ 62) && eqb current (known s)))
