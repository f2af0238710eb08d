-- The ACK frame of RFC 9000, section 19.3, as a grammar: which fields a frame has, which of them are legal, in which bytes they stand, and which
-- numbers they acknowledge. Nothing here says in which order a reader works. A set of numbers is the list of its ranges; here, as in a frame, the
-- highest range comes first, and `reverse` makes it the ascending list of range_list's model.
-- Assumes nothing.
use Rattle.std.specs.Prelude.{ℕ, ◌+◌, ◌-◌, ◌≤◌, ◌<◌, ◌≡◌, List, [], ◌∷◌, ◌++◌, length}
use Rattle.varint.specs.Varint.{form, Fits, log_of}
use Rattle.range_list.specs.Ranges.{Range}

-- An integer as it stands in a frame: the number, and the logarithm of the length that it stands in, not always the shortest (section 16).
pub record Coded : Type 0 where
  pub value : ℕ
  pub log : ℕ

abbrev pub bytes_of : Coded → List ℕ
bytes_of c = form c.log c.value

abbrev pub FitsIn : Coded → Type 0
FitsIn c = Fits c.log c.value

-- Section 19.3.1: a gap and a length.
pub record Pair : Type 0 where
  pub gap : Coded
  pub len : Coded

-- The fields behind the type, in the frame's order.
pub record Frame : Type 0 where
  pub largest : Coded
  pub delay : Coded
  pub count : Coded
  pub first : Coded
  pub pairs : List Pair

abbrev pub pairs_bytes : List Pair → List ℕ
pairs_bytes [] = []
pairs_bytes (p ∷ ps) = bytes_of p.gap ++ (bytes_of p.len ++ pairs_bytes ps)

-- The frame's bytes: type 02, the fields, the pairs.
abbrev pub frame_bytes : Frame → List ℕ
frame_bytes g =
    2 ∷ (bytes_of g.largest ++ (bytes_of g.delay ++ (bytes_of g.count ++ (bytes_of g.first ++ pairs_bytes g.pairs))))

-- Below a range whose smallest number is low, the next largest is low - gap - 2, and the next smallest that less the length.
abbrev pub next_low : ℕ → Pair → ℕ
next_low low p = low - (p.gap.value + 2) - p.len.value

abbrev pub ranges_below : ℕ → List Pair → List Range
ranges_below low [] = []
ranges_below low (p ∷ ps) = record { lo = next_low low p; hi = low - (p.gap.value + 2) + 1 } ∷ ranges_below (next_low low p) ps

-- None of these is below zero.
abbrev pub LegalBelow : ℕ → List Pair → Type 0
LegalBelow low [] = Unit
LegalBelow low (p ∷ ps) =
    FitsIn p.gap × (FitsIn p.len × ((p.gap.value + 2 + p.len.value ≤ low) × LegalBelow (next_low low p) ps))

-- The first range's smallest number is largest - first.
abbrev pub low_of : Frame → ℕ
low_of g = g.largest.value - g.first.value

-- The set that a frame acknowledges, the highest range first.
abbrev pub ranges_of : Frame → List Range
ranges_of g = record { lo = low_of g; hi = g.largest.value + 1 } ∷ ranges_below (low_of g) g.pairs

-- Each integer fits its length, the count is that of the pairs, and no number is below zero.
pub record Legal (g : Frame) : Type 0 where
  pub largest_fits : FitsIn g.largest
  pub delay_fits : FitsIn g.delay
  pub count_fits : FitsIn g.count
  pub first_fits : FitsIn g.first
  pub counted : g.count.value ≡ length g.pairs
  pub first_low : g.first.value ≤ g.largest.value
  pub pairs_low : LegalBelow (low_of g) g.pairs

-- An integer in its shortest form, and frames of which all are.
abbrev pub short : ℕ → Coded
short v = record { value = v; log = log_of v }

abbrev pub Shortest : Coded → Type 0
Shortest c = c.log ≡ log_of c.value

abbrev pub ShortBelow : List Pair → Type 0
ShortBelow [] = Unit
ShortBelow (p ∷ ps) = Shortest p.gap × (Shortest p.len × ShortBelow ps)

pub record ShortFrame (g : Frame) : Type 0 where
  pub short_largest : Shortest g.largest
  pub short_delay : Shortest g.delay
  pub short_count : Shortest g.count
  pub short_first : Shortest g.first
  pub short_pairs : ShortBelow g.pairs

-- A set as a frame can hold it: the highest range first, each below top with a number missing between, none empty.
abbrev pub Descends : ℕ → List Range → Type 0
Descends top [] = Unit
Descends top (r ∷ rs) = (r.lo < r.hi) × ((r.hi < top) × Descends r.lo rs)

-- The frame of a set, each integer in its shortest form: of the range r and those below it, the highest first.
abbrev pub pairs_for : ℕ → List Range → List Pair
pairs_for low [] = []
pairs_for low (r ∷ rs) = record { gap = short (low - r.hi - 1); len = short (r.hi - 1 - r.lo) } ∷ pairs_for r.lo rs

abbrev pub frame_for : Range → List Range → ℕ → Frame
frame_for r rs delay =
    record {
      largest = short (r.hi - 1);
      delay = short delay;
      count = short (length rs);
      first = short (r.hi - 1 - r.lo);
      pairs = pairs_for r.lo rs;
    }

-- Its bytes; an empty set has no frame.
unfoldable pub frame_of : List Range → ℕ → List ℕ
frame_of [] delay = []
frame_of (r ∷ rs) delay = frame_bytes (frame_for r rs delay)
