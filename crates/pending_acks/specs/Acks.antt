-- Ack recording (01, Ack recording; spaces.rs, PendingAcks): the packet numbers to acknowledge, as a range set of at most 64 ranges on a lent
-- list. `read l 0 n` is the set that l and n hold, `insert`, `covers`, `remove` and `meets` are the range set's (01, Range set).
-- Assumes nothing.
use Rattle.std.specs.Prelude.{ℕ, ◌+◌, ◌/◌, ◌^◌, Bool, true, false, cond, ◌&&◌, List, [], ◌∷◌, length, leb, ltb}
use Rattle.std.specs.Prelude.{Result, Ok, Err, Option, Some, None}
use Rattle.answers.specs.declared.Refusal.{Refusal}
use Rattle.answers.specs.declared.Refusal.TheVariants.{Range as OutOfRange, Full}
use Rattle.range_list.specs.Ranges.{Range, read, flat, over, well_formed}
use Rattle.range_edit.specs.Edits.{insert, covers, remove, meets, Done, done}
use Rattle.range_set.specs.declared.Span.{Span}
use Rattle.pending_acks.specs.declared.Recorded.{Recorded}

-- how many ranges are kept (01, Limits; spaces.rs, MAX_ACK_BLOCKS)
abbrev pub MAX_ACK_BLOCKS : ℕ
MAX_ACK_BLOCKS = 64

-- x is a packet number, and l holds a well_formed_law set of n ranges, no more than are kept: else Range
abbrev pub usable : List ℕ → ℕ → ℕ → Bool
usable l n x = ltb x (2 ^ 62) && (leb n MAX_ACK_BLOCKS && well_formed l n)

-- ---- a number is recorded

-- what the call leaves: its answer, and the memory
pub record Left : Type 0 where
  pub out : Result Recorded Refusal
  pub mem : List ℕ

abbrev pub left : Result Recorded Refusal → List ℕ → Left
left r m = record { out = r; mem = m }

abbrev pub refuse : Refusal → List ℕ → Left
refuse why l = left (Err why) l

-- the number is there already
abbrev pub stay : List ℕ → ℕ → Left
stay l n = left (Ok (record { count = n; new = false; dropped = None })) l

-- the set becomes rs, and d is dropped, where the list has the places: else Full
abbrev pub put : List Range → Option Span → List ℕ → Left
put rs d l =
    cond (leb (length rs) (length l / 2))
    (left (Ok (record { count = length rs; new = true; dropped = d })) (over (flat rs) l))
    (refuse Full l)

-- the set becomes all of rs but its lowest range, which is dropped
abbrev pub drop_lowest : List Range → List ℕ → Left
drop_lowest [] l = put [] None l
drop_lowest (r ∷ rs) l = put rs (Some (record { start = r.lo; end = r.hi })) l

-- the set becomes rs, without its lowest range where that is one range too many
abbrev pub keep : List Range → List ℕ → Left
keep rs l = cond (leb (length rs) MAX_ACK_BLOCKS) (put rs None l) (drop_lowest rs l)

unfoldable pub insert_one : List ℕ → ℕ → ℕ → Left
insert_one l n x =
    cond (usable l n x)
    (cond (covers x (x + 1) (read l 0 n)) (stay l n) (keep (insert x (x + 1) (read l 0 n)) l))
    (refuse OutOfRange l)

-- ---- all numbers up to a given one are removed

-- what is above m stays; the result never needs more places, so there is no Full
unfoldable pub subtract_below : List ℕ → ℕ → ℕ → Done
subtract_below l n m =
    cond (usable l n m)
    (cond (meets 0 (m + 1) (read l 0 n))
    (done (Ok (record { count = length (remove 0 (m + 1) (read l 0 n)); changed = true })) (over (flat (remove 0 (m + 1) (read l 0 n))) l))
    (done (Ok (record { count = n; changed = false })) l))
    (done (Err OutOfRange) l)
