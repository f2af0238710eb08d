-- Packet numbers in a header: RFC 9000, section 17.1, and 01, "Packet numbers".
-- Writing goes by the text of 17.1 (more than twice the distance), and not by A.2's pseudocode, which takes one byte at distance 128.
-- Reading goes by A.3, term by term. A.3's differences may be below zero, so each of its comparisons is written here as one of sums.
-- Assumes nothing.
use Rattle.std.specs.Prelude.{ℕ, ◌+◌, ◌-◌, ◌*◌, ◌/◌, ◌%◌, ◌^◌, ◌<◌, ◌≤◌, ◌≡◌, Bool, cond, ◌&&◌, ◌⊎◌, List, ◌++◌, Result, Ok, Err, length, drop, ltb, leb}
use Rattle.answers.specs.declared.Refusal.{Refusal}
use Rattle.answers.specs.declared.Refusal.TheVariants.{Short, Range, Room}
use Rattle.big_endian.specs.Bytes.{bytes, number_of}
use Rattle.packet_number.specs.declared.Encoded.{Encoded}

-- packet numbers are below this (section 12.3; 01, "Limits")
abbrev pub limit : ℕ
limit = 2 ^ 62

-- ---- writing
-- how far the number sent is from the largest acknowledged one; with nothing acknowledged, that one is 0 (01)
unfoldable pub distance : ℕ → ℕ → ℕ
distance number acked = number - acked

-- 01's refusals: not packet numbers, in the wrong order, or further apart than 2 ^ 31 - 1
unfoldable pub writable : ℕ → ℕ → Bool
writable number acked = leb acked number && (ltb number limit && (ltb acked limit && ltb (distance number acked) (2 ^ 31)))

-- how many numbers k bytes represent
unfoldable pub window : ℕ → ℕ
window k = 256 ^ k

-- 17.1: k bytes represent more than twice as large a range as the distance d
abbrev pub enough : ℕ → ℕ → Bool
enough d k = ltb (2 * d) (window k)

-- the fewest bytes, 1 to 4, that are enough (proofs/Shortest.antt: they are, and no fewer are)
unfoldable pub fewest : ℕ → ℕ
fewest d = cond (enough d 1) 1 (cond (enough d 2) 2 (cond (enough d 3) 3 4))

-- how many bytes a number is written in
abbrev pub len_of : ℕ → ℕ → ℕ
len_of number acked = fewest (distance number acked)

-- 17.1: only the least significant bits are included
abbrev pub taken : ℕ → ℕ → Encoded
taken len number = record { len = len; value = number % window len }

-- what `new` answers
unfoldable pub new_of : ℕ → ℕ → Result Encoded Refusal
new_of number acked = cond (writable number acked) (Ok (taken (len_of number acked) number)) (Err Range)

-- what a call that writes comes to: its answer, and the memory it leaves
pub record Done : Type 0 where
  pub out : Result Encoded Refusal
  pub mem : List ℕ

abbrev pub done : Result Encoded Refusal → List ℕ → Done
done r m = record { out = r; mem = m }

-- k bytes of the number at the start of out, where it has room for them
abbrev pub put_of : ℕ → List ℕ → ℕ → Done
put_of k out number = cond (leb k (length out)) (done (Ok (taken k number)) (bytes k number ++ drop k out)) (done (Err Room) out)

-- what `encode` answers and leaves: RANGE before ROOM, and a refusal leaves the buffer as it was
unfoldable pub encode_of : List ℕ → ℕ → ℕ → Done
encode_of out number acked = cond (writable number acked) (put_of (len_of number acked) out number) (done (Err Range) out)

-- ---- reading
-- the number that the first k bytes of s are, the highest first
abbrev pub digits : List ℕ → ℕ → ℕ
digits = number_of

-- A.3: the expected number with its low bits, those below win, replaced by the truncated ones
abbrev pub candidate : ℕ → ℕ → ℕ → ℕ
candidate expected win truncated = expected - expected % win + truncated

-- A.3's first test: half a window or more below what is expected, and one window up is a packet number still
abbrev pub too_low : ℕ → ℕ → ℕ → Bool
too_low expected win c = leb (c + win / 2) expected && ltb (c + win) limit

-- A.3's second test: more than half a window above what is expected, and one window down is not below zero
abbrev pub too_high : ℕ → ℕ → ℕ → Bool
too_high expected win c = ltb (expected + win / 2) c && leb win c

-- A.3's result, from its candidate
unfoldable pub moved : ℕ → ℕ → ℕ → ℕ
moved expected win c = cond (too_low expected win c) (c + win) (cond (too_high expected win c) (c - win) c)

-- A.3, from what is expected
unfoldable pub choice : ℕ → ℕ → ℕ → ℕ
choice expected win truncated = moved expected win (candidate expected win truncated)

-- a result past the last packet number is refused (01)
abbrev pub found : ℕ → Result ℕ Refusal
found number = cond (ltb number limit) (Ok number) (Err Range)

-- 01's limits on the arguments
abbrev pub readable : ℕ → ℕ → Bool
readable len largest = leb 1 len && (leb len 4 && ltb largest limit)

-- what `expand` answers: RANGE on arguments, then SHORT, then A.3; the number expected is the largest received and one
unfoldable pub expand_of : List ℕ → ℕ → ℕ → Result ℕ Refusal
expand_of s len largest =
    cond (readable len largest)
    (cond (leb len (length s)) (found (choice (largest + 1) (window len) (digits s len))) (Err Short))
    (Err Range)

-- ---- what reading is for
-- A.3's window and its guards: more than what is expected less half a window, unless one window up is no packet number; and no more than
-- what is expected and half a window, unless one window down is below zero
pub record InWindow (expected win v : ℕ) : Type 0 where
  pub not_low : v + win < limit → expected < v + win / 2
  pub not_high : win ≤ v → v ≤ expected + win / 2

-- how far two numbers are apart
abbrev pub apart : ℕ → ℕ → ℕ
apart a b = (a - b) + (b - a)

-- v is nearer to what is expected than m, or as near and not below it
abbrev pub Nearer : ℕ → ℕ → ℕ → Type 0
Nearer expected v m = (apart v expected < apart m expected) ⊎ ((apart v expected ≡ apart m expected) × (m ≤ v))

-- v is the packet number that ends in the truncated bits and is nearest to the expected one; of two equally near, the higher
pub record Nearest (expected win truncated v : ℕ) : Type 0 where
  pub number : v < limit
  pub low_bits : v % win ≡ truncated
  pub nearest : (m : ℕ) → m < limit → m % win ≡ truncated → Nearer expected v m
