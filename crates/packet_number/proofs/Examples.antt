-- 01's cases and RFC 9000's examples (appendix A.2 and A.3), and the edges of the definitions: each computes.
use mathlib.Core.Path.{◌≡◌, refl}
use mathlib.Core.List.{[], ◌∷◌}
use Rattle.std.specs.Prelude.{Ok, Err}
use Rattle.answers.specs.declared.Refusal.TheVariants.{Short, Range, Room}
use Rattle.packet_number.specs.PacketNumber.{distance, writable, window, fewest, new_of, done, encode_of, moved, choice, expand_of}

-- ---- writing
-- at distance 127 one byte represents more than twice as many numbers, at 128 it does not
pub difference_127 : new_of 127 0 ≡ Ok (record { len = 1; value = 127 })
unfolding new_of writable distance fewest window
difference_127 = refl

pub difference_128 : new_of 128 0 ≡ Ok (record { len = 2; value = 128 })
unfolding new_of writable distance fewest window
difference_128 = refl

-- the same two, wherever the acknowledged number is
pub later_127 : new_of 1127 1000 ≡ Ok (record { len = 1; value = 103 })
unfolding new_of writable distance fewest window
later_127 = refl

pub later_128 : new_of 1128 1000 ≡ Ok (record { len = 2; value = 1128 })
unfolding new_of writable distance fewest window
later_128 = refl

-- the edges between two and three bytes, and between three and four
pub edge_2 : fewest 32767 ≡ 2
unfolding fewest window
edge_2 = refl

pub edge_3 : fewest 32768 ≡ 3
unfolding fewest window
edge_3 = refl

pub edge_4 : fewest 8388608 ≡ 4
unfolding fewest window
edge_4 = refl

-- 0xac5c02 after 0xabe8b3 takes two bytes
pub sends_ac5c02 : encode_of (0 ∷ 0 ∷ 0 ∷ []) 0xac5c02 0xabe8b3 ≡ done (Ok (record { len = 2; value = 0x5c02 })) (0x5c ∷ 0x02 ∷ 0 ∷ [])
unfolding encode_of writable distance fewest window
sends_ac5c02 = refl

-- 0xace8fe in the same state takes three
pub sends_ace8fe : encode_of (0 ∷ 0 ∷ 0 ∷ []) 0xace8fe 0xabe8b3 ≡ done (Ok (record { len = 3; value = 0xace8fe })) (0xac ∷ 0xe8 ∷ 0xfe ∷ [])
unfolding encode_of writable distance fewest window
sends_ace8fe = refl

-- ... and has no room in two, which stay as they were
pub no_room : encode_of (7 ∷ 8 ∷ []) 0xace8fe 0xabe8b3 ≡ done (Err Room) (7 ∷ 8 ∷ [])
unfolding encode_of writable distance fewest window
no_room = refl

-- the largest distance, and the refusals: too far, in the wrong order, past the last packet number; RANGE even where there is no room
pub farthest : new_of 2147483647 0 ≡ Ok (record { len = 4; value = 2147483647 })
unfolding new_of writable distance fewest window
farthest = refl

pub too_far : new_of 2147483648 0 ≡ Err Range
unfolding new_of writable distance
too_far = refl

pub wrong_order : new_of 4 5 ≡ Err Range
unfolding new_of writable distance
wrong_order = refl

pub past_limit : new_of 4611686018427387904 4611686018427387903 ≡ Err Range
unfolding new_of writable distance
past_limit = refl

pub range_first : encode_of [] 4 5 ≡ done (Err Range) []
unfolding encode_of writable distance
range_first = refl

-- ---- reading
-- 9b32 after 0xa82f30ea
pub reads_a82f9b32 : expand_of (0x9b ∷ 0x32 ∷ []) 2 0xa82f30ea ≡ Ok 0xa82f9b32
unfolding expand_of choice moved window
reads_a82f9b32 = refl

-- a tie goes up: 0 and 256 are equally far from the expected 128
pub tie_up : expand_of (0 ∷ []) 1 127 ≡ Ok 256
unfolding expand_of choice moved window
tie_up = refl

-- near zero there is nothing below to take: 255 after 0
pub near_zero : expand_of (255 ∷ []) 1 0 ≡ Ok 255
unfolding expand_of choice moved window
near_zero = refl

-- near 2 ^ 62 there is nothing above to take: 0 after 2 ^ 62 - 129 is 2 ^ 62 - 256
pub near_limit : expand_of (0 ∷ []) 1 4611686018427387775 ≡ Ok 4611686018427387648
unfolding expand_of choice moved window
near_limit = refl

-- after the last packet number the nearest may be past it
pub after_last : expand_of (0 ∷ []) 1 4611686018427387903 ≡ Err Range
unfolding expand_of choice moved window
after_last = refl

pub before_last : expand_of (0x81 ∷ []) 1 4611686018427387903 ≡ Ok 4611686018427387777
unfolding expand_of choice moved window
before_last = refl

-- the refusals: a length of 0 or 5, a largest that is no packet number, missing bytes; RANGE before SHORT
pub no_length : expand_of (1 ∷ []) 0 0 ≡ Err Range
unfolding expand_of
no_length = refl

pub long_length : expand_of [] 5 0 ≡ Err Range
unfolding expand_of
long_length = refl

pub no_largest : expand_of [] 1 4611686018427387904 ≡ Err Range
unfolding expand_of
no_largest = refl

pub cut_short : expand_of (1 ∷ 2 ∷ []) 3 0 ≡ Err Short
unfolding expand_of
cut_short = refl
