-- The worked examples of RFC 9000, section A.1, and of 01, and the edges of each length: the definitions compute.
use Prim.Native.Nat.{◌-◌, ◌^◌}
use mathlib.Core.Path.{◌≡◌, refl}
use mathlib.Core.List.{[], ◌∷◌}
use Rattle.std.specs.Prelude.{Ok, Err}
use Rattle.answers.specs.declared.Refusal.TheVariants.{Short, Range, Room}
use Rattle.varint.specs.Varint.{width, log_of, read_varint, read_at, size_of, form, encode, done, write_varint, decoded}

pub reads_7b_bd : read_varint (0x7b ∷ 0xbd ∷ []) ≡ Ok (decoded 15293 2)
unfolding read_varint width
reads_7b_bd = refl

pub reads_9d_7f_3e_7d : read_varint (0x9d ∷ 0x7f ∷ 0x3e ∷ 0x7d ∷ []) ≡ Ok (decoded 494878333 4)
unfolding read_varint width
reads_9d_7f_3e_7d = refl

pub reads_c2_19_7c_5e_ff_14_e8_8c : read_varint (0xc2 ∷ 0x19 ∷ 0x7c ∷ 0x5e ∷ 0xff ∷ 0x14 ∷ 0xe8 ∷ 0x8c ∷ []) ≡ Ok (decoded 151288809941952652 8)
unfolding read_varint width
reads_c2_19_7c_5e_ff_14_e8_8c = refl

-- one number, in one byte and in two
pub reads_25 : read_varint (0x25 ∷ []) ≡ Ok (decoded 37 1)
unfolding read_varint width
reads_25 = refl

pub reads_40_25 : read_varint (0x40 ∷ 0x25 ∷ []) ≡ Ok (decoded 37 2)
unfolding read_varint width
reads_40_25 = refl

-- the input ends inside the integer, or before it
pub short_40 : read_varint (0x40 ∷ []) ≡ Err Short
unfolding read_varint width
short_40 = refl

pub short_empty : read_varint [] ≡ Err Short
unfolding read_varint width
short_empty = refl

-- at a position: within, at the end, past it
pub reads_at_1 : read_at (0xff ∷ 0x7b ∷ 0xbd ∷ []) 1 ≡ Ok (decoded 15293 2)
unfolding read_at read_varint width
reads_at_1 = refl

pub short_at_end : read_at (0x25 ∷ []) 1 ≡ Err Short
unfolding read_at read_varint width
short_at_end = refl

pub short_past_end : read_at (0x25 ∷ []) 7 ≡ Err Short
unfolding read_at read_varint width
short_past_end = refl

-- the edges of the four lengths
pub size_63 : size_of 63 ≡ 1
unfolding size_of log_of
size_63 = refl

pub size_64 : size_of 64 ≡ 2
unfolding size_of log_of
size_64 = refl

pub size_16383 : size_of 16383 ≡ 2
unfolding size_of log_of
size_16383 = refl

pub size_16384 : size_of 16384 ≡ 4
unfolding size_of log_of
size_16384 = refl

pub size_2^30-1 : size_of (2 ^ 30 - 1) ≡ 4
unfolding size_of log_of
size_2^30-1 = refl

pub size_2^30 : size_of (2 ^ 30) ≡ 8
unfolding size_of log_of
size_2^30 = refl

pub size_2^62-1 : size_of (2 ^ 62 - 1) ≡ 8
unfolding size_of log_of
size_2^62-1 = refl

pub size_2^62 : size_of (2 ^ 62) ≡ 0
unfolding size_of log_of
size_2^62 = refl

pub writes_15293 : encode 15293 ≡ 0x7b ∷ 0xbd ∷ []
unfolding encode form log_of
writes_15293 = refl

-- 37 in one byte alone, and what stood behind it as it was
pub writes_37 : write_varint (9 ∷ 9 ∷ []) 37 ≡ done (Ok 1) (0x25 ∷ 9 ∷ [])
unfolding write_varint encode form log_of
writes_37 = refl

pub writes_2^62_less_1 : encode (2 ^ 62 - 1) ≡ 0xff ∷ 0xff ∷ 0xff ∷ 0xff ∷ 0xff ∷ 0xff ∷ 0xff ∷ 0xff ∷ []
unfolding encode form log_of
writes_2^62_less_1 = refl

-- RANGE before ROOM
pub refuses_2^62 : write_varint [] (2 ^ 62) ≡ done (Err Range) []
unfolding write_varint
refuses_2^62 = refl

pub refuses_64_in_one : write_varint (9 ∷ []) 64 ≡ done (Err Room) (9 ∷ [])
unfolding write_varint log_of
refuses_64_in_one = refl
