-- Worked words: the numbers at the end of 64 bits, what is none, and byte strings. By computing. Assumes nothing.
use mathlib.Core.Path.{◌≡◌, refl}
use mathlib.Core.List.{[], ◌∷◌}
use Rattle.std.specs.Prelude.{Some, None, Ok, Err}
use Rattle.text.specs.declared.NoBytes.TheVariants.{NotHex, NoRoom}
use Rattle.text.specs.Words.{word_at, skipped, ended, unnoted}
use Rattle.text.specs.Numbers.{number_of}
use Rattle.text.specs.Bytes.{hex_value, is_hex, unhexed, unhex_at, done}

-- 2^64 - 1 is a number
pub largest : number_of (49 ∷ 56 ∷ 52 ∷ 52 ∷ 54 ∷ 55 ∷ 52 ∷ 52 ∷ 48 ∷ 55 ∷ 51 ∷ 55 ∷ 48 ∷ 57 ∷ 53 ∷ 53 ∷ 49 ∷ 54 ∷ 49 ∷ 53 ∷ []) ≡ Some 18446744073709551615
largest = refl

-- 2^64 is none
pub too_large : number_of (49 ∷ 56 ∷ 52 ∷ 52 ∷ 54 ∷ 55 ∷ 52 ∷ 52 ∷ 48 ∷ 55 ∷ 51 ∷ 55 ∷ 48 ∷ 57 ∷ 53 ∷ 53 ∷ 49 ∷ 54 ∷ 49 ∷ 54 ∷ []) ≡ None
too_large = refl

-- zeros in front change nothing
pub zeros : number_of (48 ∷ 48 ∷ 55 ∷ []) ≡ Some 7
zeros = refl

-- a word with a letter is none
pub no_number : number_of (55 ∷ 120 ∷ []) ≡ None
no_number = refl

-- no word is none
pub no_digits : number_of [] ≡ None
no_digits = refl

-- 00fF is the bytes 0 and 255, behind the one that stands there
pub two_bytes : unhex_at (48 ∷ 48 ∷ 102 ∷ 70 ∷ []) (9 ∷ 9 ∷ 9 ∷ []) 1 ≡ done (Ok 3) (9 ∷ 0 ∷ 255 ∷ [])
unfolding unhex_at is_hex unhexed hex_value
two_bytes = refl

-- an odd number of digits is no byte string
pub odd : unhex_at (48 ∷ 48 ∷ 102 ∷ []) (9 ∷ 9 ∷ []) 0 ≡ done (Err NotHex) (9 ∷ 9 ∷ [])
unfolding unhex_at is_hex unhexed hex_value
odd = refl

-- two bytes have no room in one
pub no_room : unhex_at (48 ∷ 48 ∷ 102 ∷ 102 ∷ []) (9 ∷ []) 0 ≡ done (Err NoRoom) (9 ∷ [])
unfolding unhex_at is_hex unhexed hex_value
no_room = refl

-- a b#c is a line with two words
pub second_word : word_at (32 ∷ 97 ∷ 32 ∷ 98 ∷ 35 ∷ 99 ∷ []) 2 ≡ record { start = 3; end = 6 }
unfolding word_at skipped ended
second_word = refl

pub note_off : unnoted (97 ∷ 32 ∷ 98 ∷ 35 ∷ 99 ∷ []) ≡ 97 ∷ 32 ∷ 98 ∷ []
unfolding unnoted
note_off = refl
