-- The variable-length integer of RFC 9000, section 16 (01, Varint). A number below 2 ^ 62 stands in 1, 2, 4 or 8 bytes, the most significant
-- first; the top two bits of the first byte are the base-2 logarithm of that length, and the other bits are the number. A reader takes every
-- length; a writer takes the least that holds the number. Bytes are numbers, and a buffer is the list of its bytes.
-- Assumes nothing.
use Rattle.std.specs.Prelude.{ℕ, zero, suc, ◌+◌, ◌-◌, ◌*◌, ◌/◌, ◌%◌, ◌^◌, ◌<◌, ◌≤◌, List, ◌++◌, Result, Ok, Err, cond, length, get_or, drop, ltb, leb}
use Rattle.answers.specs.declared.Refusal.{Refusal}
use Rattle.answers.specs.declared.Refusal.TheVariants.{Short, Range, Room}
use Rattle.big_endian.specs.Bytes.{bytes}
use Rattle.varint.specs.declared.Decoded.{Decoded}

-- The length by the first byte: its top two bits are the logarithm.
unfoldable pub width : ℕ → ℕ
width b = 2 ^ (b / 64)

-- The number that the first n + 1 bytes hold, without the top two bits of the first.
abbrev pub digits : List ℕ → ℕ → ℕ
digits s zero = get_or s 0 0 % 64
digits s (suc n) = digits s n * 256 + get_or s (suc n) 0

abbrev pub decoded : ℕ → ℕ → Decoded
decoded v n = record { value = v; len = n }

-- A whole integer at the start of s, in whatever length, or SHORT.
unfoldable pub read_varint : List ℕ → Result Decoded Refusal
read_varint s =
    cond (leb (width (get_or s 0 0)) (length s))
    (Ok (decoded (digits s (width (get_or s 0 0) - 1)) (width (get_or s 0 0))))
    (Err Short)

-- The same at a position: past the end nothing stands.
unfoldable pub read_at : List ℕ → ℕ → Result Decoded Refusal
read_at s at = read_varint (drop at s)

-- What a reader's caller goes on with: the value is below 2 ^ 62, and its bytes are there.
abbrev pub sound : List ℕ → Result Decoded Refusal → Type 0
sound s (Ok d) = (d.value < 2 ^ 62) × ((1 ≤ d.len) × (d.len ≤ length s))
sound s (Err w) = Unit

abbrev pub sound_at : List ℕ → ℕ → Result Decoded Refusal → Type 0
sound_at s at (Ok d) = (d.value < 2 ^ 62) × ((1 ≤ d.len) × (at + d.len ≤ length s))
sound_at s at (Err w) = Unit

-- The logarithm of the shortest length that holds v, below 2 ^ 62: 6, 14, 30 or 62 bits are usable.
unfoldable pub log_of : ℕ → ℕ
log_of v = cond (ltb v (2 ^ 6)) 0 (cond (ltb v (2 ^ 14)) 1 (cond (ltb v (2 ^ 30)) 2 3))

-- The shortest length.
abbrev pub len_of : ℕ → ℕ
len_of v = 2 ^ log_of v

-- The same of any number: one that is no varint has no form, so 0.
unfoldable pub size_of : ℕ → ℕ
size_of v = cond (ltb v (2 ^ 62)) (len_of v) 0

-- v with the logarithm in the top two bits of as many bytes.
abbrev pub marked : ℕ → ℕ
marked v = log_of v * 2 ^ (8 * len_of v - 2) + v

-- v in 2 ^ k bytes: k in their top two bits, v in the others. A number may stand in any length that it fits.
unfoldable pub form : ℕ → ℕ → List ℕ
form k v = bytes (2 ^ k) (k * 2 ^ (8 * 2 ^ k - 2) + v)

abbrev pub Fits : ℕ → ℕ → Type 0
Fits k v = (k ≤ 3) × (v < 2 ^ (8 * 2 ^ k - 2))

-- The shortest form of v.
unfoldable pub encode : ℕ → List ℕ
encode v = form (log_of v) v

-- An outcome of writing: the answer, and what the buffer then holds.
pub record Done : Type 0 where
  pub out : Result ℕ Refusal
  pub mem : List ℕ

abbrev pub done : Result ℕ Refusal → List ℕ → Done
done r m = record { out = r; mem = m }

-- RANGE before ROOM, and then the shortest form stands at the start with what was behind it as it was.
unfoldable pub write_varint : List ℕ → ℕ → Done
write_varint out v =
    cond (ltb v (2 ^ 62))
    (cond (leb (len_of v) (length out)) (done (Ok (len_of v)) (encode v ++ drop (len_of v) out)) (done (Err Room) out))
    (done (Err Range) out)
