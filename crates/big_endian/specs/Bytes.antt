-- The bytes of a number, the most significant first (network order: RFC 9000, section 1.3), and a buffer that starts with them. Assumes nothing.
use Rattle.std.specs.Prelude.{ℕ, zero, suc, ◌+◌, ◌*◌, ◌/◌, ◌%◌, List, [], ◌∷◌, ◌++◌, Option, Some, None, cond, ◌&&◌, length, get_or, drop, leb}

-- the n low bytes of x
abbrev pub bytes : ℕ → ℕ → List ℕ
bytes zero x = []
bytes (suc n) x = bytes n (x / 256) ++ (x % 256 ∷ [])

-- a buffer with those at its start, where it has room for them; else as it was
unfoldable pub put_bytes : ℕ → ℕ → List ℕ → List ℕ
put_bytes n x out = cond (leb n (length out)) (bytes n x ++ drop n out) out

-- the number that the first n bytes of s are
abbrev pub number_of : List ℕ → ℕ → ℕ
number_of s zero = 0
number_of s (suc n) = number_of s n * 256 + get_or s n 0

-- the same where s has so many bytes, and they are no more than eight
unfoldable pub get_bytes : ℕ → List ℕ → Option ℕ
get_bytes n s = cond (leb n (length s) && leb n 8) (Some (number_of s n)) None
