-- A string of bytes as hexadecimal digits, two to a byte, the higher first, in either case; `-` is the empty one. Assumes nothing.
use Rattle.std.specs.Prelude.{ℕ, ◌+◌, ◌-◌, ◌*◌, List, [], ◌∷◌, Bool, true, false, cond, ◌&&◌, Option, Some, None, Result, Ok, Err, length, ltb, leb, eqb}
use Rattle.std.specs.List.{list_all}
use Rattle.std.specs.Option.{is_some}
use Rattle.std.proofs.lemmas.List.Edits.{sets}
use Rattle.text.specs.declared.Word.{Word}
use Rattle.text.specs.declared.NoBytes.{NoBytes}
use Rattle.text.specs.declared.NoBytes.TheVariants.{NotHex, NoRoom}
use Rattle.text.specs.declared.Bytes.{Bytes}
use Rattle.text.specs.Words.{word_at, spelt, same}

-- the value of a digit, or 16
unfoldable pub hex_value : ℕ → ℕ
hex_value b =
    cond (ltb b 48) 16
    (cond (leb b 57) (b - 48)
    (cond (ltb b 65) 16 (cond (leb b 70) (b - 55) (cond (ltb b 97) 16 (cond (leb b 102) (b - 87) 16)))))

-- the value of a byte that is a digit
abbrev pub hex_digit : ℕ → Option ℕ
hex_digit b =
    cond (ltb b 48) None
    (cond (leb b 57) (Some (b - 48))
    (cond (ltb b 65) None (cond (leb b 70) (Some (b - 55)) (cond (ltb b 97) None (cond (leb b 102) (Some (b - 87)) None)))))

-- whether s is digits only
abbrev pub all_hex : List ℕ → Bool
all_hex s = list_all (λ b. is_some (hex_digit b)) s

-- whether s is digits only, and an even number of them
unfoldable pub is_hex : List ℕ → Bool
is_hex [] = true
is_hex (a ∷ []) = false
is_hex (a ∷ b ∷ s) = ltb (hex_value a) 16 && (ltb (hex_value b) 16 && is_hex s)

-- the bytes that digits spell
unfoldable pub unhexed : List ℕ → List ℕ
unhexed [] = []
unhexed (a ∷ []) = []
unhexed (a ∷ b ∷ s) = (hex_value a * 16 + hex_value b) ∷ unhexed s

-- an answer, and what is left in the lent buffer
pub record Done (A : Type 0) : Type 0 where
  pub out : A
  pub mem : List ℕ

abbrev pub done : {A : Type 0} → A → List ℕ → Done A
done r m = record { out = r; mem = m }

-- the bytes that s spells go to `at` and behind it; what spells none, or has no room, leaves all as it was
unfoldable pub unhex_at : List ℕ → List ℕ → ℕ → Done (Result ℕ NoBytes)
unhex_at s out at =
    cond (is_hex s)
    (cond (leb (at + length (unhexed s)) (length out)) (done (Ok (at + length (unhexed s))) (sets out at (unhexed s))) (done (Err NoRoom) out))
    (done (Err NotHex) out)

-- what the word w says, once it is read
abbrev pub bytes_in : Word → Done (Result ℕ NoBytes) → Done Bytes
bytes_in w d = done (bytes_of w d.out) d.mem where
  bytes_of : Word → Result ℕ NoBytes → Bytes
  bytes_of w (Ok n) = record { end = Some n; next = w.end }
  bytes_of w (Err e) = record { end = None; next = w.start }

-- the digits of a word: none for `-`, and of no word what is no byte string
abbrev pub digits_of : List ℕ → List ℕ
digits_of s = cond (same s (45 ∷ [])) [] s

-- the byte string of the next word from a place on
unfoldable pub bytes_at : List ℕ → ℕ → List ℕ → ℕ → Done Bytes
bytes_at s at out to =
    cond (eqb (word_at s at).start (word_at s at).end)
    (done (record { end = None; next = (word_at s at).start }) out)
    (bytes_in (word_at s at) (unhex_at (digits_of (spelt s (word_at s at))) out to))
