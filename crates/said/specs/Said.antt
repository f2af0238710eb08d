-- An answer with its values, as the programs keep it. Assumes nothing.
use Rattle.std.specs.Prelude.{ℕ, Bool, true, false}
use Rattle.said.specs.declared.Said.{Said}

abbrev pub said_plain : ℕ → Said
said_plain answer = record { answer = answer; count = 0; a = 0; b = 0; c = 0 }

abbrev pub said_number : ℕ → ℕ → Said
said_number answer x = record { answer = answer; count = 1; a = x; b = 0; c = 0 }

abbrev pub said_two : ℕ → ℕ → ℕ → Said
said_two answer x y = record { answer = answer; count = 2; a = x; b = y; c = 0 }

abbrev pub said_three : ℕ → ℕ → ℕ → ℕ → Said
said_three answer x y z = record { answer = answer; count = 3; a = x; b = y; c = z }

-- 1 for yes, 0 for no
abbrev pub bit_of : Bool → ℕ
bit_of true = 1
bit_of false = 0
