-- The answers' numbers, for contracts and definitions to cite: the same names as the constants of src/lib.rt, which are 01's table; and the number of
-- each refusal. Assumes nothing.
use Rattle.std.specs.Prelude.{ℕ, List, codes}
use Rattle.answers.specs.declared.Refusal.{Refusal}
use Rattle.answers.specs.declared.Refusal.TheVariants.{Short, Range, Malformed, Kind, Full, Order, Flow, Final, Limit, State, Room, Retired}

abbrev pub OK : ℕ
OK = 0

abbrev pub SHORT : ℕ
SHORT = 1

abbrev pub RANGE : ℕ
RANGE = 2

abbrev pub MALFORMED : ℕ
MALFORMED = 3

abbrev pub KIND : ℕ
KIND = 4

abbrev pub FULL : ℕ
FULL = 5

abbrev pub ORDER : ℕ
ORDER = 6

abbrev pub FLOW : ℕ
FLOW = 7

abbrev pub FINAL : ℕ
FINAL = 8

abbrev pub LIMIT : ℕ
LIMIT = 9

abbrev pub STATE : ℕ
STATE = 10

abbrev pub ROOM : ℕ
ROOM = 11

abbrev pub RETIRED : ℕ
RETIRED = 12

-- the table: each refusal with its number
abbrev pub number : Refusal → ℕ
number Short = SHORT
number Range = RANGE
number Malformed = MALFORMED
number Kind = KIND
number Full = FULL
number Order = ORDER
number Flow = FLOW
number Final = FINAL
number Limit = LIMIT
number State = STATE
number Room = ROOM
number Retired = RETIRED

-- and with its name, as bytes
abbrev pub name : Refusal → List ℕ
name Short = codes "SHORT"
name Range = codes "RANGE"
name Malformed = codes "MALFORMED"
name Kind = codes "KIND"
name Full = codes "FULL"
name Order = codes "ORDER"
name Flow = codes "FLOW"
name Final = codes "FINAL"
name Limit = codes "LIMIT"
name State = codes "STATE"
name Room = codes "ROOM"
name Retired = codes "RETIRED"
