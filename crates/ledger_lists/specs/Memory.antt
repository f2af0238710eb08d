-- The lent memory of a connection: the range set's list from its start on, then the recorder's, then the table of streams. Assumes nothing.
use Rattle.std.specs.Prelude.{ℕ, ◌-◌, List, ◌++◌, take, drop}

-- where the recorder's list and the table of streams start, and where the memory ends
abbrev pub ACKS : ℕ
ACKS = 512

abbrev pub TABLE : ℕ
TABLE = 640

abbrev pub MEMORY : ℕ
MEMORY = 2432

-- the places from a up to e of a list, and the list with others in their place
abbrev pub part : ℕ → ℕ → List ℕ → List ℕ
part a e l = take (e - a) (drop a l)

abbrev pub put_part : ℕ → ℕ → List ℕ → List ℕ → List ℕ
put_part a e l ys = take a l ++ (ys ++ drop (e - a) (drop a l))
