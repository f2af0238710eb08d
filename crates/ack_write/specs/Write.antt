-- What writing an ACK frame answers and leaves (01, ACK frame; RFC 9000, section 19.3): the bytes of the grammar's frame of the set, with every
-- integer in its shortest form. The set is a flat list with a count, as range_list holds it.
-- Assumes nothing.
use Rattle.std.specs.Prelude.{ℕ, ◌+◌, ◌^◌, List, ◌∷◌, ◌++◌, reverse, Result, Ok, Err, cond, ◌&&◌, length, take, drop, leb, ltb}
use Rattle.answers.specs.declared.Refusal.{Refusal}
use Rattle.answers.specs.declared.Refusal.TheVariants.{Range, Room}
use Rattle.varint.specs.Varint.{encode}
use Rattle.range_list.specs.Ranges.{read, over, well_formed}
use Rattle.ack_frame.specs.Grammar.{pairs_bytes, pairs_for, Descends, frame_of}

-- bs at `at`, in place of what stood there
unfoldable pub put : List ℕ → ℕ → List ℕ → List ℕ
put l at bs = take at l ++ (bs ++ drop (at + length bs) l)

-- The pairs of the n lowest ranges of a list, below a range whose smallest number is low; and that those ranges are in order.
unfoldable pub pairs_of : List ℕ → ℕ → ℕ → List ℕ
pairs_of l n low = pairs_bytes (pairs_for low (reverse (read l 0 n)))

unfoldable pub Ordered : List ℕ → ℕ → ℕ → Type 0
Ordered l n low = Descends low (reverse (read l 0 n))

-- The type and the four fields behind it.
unfoldable pub head_bytes : ℕ → ℕ → ℕ → ℕ → List ℕ
head_bytes largest delay count first = 2 ∷ (encode largest ++ (encode delay ++ (encode count ++ encode first)))

-- An outcome of writing: the answer, and what the buffer then holds.
pub record Done : Type 0 where
  pub out : Result ℕ Refusal
  pub mem : List ℕ

abbrev pub done : Result ℕ Refusal → List ℕ → Done
done r m = record { out = r; mem = m }

-- bs at the start of a buffer, or ROOM
unfoldable pub fitted : List ℕ → List ℕ → Done
fitted out bs = cond (leb (length bs) (length out)) (done (Ok (length bs)) (over bs out)) (done (Err Room) out)

-- RANGE for an empty or ill-formed set or a delay that is no varint, then ROOM, then the frame at the start with what was behind it as it was.
unfoldable pub write_ack : List ℕ → List ℕ → ℕ → ℕ → Done
write_ack out l count delay =
    cond (ltb 0 count && (ltb delay (2 ^ 62) && well_formed l count)) (fitted out (frame_of (reverse (read l 0 count)) delay)) (done (Err Range) out)
