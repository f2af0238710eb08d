-- 01's set written, and one set for each refusal: the definitions compute.
use Prim.Native.Nat.{ℕ, ◌^◌}
use mathlib.Core.Path.{◌≡◌, refl}
use mathlib.Core.List.{List, [], ◌∷◌}
use Rattle.std.specs.Prelude.{Ok, Err}
use Rattle.answers.specs.declared.Refusal.TheVariants.{Range, Room}
use Rattle.varint.specs.Varint.{form, log_of}
use Rattle.ack_frame.specs.Grammar.{frame_of}
use Rattle.ack_write.specs.Write.{done, fitted, write_ack}

-- {0 to 3, 5, 8 to 9}
abbrev three : List ℕ
three = 0 ∷ 4 ∷ 5 ∷ 6 ∷ 8 ∷ 10 ∷ []

-- ten places, of which the last is left as it was
abbrev ten : List ℕ
ten = 7 ∷ 7 ∷ 7 ∷ 7 ∷ 7 ∷ 7 ∷ 7 ∷ 7 ∷ 7 ∷ 7 ∷ []

pub writes_set : write_ack ten three 3 0 ≡ done (Ok 9) (0x02 ∷ 0x09 ∷ 0x00 ∷ 0x02 ∷ 0x01 ∷ 0x01 ∷ 0x00 ∷ 0x00 ∷ 0x03 ∷ 7 ∷ [])
unfolding write_ack fitted frame_of form log_of
writes_set = refl

-- eight places are one too few
pub no_room_in_eight : write_ack (7 ∷ 7 ∷ 7 ∷ 7 ∷ 7 ∷ 7 ∷ 7 ∷ 7 ∷ []) three 3 0 ≡ done (Err Room) (7 ∷ 7 ∷ 7 ∷ 7 ∷ 7 ∷ 7 ∷ 7 ∷ 7 ∷ [])
unfolding write_ack fitted frame_of form log_of
no_room_in_eight = refl

pub refuses_empty : write_ack ten three 0 0 ≡ done (Err Range) ten
unfolding write_ack
refuses_empty = refl

-- touching ranges left apart: the frame would need gap -1
pub refuses_touching : write_ack ten (3 ∷ 5 ∷ 5 ∷ 9 ∷ []) 2 0 ≡ done (Err Range) ten
unfolding write_ack
refuses_touching = refl

-- RANGE before ROOM
pub refuses_delay : write_ack [] three 3 (2 ^ 62) ≡ done (Err Range) []
unfolding write_ack
refuses_delay = refl

-- more ranges than the list has
pub refuses_count : write_ack ten three 4 0 ≡ done (Err Range) ten
unfolding write_ack
refuses_count = refl
