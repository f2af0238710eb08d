-- An event of each kind: the definitions compute them. Assumes nothing.
use mathlib.Core.Path.{◌≡◌, refl}
use mathlib.Core.List.{List, [], ◌∷◌}
use Prim.Native.Nat.{ℕ}
use Rattle.answers.specs.Answers.{SHORT, RANGE}
use Rattle.codes.specs.Codes.{CT_EQ, VI_DEC, VI_ENC, PN_NEW, PN_READ, AF_READ, AF_WRITE}
use Rattle.constant_time.specs.Agree.{agree}
use Rattle.varint.specs.Varint.{read_varint, write_varint, width, size_of, log_of, form, encode}
use Rattle.packet_number.specs.PacketNumber.{encode_of, expand_of, writable, distance, fewest, window, choice, moved}
use Rattle.ack_frame.specs.Grammar.{frame_of}
use Rattle.ack_frame.specs.Read.{read_ack, head_of, kind_at, fields_at, walk_of, below, step_at, int_at}
use Rattle.ack_write.specs.Write.{write_ack, fitted}
use Rattle.said.specs.Said.{said_plain, said_number, said_two}
use Rattle.drive_leaf.specs.Step.{give, plainly, left, compare_of, read_of, write_of, number_of, expanded_of, frame_in, frame_to, step_of}

-- ct.eq 0102 0102
pub equal : step_of CT_EQ [] 0 (1 ∷ 2 ∷ 1 ∷ 2 ∷ []) 2 4 [] [] ≡ left (give (said_number 0 1)) [] []
unfolding step_of compare_of agree
equal = refl

-- vi.dec 9d7f3e7d, and 9d7f alone
pub decoded : step_of VI_DEC [] 0 (0x9d ∷ 0x7f ∷ 0x3e ∷ 0x7d ∷ []) 4 4 [] [] ≡ left (give (said_two 0 494878333 4)) [] []
unfolding step_of read_of read_varint width
decoded = refl

pub decoded_short : step_of VI_DEC [] 0 (0x9d ∷ 0x7f ∷ 0x3e ∷ 0x7d ∷ []) 2 2 [] [] ≡ left (plainly SHORT) [] []
unfolding step_of read_of read_varint width
decoded_short = refl

-- vi.enc 15293
pub encoded : step_of VI_ENC (15293 ∷ []) 1 [] 0 0 (7 ∷ 7 ∷ 7 ∷ []) [] ≡ left (record { said = said_plain 0; size = 2; ranges = 0 }) (0x7b ∷ 0xbd ∷ 7 ∷ []) []
unfolding step_of write_of write_varint encode form log_of
encoded = refl

-- pn.new 300 0, and pn.read of its bytes after 299
pub numbered : step_of PN_NEW (300 ∷ 0 ∷ []) 2 [] 0 0 (7 ∷ 7 ∷ 7 ∷ []) [] ≡ left (record { said = said_number 0 2; size = 2; ranges = 0 }) (1 ∷ 44 ∷ 7 ∷ []) []
unfolding step_of number_of encode_of writable distance fewest window
numbered = refl

pub expanded : step_of PN_READ (299 ∷ []) 1 (1 ∷ 44 ∷ []) 2 2 [] [] ≡ left (give (said_number 0 300)) [] []
unfolding step_of expanded_of expand_of window choice moved
expanded = refl

-- af.read of a frame of 3..6 into one place of two, and into more places than there are
abbrev frame : List ℕ
frame = 0x02 ∷ 0x05 ∷ 0x04 ∷ 0x00 ∷ 0x02 ∷ []

pub frame_read : step_of AF_READ (1 ∷ []) 1 frame 5 5 [] (7 ∷ 7 ∷ 7 ∷ 7 ∷ []) ≡ left (record { said = said_two 0 5 4; size = 0; ranges = 1 }) [] (3 ∷ 6 ∷ 7 ∷ 7 ∷ [])
unfolding step_of frame_in read_ack head_of kind_at fields_at walk_of below step_at int_at read_varint width size_of log_of
frame_read = refl

pub frame_range : step_of AF_READ (3 ∷ []) 1 frame 5 5 [] (7 ∷ 7 ∷ 7 ∷ 7 ∷ []) ≡ left (plainly RANGE) [] (7 ∷ 7 ∷ 7 ∷ 7 ∷ [])
unfolding step_of frame_in
frame_range = refl

-- af.write 6 4 3 6 is that frame
pub frame_written : step_of AF_WRITE (6 ∷ 4 ∷ 3 ∷ 6 ∷ []) 4 [] 0 0 (7 ∷ 7 ∷ 7 ∷ 7 ∷ 7 ∷ 7 ∷ 7 ∷ []) []
    ≡ left (record { said = said_plain 0; size = 5; ranges = 0 }) (0x02 ∷ 0x05 ∷ 0x04 ∷ 0x00 ∷ 0x02 ∷ 7 ∷ 7 ∷ []) []
unfolding step_of frame_to write_ack fitted frame_of encode form log_of
frame_written = refl
