-- 01's frame read, and one frame for each refusal, in byte order: the definitions compute.
use Prim.Native.Nat.{ℕ}
use mathlib.Core.Path.{◌≡◌, refl}
use mathlib.Core.List.{List, [], ◌∷◌}
use Rattle.std.specs.Prelude.{Ok, Err}
use Rattle.answers.specs.declared.Refusal.TheVariants.{Short, Malformed, Kind, Full}
use Rattle.varint.specs.Varint.{read_varint, width, size_of, form, log_of}
use Rattle.ack_frame.specs.Grammar.{frame_of}
use Rattle.ack_frame.specs.Read.{int_at, kind_at, step_at, walk_of, below, fields_at, head_of, done, accepted, read_ack, taken_of}

-- {0 to 3, 5, 8 to 9} with delay 0
abbrev pub frame : List ℕ
frame = 0x02 ∷ 0x09 ∷ 0x00 ∷ 0x02 ∷ 0x01 ∷ 0x01 ∷ 0x00 ∷ 0x00 ∷ 0x03 ∷ []

-- seven places, of which the last is left as it was
abbrev pub list : List ℕ
list = 7 ∷ 7 ∷ 7 ∷ 7 ∷ 7 ∷ 7 ∷ 7 ∷ []

pub reads_frame : read_ack frame list ≡ done (Ok (accepted 3 9 0 9)) (0 ∷ 4 ∷ 5 ∷ 6 ∷ 8 ∷ 10 ∷ 7 ∷ [])
unfolding read_ack head_of kind_at fields_at walk_of below step_at int_at read_varint width size_of log_of
reads_frame = refl

-- what follows the frame is not taken
pub reads_what_follows : read_ack (0x02 ∷ 0x00 ∷ 0x05 ∷ 0x00 ∷ 0x00 ∷ 0xff ∷ []) list ≡ done (Ok (accepted 1 0 5 5)) (0 ∷ 1 ∷ 7 ∷ 7 ∷ 7 ∷ 7 ∷ 7 ∷ [])
unfolding read_ack head_of kind_at fields_at walk_of below step_at int_at read_varint width size_of log_of
reads_what_follows = refl

pub takes_frame : taken_of (0x02 ∷ 0x00 ∷ 0x05 ∷ 0x00 ∷ 0x00 ∷ 0xff ∷ []) (accepted 1 0 5 5) ≡ 0x02 ∷ 0x00 ∷ 0x05 ∷ 0x00 ∷ 0x00 ∷ []
unfolding taken_of
takes_frame = refl

pub writes_frame : frame_of (record { lo = 8; hi = 10 } ∷ record { lo = 5; hi = 6 } ∷ record { lo = 0; hi = 4 } ∷ []) 0 ≡ frame
unfolding frame_of form log_of
writes_frame = refl

pub short_empty : read_ack [] list ≡ done (Err Short) list
unfolding read_ack head_of kind_at int_at read_varint width
short_empty = refl

-- the type in two bytes; ACK with ECN counts; a type in two bytes of which one is there
pub malformed_type : read_ack (0x40 ∷ 0x02 ∷ []) list ≡ done (Err Malformed) list
unfolding read_ack head_of kind_at int_at read_varint width size_of log_of
malformed_type = refl

pub kind_03 : read_ack (0x03 ∷ []) list ≡ done (Err Kind) list
unfolding read_ack head_of kind_at int_at read_varint width size_of log_of
kind_03 = refl

pub short_type : read_ack (0x40 ∷ []) list ≡ done (Err Short) list
unfolding read_ack head_of kind_at int_at read_varint width
short_type = refl

-- the first range below zero
pub malformed_first : read_ack (0x02 ∷ 0x03 ∷ 0x00 ∷ 0x00 ∷ 0x04 ∷ []) list ≡ done (Err Malformed) list
unfolding read_ack head_of kind_at fields_at int_at read_varint width size_of log_of
malformed_first = refl

-- a gap too large is MALFORMED even where its length is missing; a gap that fits is then SHORT
pub malformed_gap : read_ack (0x02 ∷ 0x03 ∷ 0x00 ∷ 0x01 ∷ 0x00 ∷ 0x02 ∷ []) list ≡ done (Err Malformed) list
unfolding read_ack head_of kind_at fields_at walk_of step_at int_at read_varint width size_of log_of
malformed_gap = refl

pub short_length : read_ack (0x02 ∷ 0x03 ∷ 0x00 ∷ 0x01 ∷ 0x00 ∷ 0x01 ∷ []) list ≡ done (Err Short) list
unfolding read_ack head_of kind_at fields_at walk_of step_at int_at read_varint width size_of log_of
short_length = refl

pub malformed_length : read_ack (0x02 ∷ 0x03 ∷ 0x00 ∷ 0x01 ∷ 0x00 ∷ 0x01 ∷ 0x01 ∷ []) list ≡ done (Err Malformed) list
unfolding read_ack head_of kind_at fields_at walk_of step_at int_at read_varint width size_of log_of
malformed_length = refl

-- the third range does not fit: FULL where it is whole and legal, and else what is wrong with it
pub full_third : read_ack frame (7 ∷ 7 ∷ 7 ∷ 7 ∷ []) ≡ done (Err Full) (7 ∷ 7 ∷ 7 ∷ 7 ∷ [])
unfolding read_ack head_of kind_at fields_at walk_of step_at int_at read_varint width size_of log_of
full_third = refl

pub short_third : read_ack (0x02 ∷ 0x09 ∷ 0x00 ∷ 0x02 ∷ 0x01 ∷ 0x01 ∷ 0x00 ∷ 0x00 ∷ []) (7 ∷ 7 ∷ 7 ∷ 7 ∷ []) ≡ done (Err Short) (7 ∷ 7 ∷ 7 ∷ 7 ∷ [])
unfolding read_ack head_of kind_at fields_at walk_of step_at int_at read_varint width size_of log_of
short_third = refl

pub full_first : read_ack frame (7 ∷ []) ≡ done (Err Full) (7 ∷ [])
unfolding read_ack head_of kind_at fields_at int_at read_varint width size_of log_of
full_first = refl
