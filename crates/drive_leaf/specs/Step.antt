-- What an event of a module without a state gives: its library's call, and nothing else (docs/EVENTS.md). The calls are those of constant_time (01,
-- Token comparison), varint (01, Varint), packet_number (01, Packet numbers), ack_frame and ack_write (01, ACK frame). Assumes nothing.
use Rattle.std.specs.Prelude.{ℕ, ◌-◌, ◌*◌, ◌/◌, cond, ◌||◌, List, ◌++◌, Result, Ok, Err, length, get_or, take, drop, eqb, ltb}
use Rattle.answers.specs.Answers.{OK, RANGE, number}
use Rattle.answers.specs.declared.Refusal.{Refusal}
use Rattle.codes.specs.Codes.{CT_EQ, VI_DEC, VI_ENC, PN_NEW, PN_READ, AF_READ}
use Rattle.constant_time.specs.Agree.{agree}
use Rattle.varint.specs.declared.Decoded.{Decoded}
use Rattle.varint.specs.Varint.{read_varint, write_varint}
use Rattle.packet_number.specs.declared.Encoded.{Encoded}
use Rattle.packet_number.specs.PacketNumber.{encode_of, expand_of}
use Rattle.ack_frame.specs.declared.Ack.{Ack}
use Rattle.ack_frame.specs.Read.{read_ack}
use Rattle.ack_frame.specs.Read as acks
use Rattle.ack_write.specs.Write.{write_ack}
use Rattle.ack_write.specs.Write as frames
use Rattle.said.specs.declared.Said.{Said}
use Rattle.said.specs.Said.{said_plain, said_number, said_two, bit_of}
use Rattle.drive_leaf.specs.declared.Gave.{Gave}

-- an answer, with no bytes and no ranges
abbrev pub give : Said → Gave
give s = record { said = s; size = 0; ranges = 0 }

abbrev pub plainly : ℕ → Gave
plainly answer = give (said_plain answer)

-- what an event leaves of one lent memory: what it gave, and the memory
pub record Done : Type 0 where
  pub out : Gave
  pub mem : List ℕ

abbrev pub done : Gave → List ℕ → Done
done r m = record { out = r; mem = m }

-- ct.eq: the first f bytes of s, and those from there up to e; RANGE where they are not there
unfoldable pub compare_of : List ℕ → ℕ → ℕ → Gave
compare_of s f e =
    cond (ltb e f || ltb (length s) e) (plainly RANGE) (give (said_number OK (bit_of (agree (take f s) (take (e - f) (drop f s))))))

-- vi.dec: value and length
abbrev pub value_of : Result Decoded Refusal → Gave
value_of (Ok d) = give (said_two OK d.value d.len)
value_of (Err w) = plainly (number w)

unfoldable pub read_of : List ℕ → ℕ → Gave
read_of s e = cond (ltb (length s) e) (plainly RANGE) (value_of (read_varint (take e s)))

-- vi.enc: the bytes are at the start of the scratch m
abbrev pub length_of : Result ℕ Refusal → Gave
length_of (Ok n) = record { said = said_plain OK; size = n; ranges = 0 }
length_of (Err w) = plainly (number w)

unfoldable pub write_of : ℕ → List ℕ → Done
write_of v m = done (length_of (write_varint m v).out) (write_varint m v).mem

-- pn.new: the length, and the bytes at the start of the scratch m
abbrev pub encoded_of : Result Encoded Refusal → Gave
encoded_of (Ok r) = record { said = said_number OK r.len; size = r.len; ranges = 0 }
encoded_of (Err w) = give (said_number (number w) 0)

unfoldable pub number_of : ℕ → ℕ → List ℕ → Done
number_of number acked m = done (encoded_of (encode_of m number acked).out) (encode_of m number acked).mem

-- pn.read: all of the e bytes are the number's
abbrev pub found_of : Result ℕ Refusal → Gave
found_of (Ok n) = give (said_number OK n)
found_of (Err w) = give (said_number (number w) 0)

unfoldable pub expanded_of : List ℕ → ℕ → ℕ → Gave
expanded_of s e largest = cond (ltb (length s) e) (plainly RANGE) (found_of (expand_of (take e s) e largest))

-- af.read: bytes taken and delay; the ranges are at the start of the list l, of which the frame gets so many places. More than there are is RANGE.
abbrev pub ack_of : Result Ack Refusal → Gave
ack_of (Ok r) = record { said = said_two OK r.taken r.delay; size = 0; ranges = r.count }
ack_of (Err w) = give (said_two (number w) 0 0)

abbrev pub put_ranges : acks.Done → List ℕ → Done
put_ranges d rest = done (ack_of d.out) (d.mem ++ rest)

unfoldable pub frame_in : List ℕ → ℕ → ℕ → List ℕ → Done
frame_in s e places l =
    cond (ltb (length s) e || (ltb 16384 places || ltb (length l) (2 * places))) (done (plainly RANGE) l)
    (put_ranges (read_ack (take e s) (take (2 * places) l)) (drop (2 * places) l))

-- af.write: of k words the first is the space, the second the delay, the others the set; the bytes are at the start of the scratch m, of which the
-- frame gets that space. More than there is is RANGE.
abbrev pub put_frame : frames.Done → List ℕ → Done
put_frame d rest = done (length_of d.out) (d.mem ++ rest)

unfoldable pub frame_to : List ℕ → ℕ → List ℕ → Done
frame_to ws k m =
    cond (ltb k 2 || (ltb (length ws) k || ltb (length m) (get_or ws 0 0))) (done (plainly RANGE) m)
    (put_frame (write_ack (take (get_or ws 0 0) m) (take (k - 2) (drop 2 ws)) ((k - 2) / 2) (get_or ws 1 0)) (drop (get_or ws 0 0) m))

-- what an event leaves: what it gave, the scratch and the list
pub record Left : Type 0 where
  pub out : Gave
  pub scratch : List ℕ
  pub list : List ℕ

abbrev pub left : Gave → List ℕ → List ℕ → Left
left r m l = record { out = r; scratch = m; list = l }

abbrev pub to_scratch : Done → List ℕ → Left
to_scratch d l = left d.out d.mem l

abbrev pub to_list : List ℕ → Done → Left
to_list m d = left d.out m d.mem

-- an event of a module without a state: of k numbers ws and of e bytes s, of which the first f are the first string
unfoldable pub step_of : ℕ → List ℕ → ℕ → List ℕ → ℕ → ℕ → List ℕ → List ℕ → Left
step_of code ws k s f e m l =
    cond (eqb code CT_EQ) (left (compare_of s f e) m l)
    (cond (eqb code VI_DEC) (left (read_of s e) m l)
    (cond (eqb code VI_ENC) (to_scratch (write_of (get_or ws 0 0) m) l)
    (cond (eqb code PN_NEW) (to_scratch (number_of (get_or ws 0 0) (get_or ws 1 0) m) l)
    (cond (eqb code PN_READ) (left (expanded_of s e (get_or ws 0 0)) m l)
    (cond (eqb code AF_READ) (to_list m (frame_in s e (get_or ws 0 0) l))
    (to_scratch (frame_to ws k m) l))))))
