-- One law for each return. They hold by rewriting the definition with the test and with what the calls promise. Assumes nothing.
use mathlib.Core.Path.{◌≡◌}
use mathlib.Core.List.{List, ◌++◌}
use mathlib.Core.Bool.{Bool}
use Prim.Native.Nat.{ℕ, ◌-◌, ◌*◌, ◌/◌, ◌≤◌, ◌<◌}
use lib.ListN.{length, get_or, take, drop}
use borrow.Author.Tests.{lt-ltb, le-ltb}
use Rattle.std.specs.Prelude.{Ok, Err}
use Rattle.answers.specs.Answers.{OK, RANGE, number}
use Rattle.answers.specs.declared.Refusal.{Refusal}
use Rattle.constant_time.specs.Agree.{agree}
use Rattle.varint.specs.declared.Decoded.{Decoded}
use Rattle.varint.specs.Varint.{read_varint, write_varint}
use Rattle.varint.specs.Varint as varints
use Rattle.packet_number.specs.declared.Encoded.{Encoded}
use Rattle.packet_number.specs.PacketNumber.{encode_of, expand_of}
use Rattle.packet_number.specs.PacketNumber as numbers
use Rattle.ack_frame.specs.declared.Ack.{Ack}
use Rattle.ack_frame.specs.Read.{read_ack}
use Rattle.ack_frame.specs.Read as acks
use Rattle.ack_write.specs.Write.{write_ack}
use Rattle.ack_write.specs.Write as frames
use Rattle.said.specs.declared.Said.{Said}
use Rattle.said.specs.Said.{said_plain, said_number, said_two, bit_of}
use Rattle.drive_leaf.specs.declared.Gave.{Gave}
use Rattle.drive_leaf.specs.Step.{give, plainly, compare_of, read_of, done, write_of, number_of, expanded_of, frame_in, frame_to}

pub plain_is : (answer : ℕ) {s : Said} → s ≡ said_plain answer → ◌≡◌ {A = Gave} (record { said = s; size = 0; ranges = 0 }) (plainly answer)
plain_is answer e = rw e

-- ---- ct.eq
module _ (s : List ℕ) (f e : ℕ) where
  pub compare_less : {r : Gave} → e < f → r ≡ plainly RANGE → r ≡ compare_of s f e
  unfolding compare_of
  compare_less h er = rw (lt-ltb e f h) er

  pub compare_short : {r : Gave} → f ≤ e → length s < e → r ≡ plainly RANGE → r ≡ compare_of s f e
  unfolding compare_of
  compare_short g h er = rw (le-ltb e f g, lt-ltb (length s) e h) er

  pub compare_is : {b : Bool} {k : ℕ} {a : Said} → f ≤ e → e ≤ length s → b ≡ agree (take f s) (take (e - f) (drop f s)) → k ≡ bit_of b → a ≡ said_number OK k
      → give a ≡ compare_of s f e
  unfolding compare_of
  compare_is g h eb ek ea = rw (le-ltb e f g, le-ltb (length s) e h, ea, ek, eb)

-- ---- vi.dec
module _ (s : List ℕ) (e : ℕ) where
  pub read_short : {r : Gave} → length s < e → r ≡ plainly RANGE → r ≡ read_of s e
  unfolding read_of
  read_short h er = rw (lt-ltb (length s) e h) er

  pub read_value : {d : Decoded} {a : Said} → e ≤ length s → Ok d ≡ read_varint (take e s) → a ≡ said_two OK d.value d.len → give a ≡ read_of s e
  unfolding read_of
  read_value h er ea = rw (le-ltb (length s) e h, ← er, ea)

  pub read_refused : {w : Refusal} {k : ℕ} {r : Gave} → e ≤ length s → Err w ≡ read_varint (take e s) → k ≡ number w → r ≡ plainly k → r ≡ read_of s e
  unfolding read_of
  read_refused h er ek ea = rw (le-ltb (length s) e h, ← er, ea, ek)

-- ---- vi.enc
module _ (v : ℕ) (m : List ℕ) {m1 : List ℕ} where
  pub write_is : {n : ℕ} {a : Said} → varints.done (Ok n) m1 ≡ write_varint m v → a ≡ said_plain OK → done (record { said = a; size = n; ranges = 0 }) m1 ≡ write_of v m
  unfolding write_of
  write_is er ea = rw (← er, ea)

  pub write_refused : {w : Refusal} {k : ℕ} {r : Gave} → varints.done (Err w) m1 ≡ write_varint m v → k ≡ number w → r ≡ plainly k → done r m1 ≡ write_of v m
  unfolding write_of
  write_refused er ek ea = rw (← er, ea, ek)

-- ---- pn.new and pn.read
module _ (x acked : ℕ) (m : List ℕ) {m1 : List ℕ} {a : Said} where
  pub number_is : {r : Encoded} → numbers.done (Ok r) m1 ≡ encode_of m x acked → a ≡ said_number OK r.len
      → done (record { said = a; size = r.len; ranges = 0 }) m1 ≡ number_of x acked m
  unfolding number_of
  number_is er ea = rw (← er, ea)

  pub number_refused : {w : Refusal} {k : ℕ} → numbers.done (Err w) m1 ≡ encode_of m x acked → k ≡ number w → a ≡ said_number k 0
      → done (give a) m1 ≡ number_of x acked m
  unfolding number_of
  number_refused er ek ea = rw (← er, ea, ek)

module _ (s : List ℕ) (e largest : ℕ) where
  pub expand_short : {r : Gave} → length s < e → r ≡ plainly RANGE → r ≡ expanded_of s e largest
  unfolding expanded_of
  expand_short h er = rw (lt-ltb (length s) e h) er

  pub expand_is : {n : ℕ} {a : Said} → e ≤ length s → Ok n ≡ expand_of (take e s) e largest → a ≡ said_number OK n → give a ≡ expanded_of s e largest
  unfolding expanded_of
  expand_is h er ea = rw (le-ltb (length s) e h, ← er, ea)

  pub expand_refused : {w : Refusal} {k : ℕ} {a : Said} → e ≤ length s → Err w ≡ expand_of (take e s) e largest → k ≡ number w → a ≡ said_number k 0
      → give a ≡ expanded_of s e largest
  unfolding expanded_of
  expand_refused h er ek ea = rw (le-ltb (length s) e h, ← er, ea, ek)

pub ruleset strings = (plain_is, compare_less, compare_short, compare_is, read_short, expand_short)

-- ---- af.read
module _ (s : List ℕ) (e places : ℕ) (l : List ℕ) where
  pub frame_short : {r : Gave} → length s < e → r ≡ plainly RANGE → done r l ≡ frame_in s e places l
  unfolding frame_in
  frame_short h er = rw (lt-ltb (length s) e h, er)

  module _ (g : e ≤ length s) where
    pub frame_many : {r : Gave} → 16384 < places → r ≡ plainly RANGE → done r l ≡ frame_in s e places l
    unfolding frame_in
    frame_many h er = rw (le-ltb (length s) e g, lt-ltb 16384 places h, er)

    module _ (k : places ≤ 16384) where
      pub frame_full : {r : Gave} → length l < 2 * places → r ≡ plainly RANGE → done r l ≡ frame_in s e places l
      unfolding frame_in
      frame_full h er = rw (le-ltb (length s) e g, le-ltb 16384 places k, lt-ltb (length l) (2 * places) h, er)

      module _ (h : 2 * places ≤ length l) {l1 : List ℕ} {a : Said} where
        pub frame_is : {r : Ack} → acks.done (Ok r) l1 ≡ read_ack (take e s) (take (2 * places) l) → a ≡ said_two OK r.taken r.delay
            → done (record { said = a; size = 0; ranges = r.count }) (l1 ++ drop (2 * places) l) ≡ frame_in s e places l
        unfolding frame_in
        frame_is er ea = rw (le-ltb (length s) e g, le-ltb 16384 places k, le-ltb (length l) (2 * places) h, ← er, ea)

        pub frame_refused : {w : Refusal} {n : ℕ} → acks.done (Err w) l1 ≡ read_ack (take e s) (take (2 * places) l) → n ≡ number w → a ≡ said_two n 0 0
            → done (give a) (l1 ++ drop (2 * places) l) ≡ frame_in s e places l
        unfolding frame_in
        frame_refused er en ea = rw (le-ltb (length s) e g, le-ltb 16384 places k, le-ltb (length l) (2 * places) h, ← er, ea, en)

pub ruleset reads = (frame_short, frame_many, frame_full)

-- ---- af.write
module _ (ws : List ℕ) (k : ℕ) (m : List ℕ) where
  pub write_few : {r : Gave} → k < 2 → r ≡ plainly RANGE → done r m ≡ frame_to ws k m
  unfolding frame_to
  write_few h er = rw (lt-ltb k 2 h, er)

  module _ (g : 2 ≤ k) where
    pub write_short : {r : Gave} → length ws < k → r ≡ plainly RANGE → done r m ≡ frame_to ws k m
    unfolding frame_to
    write_short h er = rw (le-ltb k 2 g, lt-ltb (length ws) k h, er)

    module _ (u : k ≤ length ws) where
      pub write_room : {r : Gave} → length m < get_or ws 0 0 → r ≡ plainly RANGE → done r m ≡ frame_to ws k m
      unfolding frame_to
      write_room h er = rw (le-ltb k 2 g, le-ltb (length ws) k u, lt-ltb (length m) (get_or ws 0 0) h, er)

      module _ (h : get_or ws 0 0 ≤ length m) {m1 : List ℕ} where
        pub write_frame : {n : ℕ} {a : Said} → frames.done (Ok n) m1 ≡ write_ack (take (get_or ws 0 0) m) (take (k - 2) (drop 2 ws)) ((k - 2) / 2) (get_or ws 1 0)
            → a ≡ said_plain OK → done (record { said = a; size = n; ranges = 0 }) (m1 ++ drop (get_or ws 0 0) m) ≡ frame_to ws k m
        unfolding frame_to
        write_frame er ea = rw (le-ltb k 2 g, le-ltb (length ws) k u, le-ltb (length m) (get_or ws 0 0) h, ← er, ea)

        pub frame_not : {w : Refusal} {n : ℕ} {r : Gave} → frames.done (Err w) m1 ≡ write_ack (take (get_or ws 0 0) m) (take (k - 2) (drop 2 ws)) ((k - 2) / 2) (get_or ws 1 0)
            → n ≡ number w → r ≡ plainly n → done r (m1 ++ drop (get_or ws 0 0) m) ≡ frame_to ws k m
        unfolding frame_to
        frame_not er en ea = rw (le-ltb k 2 g, le-ltb (length ws) k u, le-ltb (length m) (get_or ws 0 0) h, ← er, ea, en)

pub ruleset writes = (write_few, write_short, write_room)
