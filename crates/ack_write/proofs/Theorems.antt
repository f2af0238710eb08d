-- Reading what was written gives the same set and delay, and rewriting what was read in shortest form gives the same bytes: ack_frame's round trips,
-- of the outcomes of both calls.
use Prim.Native.Nat.{ℕ, ◌+◌, ◌-◌, ◌*◌, ◌/◌, ◌<◌, ◌≤◌, ◌^◌}
use mathlib.Core.Path.{◌≡◌, ap}
use mathlib.Core.Bool.{true}
use mathlib.Core.List.{List, reverse}
use native.Mathlib.Omega.{arith}
use lib.ListN.{length, get_or, take, drop}
use borrow.Author.Tests.{le-leb, lt-ltb}
use Rattle.std.specs.Prelude.{Ok}
use Rattle.range_list.specs.Ranges.{read, flat, over, well_formed}
use Rattle.ack_frame.specs.Grammar.{frame_of, ShortFrame}
use Rattle.ack_frame.specs.Read.{read_ack}
use Rattle.ack_frame.specs.Read as frame
use Rattle.ack_frame.specs.declared.Ack.{Ack}
use Rattle.ack_frame.proofs.Only.{Accepted}
use Rattle.ack_frame.proofs.Round.{round, rewritten, read_formed, read_some, read_delay}
use Rattle.ack_write.specs.Write.{done, fitted, write_ack}

-- What write leaves of a well_formed_law set, where there is room.
pub written : (out s : List ℕ) (count delay : ℕ) → 0 < count → well_formed s count ≡ true → delay < 2 ^ 62 →
    let bs = frame_of (reverse (read s 0 count)) delay in
    length bs ≤ length out → write_ack out s count delay ≡ done (Ok (length bs)) (over bs out)
unfolding write_ack fitted
written out s count delay c w h k = rw (lt-ltb 0 count c, lt-ltb delay (2 ^ 62) h, w, le-leb (length (frame_of (reverse (read s 0 count)) delay)) (length out) k)

-- Reading what was written, given room in the buffer and in the list, gives the same set and delay, whatever the buffer held behind it.
pub read_back : (out s l : List ℕ) (m delay : ℕ) → well_formed s (m + 1) ≡ true → delay < 2 ^ 62 →
    length (frame_of (reverse (read s 0 (m + 1))) delay) ≤ length out → m < length l / 2 →
    let w = write_ack out s (m + 1) delay in
    (n : ℕ) × ((w.out ≡ Ok n) × (read_ack w.mem l ≡ frame.done (Ok (frame.accepted (m + 1) (get_or s (m * 2 + 1) 0 - 1) delay n)) (over (flat (read s 0 (m + 1))) l)))
read_back out s l m delay w h k r =
    let e = written out s (m + 1) delay (omega arith) w h k in
    let bs = frame_of (reverse (read s 0 (m + 1))) delay in
    (length bs, (ap (λ d. d.out) e, rw e (round s m delay w h (drop (length bs) out) l r)))

-- A frame whose fields are all in shortest form, read into a list and rewritten from it, gives the same bytes.
pub write_back : (f l out : List ℕ) (a : Accepted f l) {r : Ack} → (read_ack f l).out ≡ Ok r → ShortFrame a.frame →
    let m = (read_ack f l).mem in
    let bs = take r.taken f in
    length bs ≤ length out → write_ack out m r.count r.delay ≡ done (Ok (length bs)) (over bs out)
write_back f l out a {r} q s k =
    let m = (read_ack f l).mem in
    let e = rewritten f l a q s in
    let w = written out m r.count r.delay (read_some f l a q) (read_formed f l a q) (read_delay f l a q) (rw e k) in
    rw e at w
