-- The reader accepts exactly the frames of the grammar whose ranges fit the list, with their values and set: what stands at a place is read
-- as it stands there, and what was read is a form of its number (varint), field by field and pair by pair.
use Prim.Native.Nat.{ℕ, ◌+◌, ◌-◌, ◌/◌, ◌<◌, ◌≤◌, ◌^◌}
use mathlib.Core.Path.{◌≡◌, refl, ap, sym, ◌∙◌}
use mathlib.Core.List.{List, [], ◌∷◌, ◌++◌, append_assoc, reverse}
use native.Mathlib.Omega.{arith}
use lib.ListN.{length, drop, length-append}
use lib.Seq.{drop_at}
use borrow.Author.Tests.{lt-ltb, le-ltb}
use Rattle.std.specs.Prelude.{Ok}
use Rattle.varint.specs.Varint.{read_varint, form, size_of, log_of}
use Rattle.varint.proofs.Theorems.{reads_form, length_form}
use Rattle.range_list.specs.Ranges.{Range, flat, over}
use Rattle.ack_frame.specs.Grammar.{Coded, bytes_of, FitsIn, Pair, Frame, pairs_bytes, frame_bytes, next_low, ranges_below, LegalBelow, low_of, ranges_of, Legal}
use Rattle.ack_frame.specs.Read.{is, range, known, int_of, int_at, kind_at, step_at, walk_of, below, fields_at, head_of, found, done, accepted, read_ack}
use Rattle.ack_frame.proofs.Laws.{read_ok, fields_all, kind_is, head_is}

-- an integer that stands at `at` is read there, and where the next one stands
module _ (f p r : List ℕ) (at : ℕ) (c : Coded) (e : f ≡ p ++ (bytes_of c ++ r)) (q : length p ≡ at) where
  int_here : FitsIn c → int_at f at ≡ is c.value (at + 2 ^ c.log)
  unfolding int_at
  int_here h = ap (int_of at) (ap read_varint (ap (drop at) e ∙ drop_at p (bytes_of c ++ r) at q) ∙ reads_form c.log c.value r h)

  next_here : (f ≡ (p ++ bytes_of c) ++ r) × (length (p ++ bytes_of c) ≡ at + 2 ^ c.log)
  next_here = (e ∙ sym (append_assoc p (bytes_of c) r), simp (length-append, length_form, q))

step_here : (f : List ℕ) (at low gap a len b : ℕ) → int_at f at ≡ is gap a → int_at f a ≡ is len b → gap + 2 + len ≤ low →
    step_at f at low ≡ range b (low - (gap + 2) - len) (low - (gap + 2) + 1)
unfolding step_at
step_here f at low gap a len b e1 e2 h = rw (e1, le-ltb low (gap + 2) (omega arith), e2, le-ltb (low - (gap + 2)) len (omega arith))

-- The pairs that stand at `at` are walked to their end, and are the ranges.
pub pairs_here : (f p r : List ℕ) (ps : List Pair) (at low room : ℕ) → f ≡ p ++ (pairs_bytes ps ++ r) → length p ≡ at → LegalBelow low ps → length ps ≤ room →
    (walk_of f (length ps) at low room ≡ Ok (at + length (pairs_bytes ps))) × (below f (length ps) at low ≡ ranges_below low ps)
unfolding walk_of below
pairs_here f p r [] at low room e q h s = (ap Ok (omega arith), refl)
pairs_here f p r (x ∷ ps) at low room e q h s =
    let u = pairs_bytes ps ++ r in
    let e1 : f ≡ p ++ (bytes_of x.gap ++ (bytes_of x.len ++ u)) = e ∙ simp append_assoc in
    let i1 = int_here f p (bytes_of x.len ++ u) at x.gap e1 q h.0 in
    let n1 = next_here f p (bytes_of x.len ++ u) at x.gap e1 q in
    let a = at + 2 ^ x.gap.log in
    let p1 = p ++ bytes_of x.gap in
    let i2 = int_here f p1 u a x.len n1.0 n1.1 h.1.0 in
    let n2 = next_here f p1 u a x.len n1.0 n1.1 in
    let b = a + 2 ^ x.len.log in
    let st = step_here f at low x.gap.value a x.len.value b i1 i2 h.1.1.0 in
    let ih = pairs_here f (p1 ++ bytes_of x.len) r ps b (next_low low x) (room - 1) n2.0 n2.1 h.1.1.1 (omega arith) in (
      rw (st, lt-ltb 0 room (omega arith), ih.0) (ap Ok (simp (length-append, length_form) (omega arith))),
      rw (st, ih.1),
    )

-- Where the pairs of a frame stand.
abbrev pairs_at : Frame → ℕ
pairs_at g = 1 + 2 ^ g.largest.log + 2 ^ g.delay.log + 2 ^ g.count.log + 2 ^ g.first.log

type_02 : (r : List ℕ) → kind_at (2 ∷ r) ≡ Ok 1
unfolding size_of log_of form
type_02 r =
    let t : Coded = record { value = 2; log = 0 } in
    let i = int_here (2 ∷ r) [] r 0 t refl refl (omega arith, omega arith) in
    sym (kind_is (2 ∷ r) (sym i) refl refl refl)

-- A legal frame, whatever follows it: its head is found, and its pairs stand behind it.
module _ (g : Frame) (o : Legal g) (r : List ℕ) where
  record Here : Type 0 where
    known : head_of (frame_bytes g ++ r) ≡ known (pairs_at g) g.largest.value g.delay.value g.count.value (low_of g)
    front : List ℕ
    split : frame_bytes g ++ r ≡ front ++ (pairs_bytes g.pairs ++ r)
    ends : length front ≡ pairs_at g

  head_here : Here
  head_here =
      let f = frame_bytes g ++ r in
      let s = pairs_bytes g.pairs ++ r in
      let p0 : List ℕ = 2 ∷ [] in
      let b1 = bytes_of g.largest in
      let b2 = bytes_of g.delay in
      let b3 = bytes_of g.count in
      let b4 = bytes_of g.first in
      let e0 : f ≡ p0 ++ (b1 ++ (b2 ++ (b3 ++ (b4 ++ s)))) = simp append_assoc in
      let i1 = int_here f p0 (b2 ++ (b3 ++ (b4 ++ s))) 1 g.largest e0 refl o.largest_fits in
      let n1 = next_here f p0 (b2 ++ (b3 ++ (b4 ++ s))) 1 g.largest e0 refl in
      let a1 = 1 + 2 ^ g.largest.log in
      let i2 = int_here f (p0 ++ b1) (b3 ++ (b4 ++ s)) a1 g.delay n1.0 n1.1 o.delay_fits in
      let n2 = next_here f (p0 ++ b1) (b3 ++ (b4 ++ s)) a1 g.delay n1.0 n1.1 in
      let a2 = a1 + 2 ^ g.delay.log in
      let i3 = int_here f ((p0 ++ b1) ++ b2) (b4 ++ s) a2 g.count n2.0 n2.1 o.count_fits in
      let n3 = next_here f ((p0 ++ b1) ++ b2) (b4 ++ s) a2 g.count n2.0 n2.1 in
      let a3 = a2 + 2 ^ g.count.log in
      let i4 = int_here f (((p0 ++ b1) ++ b2) ++ b3) s a3 g.first n3.0 n3.1 o.first_fits in
      let n4 = next_here f (((p0 ++ b1) ++ b2) ++ b3) s a3 g.first n3.0 n3.1 in
      let k : fields_at f 1 ≡ known (pairs_at g) g.largest.value g.delay.value g.count.value (low_of g) =
      sym (fields_all f 1 (sym i1) (sym i2) (sym i3) (sym i4) o.first_low) in
      record {
        known = sym (head_is f (sym (type_02 _)) (sym k));
        front = (((p0 ++ b1) ++ b2) ++ b3) ++ b4;
        split = n4.0;
        ends = n4.1;
      }

  frame_end : pairs_at g + length (pairs_bytes g.pairs) ≡ length (frame_bytes g)
  frame_end = simp (length-append, length_form) (omega arith)

  -- It is accepted where its ranges fit, with its values, and the list then holds its set, ascending.
  pub accepts : (l : List ℕ) → length g.pairs < length l / 2 →
      read_ack (frame_bytes g ++ r) l
      ≡ done (Ok (accepted (length g.pairs + 1) g.largest.value g.delay.value (length (frame_bytes g)))) (over (flat (reverse (ranges_of g))) l)
  accepts l h =
      let f = frame_bytes g ++ r in
      let k = head_here in
      let n = length g.pairs in
      let w = pairs_here f k.front r g.pairs (pairs_at g) (low_of g) (length l / 2 - 1) k.split k.ends o.pairs_low (omega arith) in
      let t : head_of f ≡ known (pairs_at g) g.largest.value g.delay.value n (low_of g) = rw (sym o.counted) k.known in
      let b : found f n (pairs_at g) (low_of g) g.largest.value ≡ ranges_of g = rw w.1 in
      sym (read_ok f l (sym t) {x = length (frame_bytes g)} (omega arith) (w.0 ∙ ap Ok frame_end) (ap (λ (x : List Range). over (flat (reverse x)) l) (sym b)))
