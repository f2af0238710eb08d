-- The frame of a set is read back as that set, and a frame in shortest form is the frame of the set read from it: both go through the grammar.
-- What was read is a well_formed_law set. A set with the highest range first descends exactly as its ascending list is sound.
use Prim.Native.Nat.{ℕ, zero, suc, ◌+◌, ◌-◌, ◌*◌, ◌/◌, ◌<◌, ◌≤◌, ◌^◌}
use mathlib.Core.Path.{◌≡◌, refl, ap, sym, ◌∙◌, subst}
use mathlib.Core.Bool.{true}
use mathlib.Core.List.{List, [], ◌∷◌, ◌++◌, reverse, reverse_aux, reverse-reverse, reverse-append}
use lib.Seq.{take_at}
use native.Mathlib.Omega.{arith}
use native.Mathlib.Nat.{le_refl, zero-add}
use lib.ListN.{length, get_or, take, length-append}
use borrow.Author.Tests.{le-leb}
use Rattle.std.specs.Prelude.{Ok}
use Rattle.varint.specs.Varint.{Fits, log_of}
use Rattle.varint.proofs.Theorems.{short_fits}
use Rattle.range_list.specs.Ranges.{Range, range_at, read, flat, over, sound, well_formed}
use Rattle.range_list.proofs.Laws.{length_read, read_snoc}
use Rattle.range_list.proofs.Sound.{sound_parts, sound_made, sound_weaker, formed}
use Rattle.range_list.proofs.Kept.{read_over, formed_over}
use Rattle.ack_frame.specs.Grammar.{Descends, Coded, short, Shortest, Pair, Frame, frame_bytes, next_low, ranges_below, LegalBelow, low_of, ranges_of, Legal, ShortBelow, ShortFrame, pairs_for, frame_for, frame_of}
use Rattle.ack_frame.specs.Read.{done, accepted, read_ack, taken_of}
use Rattle.ack_frame.specs.declared.Ack.{Ack}
use Rattle.ack_frame.proofs.Laws.{length_reverse}
use Rattle.ack_frame.proofs.Exact.{accepts}
use Rattle.ack_frame.proofs.Only.{Accepted, accepted_is}

descends_weaker : (a b : ℕ) (rs : List Range) → a ≤ b → Descends a rs → Descends b rs
descends_weaker a b [] h d = tt
descends_weaker a b (r ∷ rs) h d = (d.0, (omega arith, d.1.1))

reversed_descends : (least : ℕ) (rs acc : List Range) → least ≤ 2 ^ 62 + 1 → sound least rs ≡ true → Descends least acc → Descends (2 ^ 62 + 1) (reverse_aux rs acc)
reversed_descends least [] acc h s d = descends_weaker least (2 ^ 62 + 1) acc h d
reversed_descends least (r ∷ rs) acc h s d =
    let p = sound_parts least r rs s in
    reversed_descends (r.hi + 1) rs (r ∷ acc) (omega (arith, p.upto)) p.rest (p.some, (omega arith, descends_weaker least r.lo acc p.from d))

pub sound_descends : (rs : List Range) → sound 0 rs ≡ true → Descends (2 ^ 62 + 1) (reverse rs)
sound_descends rs s = reversed_descends 0 rs [] (omega arith) s tt

reversed_sound : (top : ℕ) (rs acc : List Range) → top ≤ 2 ^ 62 + 1 → Descends top rs → sound top acc ≡ true → sound 0 (reverse_aux rs acc) ≡ true
reversed_sound top [] acc h d s = sound_weaker 0 top acc (omega arith) s
reversed_sound top (r ∷ rs) acc h d s =
    let q : sound (r.hi + 1) acc ≡ true = sound_weaker (r.hi + 1) top acc (omega (arith, d.1.0)) s in
    reversed_sound r.lo rs (r ∷ acc) (omega arith) d.1.1 (sound_made r.lo r acc (record { from = le_refl r.lo; some = d.0; upto = omega arith; rest = q }))

pub descends_sound : (rs : List Range) → Descends (2 ^ 62 + 1) rs → sound 0 (reverse rs) ≡ true
descends_sound rs d = reversed_sound (2 ^ 62 + 1) rs [] (le_refl (2 ^ 62 + 1)) d refl

-- so few ranges that a varint counts them
descends_few : (top : ℕ) (rs : List Range) → Descends top rs → 2 * length rs ≤ top
descends_few top [] d = omega arith
descends_few top (r ∷ rs) d = omega (arith, descends_few r.lo rs d.1.1)

-- The pairs of a set are legal, and are that set.
pairs_for_law : (low : ℕ) (rs : List Range) → low ≤ 2 ^ 62 → Descends low rs → LegalBelow low (pairs_for low rs) × ((ranges_below low (pairs_for low rs) ≡ rs) × (length (pairs_for low rs) ≡ length rs))
pairs_for_law low [] h d = (tt, (refl, refl))
pairs_for_law low (r ∷ rs) h d =
    let gap = low - r.hi - 1 in
    let len = r.hi - 1 - r.lo in
    let a : r.lo < r.hi = d.0 in
    let b : r.hi < low = d.1.0 in
    let lo : low - (gap + 2) - len ≡ r.lo = omega arith in
    let hi : low - (gap + 2) + 1 ≡ r.hi = omega arith in
    let ih = pairs_for_law r.lo rs (omega arith) d.1.1 in (
      (short_fits gap (omega arith), (short_fits len (omega arith), (omega arith, subst (λ (k : ℕ). LegalBelow k (pairs_for r.lo rs)) (sym lo) ih.0))),
      (
        (λ j. record { lo = lo j; hi = hi j } ∷ (ap (λ (k : ℕ). ranges_below k (pairs_for r.lo rs)) lo ∙ ih.1.0) j),
        ap suc ih.1.1,
      ),
    )

module _ (r : Range) (rs : List Range) (delay : ℕ) (d : Descends (2 ^ 62 + 1) (r ∷ rs)) (h : delay < 2 ^ 62) where
  low_is : r.hi - 1 - (r.hi - 1 - r.lo) ≡ r.lo
  low_is = let a : r.lo < r.hi = d.0 in omega arith

  below_for : LegalBelow r.lo (pairs_for r.lo rs) × ((ranges_below r.lo (pairs_for r.lo rs) ≡ rs) × (length (pairs_for r.lo rs) ≡ length rs))
  below_for =
      let a : r.lo < r.hi = d.0 in
      let b : r.hi < 2 ^ 62 + 1 = d.1.0 in
      pairs_for_law r.lo rs (omega arith) d.1.1

  -- The frame of a set is legal, and acknowledges it.
  pub frame_legal : Legal (frame_for r rs delay)
  frame_legal =
      let a : r.lo < r.hi = d.0 in
      let b : r.hi < 2 ^ 62 + 1 = d.1.0 in
      let n = descends_few r.lo rs d.1.1 in
      record {
        largest_fits = short_fits (r.hi - 1) (omega arith);
        delay_fits = short_fits delay h;
        count_fits = short_fits (length rs) (omega arith);
        first_fits = short_fits (r.hi - 1 - r.lo) (omega arith);
        counted = sym below_for.1.1;
        first_low = omega arith;
        pairs_low = subst (λ (k : ℕ). LegalBelow k (pairs_for r.lo rs)) (sym low_is) below_for.0;
      }

  pub frame_acks : ranges_of (frame_for r rs delay) ≡ r ∷ rs
  frame_acks =
      let a : r.lo < r.hi = d.0 in
      let hi : r.hi - 1 + 1 ≡ r.hi = omega arith in
      (λ j. record { lo = low_is j; hi = hi j } ∷ (ap (λ (k : ℕ). ranges_below k (pairs_for r.lo rs)) low_is ∙ below_for.1.0) j)

  -- It is read back, whatever follows it.
  pub reads_back : (tail l : List ℕ) → length rs < length l / 2 →
      read_ack (frame_of (r ∷ rs) delay ++ tail) l ≡ done (Ok (accepted (length rs + 1) (r.hi - 1) delay (length (frame_of (r ∷ rs) delay)))) (over (flat (reverse (r ∷ rs))) l)
  unfolding frame_of
  reads_back tail l k =
      let n = below_for.1.1 in
      accepts (frame_for r rs delay) frame_legal tail l (omega arith)
      ∙ (λ j. done (Ok (accepted (n j + 1) (r.hi - 1) delay (length (frame_bytes (frame_for r rs delay))))) (over (flat (reverse (frame_acks j))) l))

-- The last range of a list, the highest, comes first in a frame.
pub highest_first : (s : List ℕ) (m : ℕ) → reverse (read s 0 (m + 1)) ≡ range_at s m ∷ reverse (read s 0 m)
highest_first s m =
    ap reverse (read_snoc s 0 m) ∙ reverse-append (read s 0 m) (range_at s (0 + m) ∷ []) ∙ ap (λ (k : ℕ). range_at s k ∷ reverse (read s 0 m)) (zero-add m)

pub length_descending : (s : List ℕ) (m : ℕ) → length (reverse (read s 0 m)) ≡ m
length_descending s m = length_reverse (read s 0 m) ∙ length_read s 0 m

-- A well_formed_law set with the highest range first descends.
pub formed_descends : (s : List ℕ) (m : ℕ) → well_formed s (m + 1) ≡ true → Descends (2 ^ 62 + 1) (range_at s m ∷ reverse (read s 0 m))
formed_descends s m w = subst (Descends (2 ^ 62 + 1)) (highest_first s m) (sound_descends (read s 0 (m + 1)) (formed s (m + 1) w).sound)

-- What is written of a well_formed_law set of m + 1 ranges is read as that set and delay, whatever follows it.
pub round : (s : List ℕ) (m delay : ℕ) → well_formed s (m + 1) ≡ true → delay < 2 ^ 62 → (tail l : List ℕ) → m < length l / 2 →
    let bs = frame_of (reverse (read s 0 (m + 1))) delay in
    read_ack (bs ++ tail) l ≡ done (Ok (accepted (m + 1) (get_or s (m * 2 + 1) 0 - 1) delay (length bs))) (over (flat (read s 0 (m + 1))) l)
round s m delay w h tail l k =
    let r = range_at s m in
    let rs = reverse (read s 0 m) in
    let n : length rs ≡ m = length_descending s m in
    let e = highest_first s m in
    let b = reads_back r rs delay (formed_descends s m w) h tail l (omega arith) in
    let z : reverse (r ∷ rs) ≡ read s 0 (m + 1) = ap reverse (sym e) ∙ reverse-reverse (read s 0 (m + 1)) in
    ap (λ (x : List Range). read_ack (frame_of x delay ++ tail) l) e ∙ b
    ∙ (λ j. done (Ok (accepted (n j + 1) (r.hi - 1) delay (length (frame_of (sym e j) delay)))) (over (flat (z j)) l))

-- An integer in its shortest form is what is written for its number.
coded_again : (v : ℕ) (c : Coded) → v ≡ c.value → Shortest c → short v ≡ c
coded_again v c e s = (λ j. record { value = e j; log = (ap log_of e ∙ sym s) j })

pairs_again : (low : ℕ) (ps : List Pair) → LegalBelow low ps → ShortBelow ps → pairs_for low (ranges_below low ps) ≡ ps
pairs_again low [] h s = refl
pairs_again low (p ∷ ps) h s =
    let u : p.gap.value + 2 + p.len.value ≤ low = h.1.1.0 in
    let g = coded_again (low - (low - (p.gap.value + 2) + 1) - 1) p.gap (omega arith) s.0 in
    let l = coded_again (low - (p.gap.value + 2) + 1 - 1 - next_low low p) p.len (omega arith) s.1.0 in
    (λ j. record { gap = g j; len = l j } ∷ pairs_again (next_low low p) ps h.1.1.1 s.1.1 j)

length_ranges : (low : ℕ) (ps : List Pair) → length (ranges_below low ps) ≡ length ps
length_ranges low [] = refl
length_ranges low (p ∷ ps) = ap suc (length_ranges (next_low low p) ps)

-- A frame whose fields are all in shortest form is the frame of its set and delay.
pub frame_again : (g : Frame) → Legal g → ShortFrame g → frame_of (ranges_of g) g.delay.value ≡ frame_bytes g
unfolding frame_of
frame_again g o s =
    let u : g.first.value ≤ g.largest.value = o.first_low in
    let a = coded_again (g.largest.value + 1 - 1) g.largest (omega arith) s.short_largest in
    let d = coded_again g.delay.value g.delay refl s.short_delay in
    let c = coded_again (length (ranges_below (low_of g) g.pairs)) g.count (length_ranges (low_of g) g.pairs ∙ sym o.counted) s.short_count in
    let f = coded_again (g.largest.value + 1 - 1 - low_of g) g.first (omega arith) s.short_first in
    let p = pairs_again (low_of g) g.pairs o.pairs_low s.short_pairs in
    (λ j. frame_bytes (record { largest = a j; delay = d j; count = c j; first = f j; pairs = p j }))

-- A legal frame's set descends.
below_descends : (low : ℕ) (ps : List Pair) → LegalBelow low ps → Descends low (ranges_below low ps)
below_descends low [] h = tt
below_descends low (p ∷ ps) h =
    let u : p.gap.value + 2 + p.len.value ≤ low = h.1.1.0 in
    (omega arith, (omega arith, below_descends (next_low low p) ps h.1.1.1))

fits_limit : (k v : ℕ) → Fits k v → v < 2 ^ 62
fits_limit zero v h = let u : v < 2 ^ 6 = h.1 in omega arith
fits_limit (suc zero) v h = let u : v < 2 ^ 14 = h.1 in omega arith
fits_limit (suc (suc zero)) v h = let u : v < 2 ^ 30 = h.1 in omega arith
fits_limit (suc (suc (suc zero))) v h = h.1
fits_limit (suc (suc (suc (suc k)))) v h = let z : ⊥ = omega arith in absurd z

pub legal_descends : (g : Frame) → Legal g → Descends (2 ^ 62 + 1) (ranges_of g)
legal_descends g o =
    let u : g.first.value ≤ g.largest.value = o.first_low in
    let v = fits_limit g.largest.log g.largest.value o.largest_fits in
    (omega arith, (omega arith, below_descends (low_of g) g.pairs o.pairs_low))

-- what an accepted frame leaves
module _ (f l : List ℕ) (a : Accepted f l) {r : Ack} (e : (read_ack f l).out ≡ Ok r) where
  many : length (reverse (ranges_of a.frame)) ≡ length a.frame.pairs + 1
  many = length_reverse (ranges_of a.frame) ∙ rw (length_ranges (low_of a.frame) a.frame.pairs) (omega arith)

  r_is : r ≡ accepted (length a.frame.pairs + 1) a.frame.largest.value a.frame.delay.value (length (frame_bytes a.frame))
  r_is = let o = ap (λ d. d.out) (accepted_is f l a) in cc

  -- What was read is a well_formed_law set, not an empty one, and its delay is in range: the writer takes it.
  pub read_formed : well_formed (read_ack f l).mem r.count ≡ true
  read_formed =
      let rs = reverse (ranges_of a.frame) in
      let n = many in
      let k = a.fits in
      let s = formed_over rs l (omega arith) (descends_sound (ranges_of a.frame) (legal_descends a.frame a.legal)) in
      rw (accepted_is f l a, r_is) (rw n at s)

  pub read_some : 0 < r.count
  read_some = rw r_is (omega arith)

  pub read_delay : r.delay < 2 ^ 62
  read_delay = rw r_is (fits_limit a.frame.delay.log a.frame.delay.value a.legal.delay_fits)

  -- A frame whose fields are all in shortest form, read and rewritten, gives the same bytes.
  pub rewritten : ShortFrame a.frame → frame_of (reverse (read (read_ack f l).mem 0 r.count)) r.delay ≡ take r.taken f
  rewritten s =
      let g = a.frame in
      let rs = reverse (ranges_of g) in
      let b : read (over (flat rs) l) 0 (length g.pairs + 1) ≡ rs = ap (λ (n : ℕ). read (over (flat rs) l) 0 n) (sym many) ∙ read_over rs l in
      let t : take (length (frame_bytes g)) f ≡ frame_bytes g = ap (take (length (frame_bytes g))) a.starts ∙ take_at (frame_bytes g) a.rest (length (frame_bytes g)) refl in
      rw (accepted_is f l a, r_is) (rw b (ap (λ (x : List Range). frame_of x g.delay.value) (reverse-reverse (ranges_of g)) ∙ frame_again g a.legal s ∙ sym t))

  -- The part handed back is the frame's bytes.
  pub part_taken : taken_of f r ≡ frame_bytes a.frame
  unfolding taken_of
  part_taken =
      let g = a.frame in
      let q : length f ≡ length (frame_bytes g) + length a.rest = ap length a.starts ∙ length-append (frame_bytes g) a.rest in
      let h : length (frame_bytes g) ≤ length f = omega arith in
      rw (r_is, le-leb (length (frame_bytes g)) (length f) h) (ap (take (length (frame_bytes g))) a.starts ∙ take_at (frame_bytes g) a.rest (length (frame_bytes g)) refl)

-- Where no byte was taken it is empty; a frame that was refused has no values, so no part.
pub part_none : (f : List ℕ) (a : Ack) → a.taken ≡ 0 → taken_of f a ≡ []
unfolding taken_of
part_none f a e = rw (e, le-leb 0 (length f) (omega arith))
