-- Our streams go: what is left of the loop comes to the whole, and the sum of ends that it adds up stays within what is charged.
-- Assumes nothing.
use mathlib.Core.Path.{◌≡◌, refl, ap, sym, ◌∙◌}
use mathlib.Core.Bool.{Bool, true, false, cond, not}
use mathlib.Core.List.{List, [], ◌∷◌}
use Prim.Native.Nat.{ℕ, ◌+◌, ◌*◌, ◌-◌, ◌%◌, ◌≤◌, ◌<◌}
use native.Mathlib.Omega.{arith}
use lib.Dec.{eqb}
use lib.ListN.{length}
use borrow.Author.Tests.{not-true, not-false}
use Rattle.stream_record.specs.declared.Stream.{Stream}
use Rattle.stream_conn.specs.declared.Conn.{Conn}
use Rattle.stream_table.specs.declared.Stripped.{Stripped}
use Rattle.std.specs.Prelude.{Ok, Err}
use Rattle.answers.specs.declared.Refusal.TheVariants.{Range}
use Rattle.stream_table.specs.Table.{sound_b, sum_ends, rec_at, put_rec, recs_from, records, Left, left, strip_from, stripped, strip_after}
use Rattle.stream_table.proofs.Tables.{by_cond, rest_step, rest_end, length_store}
use Rattle.stream_table.proofs.Entries.{sound_room, sound_sum, sound_flow, sound_conn, conn_most}
use Rattle.stream_table.proofs.Shape.{recs_after}

-- ---- 0-RTT rejection
pub strip_start : (side : ℕ) (l : List ℕ) (n : ℕ) → strip_from side l 0 0 (recs_from 0 (n - 0) l) ≡ stripped side l n
unfolding stripped records
strip_start side l n =
    let e : n - 0 ≡ n = omega arith in
    ap (λ (m : ℕ). strip_from side l 0 0 (recs_from 0 m l)) e

pub sum_start : (l : List ℕ) (n : ℕ) → sum_ends (recs_from 0 (n - 0) l) ≡ sum_ends (records n l)
unfolding records
sum_start l n =
    let e : n - 0 ≡ n = omega arith in
    ap (λ (m : ℕ). sum_ends (recs_from 0 m l)) e

module _ (side : ℕ) (l : List ℕ) (n i w total : ℕ) (h : i < n) (wi : w ≤ i) {s : Stream} (es : s ≡ rec_at l i) {l' : List ℕ} {w' : ℕ}
    (ep : (w' ≡ cond (eqb (s.id % 2) side) w (w + 1)) × (l' ≡ cond (eqb (s.id % 2) side) l (put_rec l w s))) where
  after_turn : recs_from (i + 1) (n - (i + 1)) l' ≡ recs_from (i + 1) (n - (i + 1)) l
  after_turn =
      ap (recs_from (i + 1) (n - (i + 1))) ep.1
      ∙ by_cond (λ (x : List ℕ). recs_from (i + 1) (n - (i + 1)) x ≡ recs_from (i + 1) (n - (i + 1)) l) (eqb (s.id % 2) side) l (put_rec l w s) (λ _. refl) (λ _. recs_after (i + 1) (n - (i + 1)) l w s (omega arith))

  pub strip_length : length l' ≡ length l
  strip_length = ap length ep.1 ∙ by_cond (λ (x : List ℕ). length x ≡ length l) (eqb (s.id % 2) side) l (put_rec l w s) (λ _. refl) (λ _. length_store l w s)

  pub strip_place : w' ≤ i + 1
  strip_place = rw ep.0 (by_cond (λ (x : ℕ). x ≤ i + 1) (eqb (s.id % 2) side) w (w + 1) (λ _. omega arith) (λ _. omega arith))

  pub strip_end : s.end + sum_ends (recs_from (i + 1) (n - (i + 1)) l') ≡ sum_ends (recs_from i (n - i) l)
  strip_end =
      ap (λ (rs : List Stream). s.end + sum_ends rs) after_turn ∙ ap (λ (x : Stream). x.end + sum_ends (recs_from (i + 1) (n - (i + 1)) l)) es ∙ ap sum_ends (sym (rest_step l n i h))

  module _ {total' : ℕ} (et : total' ≡ cond (eqb (s.id % 2) side) (total + s.end) total) where
    pub strip_total : total' ≤ total + s.end
    strip_total = rw et (by_cond (λ (x : ℕ). x ≤ total + s.end) (eqb (s.id % 2) side) (total + s.end) total (λ _. omega arith) (λ _. omega arith))

    pub strip_turn : {f : Left Stripped} → strip_from side l w total (recs_from i (n - i) l) ≡ f → strip_from side l' w' total' (recs_from (i + 1) (n - (i + 1)) l') ≡ f
    strip_turn v =
        ap (strip_from side l' w' total') after_turn
        ∙ (rw (ep.1, ep.0, et, es) refl)
        ∙ ap (strip_from side l w total) (sym (rest_step l n i h)) ∙ v

pub strip_done : (side : ℕ) (l : List ℕ) (n i w total : ℕ) {f : Left Stripped} → strip_from side l w total (recs_from i (n - i) l) ≡ f → n ≤ i → left (record { count = w; total = total }) l ≡ f
strip_done side l n i w total v h = ap (strip_from side l w total) (sym (rest_end l n i h)) ∙ v

strip_most : (side : ℕ) (l : List ℕ) (w total : ℕ) (ss : List Stream) → (strip_from side l w total ss).out.total ≤ total + sum_ends ss
strip_most side l w total [] = omega arith
strip_most side l w total (s ∷ ss) =
    let m : cond (eqb (s.id % 2) side) (total + s.end) total ≤ total + s.end = by_cond (λ (x : ℕ). x ≤ total + s.end) (eqb (s.id % 2) side) (total + s.end) total (λ _. omega arith) (λ _. omega arith) in
    omega (arith, strip_most side (cond (eqb (s.id % 2) side) l (put_rec l w s)) (cond (eqb (s.id % 2) side) w (w + 1)) (cond (eqb (s.id % 2) side) (total + s.end) total) ss)

pub stripped_most : (side : ℕ) (l : List ℕ) (n : ℕ) → (stripped side l n).out.total ≤ sum_ends (records n l)
unfolding stripped
stripped_most side l n = omega (arith, strip_most side l 0 0 (records n l))

module _ (c : Conn) (l : List ℕ) (n : ℕ) {g : Bool} (eg : g ≡ sound_b c l n) where
  pub strip_bad : not g ≡ true → left (Err Range) l ≡ strip_after c l n
  unfolding strip_after
  strip_bad e = rw (← eg, not-true g e)

  module _ (e : not g ≡ false) where
    pub strip_all_done : {d : Stripped} {l' : List ℕ} → left d l' ≡ stripped c.side l n → left (Ok d) l' ≡ strip_after c l n
    unfolding strip_after
    strip_all_done ex = rw (← eg, not-false g e) (ap (λ (x : Left Stripped). left (Ok x.out) x.words) ex)

    pub strip_room : 7 * n ≤ length l
    strip_room = sound_room c l n (sym eg ∙ not-false g e)

    pub strip_fits : sum_ends (records n l) < 18446744073709551616
    strip_fits =
        let s = sym eg ∙ not-false g e in
        omega (arith, sound_sum c l n s, sound_flow c l n s, conn_most c (sound_conn c l n s))

pub ruleset strips = (strip_bad, strip_all_done, strip_room, strip_fits)
