-- The grant, case by case, and its loop: what is left comes to the whole.
-- Assumes nothing.
use mathlib.Core.Path.{◌≡◌, refl, ap, sym, ◌∙◌}
use mathlib.Core.Bool.{Bool, true, false, ◌||◌, not}
use mathlib.Core.List.{List}
use Prim.Native.Nat.{ℕ, suc, ◌+◌, ◌*◌, ◌-◌, ◌^◌, ◌≤◌, ◌<◌}
use native.Mathlib.Omega.{arith}
use lib.Dec.{eqb, ltb, leb}
use lib.ListN.{length}
use borrow.Author.Tests.{ltb-true, ltb-false, leb-true, not-false}
use Rattle.stream_record.specs.declared.Stream.{Stream}
use Rattle.stream_record.specs.Record.{fresh}
use Rattle.stream_conn.specs.declared.Counts.{Counts}
use Rattle.stream_conn.specs.declared.Conn.{Conn}
use Rattle.stream_conn.specs.Books.{counts_of, good_counts, good_conn}
use Rattle.stream_table.specs.Table.{sound_b, inserted, inserted_at}
use Rattle.stream_table.proofs.Tables.{by_cond, and_left, and_right}
use Rattle.stream_table.proofs.Shape.{inserted_is, length_inserted}
use Rattle.stream_table.proofs.Entries.{sound_few, sound_conn}
use Rattle.stream_places.specs.Places.{grown_by}

-- ---- `grow`
-- what is left of the loop after i turns comes to the whole
pub grow_start : (w : ℕ) (l : List ℕ) (n id k : ℕ) → grown_by w l (n + 0) (id + 4 * 0) (k - 0) ≡ grown_by w l n id k
grow_start w l n id k =
    let a : n + 0 ≡ n = omega arith in
    let b : id + 4 * 0 ≡ id = omega arith in
    let d : k - 0 ≡ k = omega arith in
    rw (a, b, d)

module _ (w : ℕ) (l : List ℕ) (n id k i : ℕ) {f : List ℕ} (v : grown_by w l (n + i) (id + 4 * i) (k - i) ≡ f) where
  pub grow_turn : {t : Stream} {l' : List ℕ} → i < k → n + k ≤ 256 → 7 * (n + k) ≤ length l → t ≡ fresh w (id + 4 * i) → l' ≡ inserted_at l (n + i) t
      → grown_by w l' (n + (i + 1)) (id + 4 * (i + 1)) (k - (i + 1)) ≡ f
  grow_turn {t} h few room et el =
      let z : k - i ≡ suc (k - (i + 1)) = omega arith in
      let a : n + (i + 1) ≡ n + i + 1 = omega arith in
      let b : id + 4 * (i + 1) ≡ id + 4 * i + 4 = omega arith in
      let e = el ∙ inserted_is l (n + i) t (omega arith) (omega arith) ∙ ap (inserted l (n + i)) et in
      (rw (a, b, e)) ∙ ap (grown_by w l (n + i) (id + 4 * i)) (sym z) ∙ v

  pub grow_done : k ≤ i → l ≡ f
  grow_done h =
      let z : k - i ≡ 0 = omega arith in
      ap (grown_by w l (n + i) (id + 4 * i)) (sym z) ∙ v

pub grow_length : (l : List ℕ) (n : ℕ) (t : Stream) {l' : List ℕ} → n < 256 → 7 * n + 7 ≤ length l → l' ≡ inserted_at l n t → length l' ≡ length l
grow_length l n t h k e = length_inserted l n t (e ∙ inserted_is l n t h k)

-- ---- `want`
or_left : (a b : Bool) → (a || b) ≡ false → a ≡ false
or_left true b e = e
or_left false b e = refl

or_second : (a b : Bool) → (a || b) ≡ false → b ≡ false
or_second true b e = absurd (let z : ◌≡◌ {A = ℕ} 0 1 = cc in omega arith)
or_second false b e = e

-- what good form gives of the counts of a direction
pub record Ready (k : Counts) (n side : ℕ) : Type 0 where
  pub few : n ≤ 256
  pub us : side < 2
  pub top : k.rmax ≤ 1152921504606846976
  pub own : k.next ≤ 1152921504606846976
  pub less : k.ralloc ≤ k.rmax

counts_own : (k : Counts) → good_counts k ≡ true → k.next ≤ 1152921504606846976
unfolding good_counts
counts_own k e = leb-true k.next (2 ^ 60) (and_left (leb k.next (2 ^ 60)) _ e)

counts_top : (k : Counts) → good_counts k ≡ true → (k.rmax ≤ 1152921504606846976) × (k.ralloc ≤ k.rmax)
unfolding good_counts
counts_top k e =
    let a = and_right (leb k.rnext k.rmax) _ (and_right (leb k.max (2 ^ 60)) _ (and_right (leb k.next (2 ^ 60)) _ e)) in
    (leb-true k.rmax (2 ^ 60) (and_left (leb k.rmax (2 ^ 60)) _ a), leb-true k.ralloc k.rmax (and_right (leb k.rwant k.ralloc) _ (and_right (leb k.rmax (2 ^ 60)) _ a)))

conn_tail : (c : Conn) → good_conn c ≡ true → (ltb c.side 2 ≡ true) × (good_counts c.bi ≡ true) × (good_counts c.uni ≡ true)
unfolding good_conn
conn_tail c e =
    let a = and_right (ltb c.grant (2 ^ 62)) _ (and_right (leb c.charged c.grant) _ (and_right (leb c.closed c.charged) _ e)) in
    let b = and_right (ltb c.swindow (2 ^ 62)) _ (and_right (ltb c.window (2 ^ 62)) _ (and_right (ltb c.side 2) _ a)) in
    (and_left (ltb c.side 2) _ a, and_left (good_counts c.bi) _ b, and_right (good_counts c.bi) _ b)

pub ready : (c : Conn) (l : List ℕ) (n dir : ℕ) {g : Bool} → g ≡ sound_b c l n → not g ≡ false → {k : Counts} → k ≡ counts_of c dir → Ready k n c.side
ready c l n dir {g} eg e {k} ek =
    let s : sound_b c l n ≡ true = sym eg ∙ not-false g e in
    let t = conn_tail c (sound_conn c l n s) in
    let gk : good_counts k ≡ true = ap good_counts ek ∙ by_cond (λ (x : Counts). good_counts x ≡ true) (eqb dir 1) c.uni c.bi (λ _. t.2) (λ _. t.1) in
    let tp = counts_top k gk in
    record { few = sound_few c l n s; us = ltb-true c.side 2 t.0; top = tp.0; own = counts_own k gk; less = tp.1 }

module _ (c : Conn) (l : List ℕ) (n dir desired : ℕ) {g : Bool} (h : (ltb 1 dir || ltb (2 ^ 60) desired) ≡ false) (eg : g ≡ sound_b c l n) (e : not g ≡ false)
    {k : Counts} {m q : ℕ} (ek : k ≡ counts_of c dir) (em : m ≡ desired - k.ralloc) (eq : q ≡ 2 ^ 60 - k.rmax) (a : m ≤ q) where
  pub want_sum : n + m < 18446744073709551616
  want_sum =
      let w = ready c l n dir eg e ek in
      omega (arith, w.few, w.top)

  pub want_mul : 7 * (n + m) < 18446744073709551616
  want_mul =
      let w = ready c l n dir eg e ek in
      omega (arith, w.few, w.top)

  pub want_fits : (ltb 256 (n + m) || ltb (length l) (7 * (n + m))) ≡ false → (n + m ≤ 256) × (7 * (n + m) ≤ length l) × (k.rmax + m ≤ 1152921504606846976) × (k.ralloc ≤ k.rmax) × (dir ≤ 1) × (c.side ≤ 1)
  want_fits b =
      let w = ready c l n dir eg e ek in
      (ltb-false 256 (n + m) (or_left (ltb 256 (n + m)) _ b), ltb-false (length l) (7 * (n + m)) (or_second (ltb 256 (n + m)) _ b), omega (arith, w.top), w.less, ltb-false 1 dir (or_left (ltb 1 dir) _ h), omega (arith, w.us))
