-- 0-RTT is rejected, case by case.
-- Assumes nothing.
use mathlib.Core.Path.{◌≡◌, refl, ap, sym, ◌∙◌}
use mathlib.Core.Bool.{Bool, true, false, cond}
use mathlib.Core.List.{List, [], ◌∷◌}
use Prim.Native.Nat.{ℕ, ◌+◌, ◌-◌, ◌%◌, ◌≤◌, ◌<◌}
use native.Mathlib.Omega.{arith}
use lib.Dec.{eqb}
use lib.ListN.{length}
use Rattle.stream_record.specs.declared.Stream.{Stream}
use Rattle.stream_conn.specs.declared.Conn.{Conn}
use Rattle.std.specs.Prelude.{Result, Ok, Err}
use Rattle.answers.specs.declared.Refusal.{Refusal}
use Rattle.answers.specs.declared.Refusal.TheVariants.{Range}
use Rattle.stream_table.specs.declared.Stripped.{Stripped}
use Rattle.stream_table.specs.Table.{put_rec, sound_b, records, Left, left, strip_from, stripped, strip_after}
use Rattle.stream_table.proofs.Tables.{by_cond, length_records}
use Rattle.stream_table.proofs.Strips.{stripped_most}
use Rattle.stream_table.proofs.Entries.{sound_conn, sound_sum, sound_flow, conn_most}
use Rattle.stream_places.specs.declared.Changed.{Changed}
use Rattle.stream_places.specs.Places.{grown, changed, refused, rejected_conn, rejected_by, reject_after}

strip_few : (side : ℕ) (l : List ℕ) (w total : ℕ) (ss : List Stream) → (strip_from side l w total ss).out.count ≤ w + length ss
strip_few side l w total [] = omega arith
strip_few side l w total (s ∷ ss) =
    let m : cond (eqb (s.id % 2) side) w (w + 1) ≤ w + 1 = by_cond (λ (x : ℕ). x ≤ w + 1) (eqb (s.id % 2) side) w (w + 1) (λ _. omega arith) (λ _. omega arith) in
    omega (arith, strip_few side (cond (eqb (s.id % 2) side) l (put_rec l w s)) (cond (eqb (s.id % 2) side) w (w + 1)) (cond (eqb (s.id % 2) side) (total + s.end) total) ss)

pub stripped_few : (side : ℕ) (l : List ℕ) (n : ℕ) → (stripped side l n).out.count ≤ n
unfolding stripped
stripped_few side l n = omega (arith, strip_few side l 0 0 (records n l), length_records n l)

-- what stripping answered, where the table is sound and where it is not
abbrev Strip : Type 0
Strip = Left (Result Stripped Refusal)

module _ (c : Conn) (l : List ℕ) (n : ℕ) (x : Left Stripped) where
  no_case : (b : Bool) {t : Result Stripped Refusal} {why : Refusal} {l' : List ℕ} → ◌≡◌ {A = Strip} (left t l') (cond b (left (Ok x.out) x.words) (left (Err Range) l)) → t ≡ Err why
      → grown (Err why) l' ≡ cond b (rejected_by c n x) (refused l Range)
  no_case true {t} {why} es z =
      let y : Err why ≡ Ok x.out = sym z ∙ ap (λ (y : Strip). y.out) es in
      absurd (cc)
  no_case false {t} {why} {l'} es z =
      let y : ◌≡◌ {A = Result Changed Refusal} (Err why) (Err Range) = (let w : ◌≡◌ {A = Result Stripped Refusal} (Err why) (Err Range) = sym z ∙ ap (λ (y : Strip). y.out) es in cc) in
      ap (λ (r : Result Changed Refusal). grown r l') y ∙ ap (λ (y : Strip). grown (Err Range) y.words) es

  sound_case : (b : Bool) {t : Result Stripped Refusal} {s : Stripped} {l' : List ℕ} → ◌≡◌ {A = Strip} (left t l') (cond b (left (Ok x.out) x.words) (left (Err Range) l)) → t ≡ Ok s → (b ≡ true) × (s ≡ x.out) × (l' ≡ x.words)
  sound_case true {t} {s} es z =
      let y : ◌≡◌ {A = Result Stripped Refusal} (Ok s) (Ok x.out) = sym z ∙ ap (λ (y : Strip). y.out) es in
      (refl, (let w : s ≡ x.out = cc in w), ap (λ (y : Strip). y.words) es)
  sound_case false {t} {s} es z =
      let y : ◌≡◌ {A = Result Stripped Refusal} (Ok s) (Err Range) = sym z ∙ ap (λ (y : Strip). y.out) es in
      absurd (cc)

module _ (c : Conn) (l : List ℕ) (n : ℕ) {t : Result Stripped Refusal} {l' : List ℕ} (es : left t l' ≡ strip_after c l n) where
  pub reject_not : {why : Refusal} → t ≡ Err why → grown (Err why) l' ≡ reject_after c l n
  unfolding reject_after strip_after
  reject_not z = no_case c l n (stripped c.side l n) (sound_b c l n) es z

  module _ {s : Stripped} (z : t ≡ Ok s) where
    stripped_now : (sound_b c l n ≡ true) × (s ≡ (stripped c.side l n).out) × (l' ≡ (stripped c.side l n).words)
    unfolding strip_after
    stripped_now = sound_case c l n (stripped c.side l n) (sound_b c l n) es z

    pub reject_done : {d : Conn} {r : Changed} → d ≡ rejected_conn c s.total → r ≡ changed (n - s.count) s.count d → grown (Ok r) l' ≡ reject_after c l n
    unfolding reject_after
    reject_done ed er =
        let p = stripped_now in
        rw (er, ed, p.1, p.2, p.0)

    pub reject_fits : c.closed + s.total < 18446744073709551616
    reject_fits =
        let p = stripped_now in
        let e : sound_b c l n ≡ true = p.0 in
        let a : s.total ≡ (stripped c.side l n).out.total = ap (λ (y : Stripped). y.total) p.1 in
        omega (arith, stripped_most c.side l n, sound_sum c l n e, sound_flow c l n e, conn_most c (sound_conn c l n e))

    pub reject_few : s.count ≤ n
    reject_few =
        let a : s.count ≡ (stripped c.side l n).out.count = ap (λ (y : Stripped). y.count) stripped_now.1 in
        omega (arith, stripped_few c.side l n)

pub ruleset rejects = (reject_not, reject_done, reject_fits, reject_few)
