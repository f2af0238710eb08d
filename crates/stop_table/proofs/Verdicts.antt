-- What the pass comes to is what the definition says: its running numbers check the whole table, what it keeps is the first record of the id, and the verdict is `stop_on`.
-- Assumes nothing.
use mathlib.Core.Path.{◌≡◌, refl, ap, sym, ◌∙◌}
use mathlib.Core.Bool.{Bool, true, false, cond, ◌&&◌}
use mathlib.Core.List.{List, [], ◌∷◌}
use Prim.Native.Nat.{ℕ, zero, suc, ◌+◌, ◌-◌, ◌^◌, ◌≤◌, min}
use native.Mathlib.Omega.{arith}
use lib.Dec.{eqb, ltb, leb}
use lib.ListN.{length, get_or, take, drop, set}
use lib.Seq.{drop-cons, set_out}
use borrow.Author.Tests.{leb-true}
use Rattle.std.specs.Prelude.{Option, Some, None, is_some, Result, Ok, Err}
use Rattle.answers.specs.declared.Refusal.{Refusal}
use Rattle.stream_record.specs.declared.Stream.{Stream}
use Rattle.stream_record.specs.declared.Step.{Step}
use Rattle.stream_record.specs.Record.{none, on_step, halted}
use Rattle.stream_conn.specs.declared.Conn.{Conn}
use Rattle.stream_conn.specs.declared.Done.{Done}
use Rattle.stream_conn.specs.Books.{admitted, good_conn}
use Rattle.stream_table.specs.declared.Place.{Place}
use Rattle.stream_table.specs.Table.{theirs, good_rec, good_from, sum_ends, let_in}
use Rattle.stream_table.proofs.Tables.{by_cond, and_left, and_right, good_id, one_most}
use Rattle.stream_table.proofs.Entries.{good_sum, conn_closed, conn_flow, conn_most}
use Rattle.streams.specs.Calls.{booked, done_of, Fair}
use Rattle.streams.proofs.Fair.{stop_fair}
use Rattle.stop_table.specs.declared.Pass.{Pass}
use Rattle.stop_table.specs.declared.Verdict.{Verdict}
use Rattle.stop_table.specs.Slice.{OnSlice, on_slice, sound_on, seek_from, entered_on, committed_on, stepped_on, by_entry_on, stop_on}
use Rattle.stop_table.specs.Passing.{ALL, lent_places, started, marked, noted, counted, pass_next, pass_on, pass_ends, entry_of, booked_on, settled, settle_step, by_entry_of, verdict_of, judged, written}

-- the m records from place k on
abbrev pub recs_at : List Stream → ℕ → ℕ → List Stream
recs_at ss k zero = []
recs_at ss k (suc m) = get_or ss k none ∷ recs_at ss (suc k) m

recs_from_law : (ss : List Stream) (k m : ℕ) → k + m ≤ length ss → recs_at ss k m ≡ take m (drop k ss)
recs_from_law ss k zero h = refl
recs_from_law ss k (suc m) h =
    ap (λ (r : List Stream). get_or ss k none ∷ r) (recs_from_law ss (suc k) m (omega arith)) ∙ ap (take (suc m)) (sym (drop-cons ss k none (omega arith)))

pub recs_take : (ss : List Stream) (n : ℕ) → n ≤ length ss → recs_at ss 0 n ≡ take n ss
recs_take ss n h = recs_from_law ss 0 n (omega arith)

-- ---- what a record changes
-- looking for a stream leaves the running numbers
record Same (p a : Pass) : Type 0 where
  good : p.good ≡ a.good
  low : p.low ≡ a.low
  left : p.left ≡ a.left
  both : p.both ≡ a.both
  one : p.one ≡ a.one

noted_same : (id k : ℕ) (s : Stream) (a : Pass) → Same (noted id k s a) a
unfolding noted
noted_same id k s a =
    let same : Same a a = record { good = refl; low = refl; left = refl; both = refl; one = refl } in
    by_cond (λ (p : Pass). Same p a) (is_some a.found) a (cond (eqb s.id id) (marked k s a) a) (λ _. same) (λ _.
    by_cond (λ (p : Pass). Same p a) (eqb s.id id) (marked k s a) a (λ _. record { good = refl; low = refl; left = refl; both = refl; one = refl }) (λ _. same))

shift : (g r x y z : Bool) → ((g && (r && (x && y))) && z) ≡ (g && (r && (x && (y && z))))
shift true true true y z = refl
shift true true false y z = refl
shift true false x y z = refl
shift false r x y z = refl

-- what stands behind a test is asked only where the test holds
behind : (g r x y : Bool) {z w : Bool} → (r ≡ true → z ≡ w) → (g && (r && (x && (y && z)))) ≡ (g && (r && (x && (y && w))))
behind g true x y h = ap (λ (b : Bool). g && (x && (y && b))) (h refl)
behind g false x y h = refl

-- what is known after some records, against `good_from` of the rest
abbrev checks : Conn → List Stream → Pass → Bool
checks c ss a = a.good && good_from c ss a.low a.left a.both a.one

checks_same : (c : Conn) (ss : List Stream) {p a : Pass} → Same p a → checks c ss p ≡ checks c ss a
checks_same c ss {p} {a} e = rw (e.good, e.low, e.left, e.both, e.one)

counted_checks : (c : Conn) (s : Stream) (ss : List Stream) (a : Pass) → a.both + 1 ≤ ALL → a.one + 1 ≤ ALL → checks c ss (counted c s a) ≡ checks c (s ∷ ss) a
unfolding counted
counted_checks c s ss a hb ho =
    let eb : min (a.both + theirs c 0 s.id) ALL ≡ a.both + theirs c 0 s.id = omega (arith, one_most c 0 s.id) in
    let eo : min (a.one + theirs c 1 s.id) ALL ≡ a.one + theirs c 1 s.id = omega (arith, one_most c 1 s.id) in
    shift a.good (good_rec c s) (leb a.low s.id) (leb s.end a.left) _
    ∙ behind a.good (good_rec c s) (leb a.low s.id) (leb s.end a.left) (λ h.
    let el : min (s.id + 1) ALL ≡ s.id + 1 = omega (arith, good_id c s h) in
    rw (el, eb, eo))

counted_both : (c : Conn) (s : Stream) (a : Pass) → ((counted c s a).both ≤ a.both + 1) × ((counted c s a).one ≤ a.one + 1)
unfolding counted
counted_both c s a = (omega (arith, one_most c 0 s.id), omega (arith, one_most c 1 s.id))

ends_are : (c : Conn) (a : Pass) → pass_ends c a ≡ checks c [] a
unfolding pass_ends
ends_are c a = refl

pub pass_ends_law : (c : Conn) (id : ℕ) (ss : List Stream) (k m : ℕ) (a : Pass) → a.both + m ≤ ALL → a.one + m ≤ ALL → pass_ends c (pass_on c id ss k m a) ≡ checks c (recs_at ss k m) a
pass_ends_law c id ss k zero a hb ho = ends_are c a
pass_ends_law c id ss k (suc m) a hb ho =
    let s : Stream = get_or ss k none in
    let p : Pass = noted id k s a in
    let e : Same p a = noted_same id k s a in
    let b = counted_both c s p in
    pass_ends_law c id ss (suc k) m (counted c s p) (omega (arith, b.0, e.both)) (omega (arith, b.1, e.one))
    ∙ counted_checks c s (recs_at ss (suc k) m) p (omega (arith, e.both)) (omega (arith, e.one))
    ∙ checks_same c (s ∷ recs_at ss (suc k) m) e

-- the first record of the id, or what was found before
abbrev first : Option Place → Option Place → Option Place
first None x = x
first (Some p) x = Some p

first_some : (f x y : Option Place) → is_some f ≡ true → first f x ≡ first f y
first_some (Some p) x y e = refl
first_some None x y e = absurd (let z : ◌≡◌ {A = ℕ} 0 1 = cc in omega arith)

first_none : (f x : Option Place) → is_some f ≡ false → x ≡ first f x
first_none (Some p) x e = absurd (let z : ◌≡◌ {A = ℕ} 0 1 = cc in omega arith)
first_none None x e = refl

first_last : (f : Option Place) → f ≡ first f None
first_last (Some p) = refl
first_last None = refl

abbrev here : ℕ → Stream → Option Place
here k s = Some (record { at = k; stream = s })

counted_seen : (c : Conn) (s : Stream) (a : Pass) (x : Option Place) → first (counted c s a).found x ≡ first a.found x
unfolding counted
counted_seen c s a x = refl

noted_seen : (id k : ℕ) (s : Stream) (a : Pass) (x : Option Place) → first (noted id k s a).found x ≡ first a.found (cond (eqb s.id id) (here k s) x)
unfolding noted
noted_seen id k s a x =
    by_cond (λ (p : Pass). first p.found x ≡ first a.found (cond (eqb s.id id) (here k s) x)) (is_some a.found) a (cond (eqb s.id id) (marked k s a) a)
    (λ e. first_some a.found x (cond (eqb s.id id) (here k s) x) e)
    (λ e. by_cond (λ (p : Pass). first p.found x ≡ first a.found (cond (eqb s.id id) (here k s) x)) (eqb s.id id) (marked k s a) a
    (λ h. rw (h) (first_none a.found (here k s) e)) (λ h. rw (h)))

pub pass_seen : (c : Conn) (id : ℕ) (ss : List Stream) (k m : ℕ) (a : Pass) → (pass_on c id ss k m a).found ≡ first a.found (seek_from k (recs_at ss k m) id)
pass_seen c id ss k zero a = first_last a.found
pass_seen c id ss k (suc m) a =
    let s : Stream = get_or ss k none in
    pass_seen c id ss (suc k) m (pass_next c id k s a) ∙ counted_seen c s (noted id k s a) (seek_from (suc k) (recs_at ss (suc k) m) id) ∙ noted_seen id k s a (seek_from (suc k) (recs_at ss (suc k) m) id)

-- ---- the pass over a whole table
module _ (c : Conn) (len n : ℕ) where
  started_checks : (ss : List Stream) → checks c ss (started c len n) ≡ ((leb n 256 && (leb n len && good_conn c)) && good_from c ss 0 (c.charged - c.closed) 0 0)
  unfolding started
  started_checks ss = refl

  started_seen : (x : Option Place) → first (started c len n).found x ≡ x
  unfolding started
  started_seen x = refl

  started_zero : ((started c len n).both ≡ 0) × ((started c len n).one ≡ 0)
  unfolding started
  started_zero = (refl, refl)

three : (a b d z : Bool) → ((a && (b && d)) && z) ≡ (a && (b && (d && z)))
three true true d z = refl
three true false d z = refl
three false b d z = refl

lent_any : (a b z : Bool) → (a && b) ≡ false → (a && (b && z)) ≡ false
lent_any true true z e = absurd (let y : ◌≡◌ {A = ℕ} 0 1 = cc in omega arith)
lent_any true false z e = refl
lent_any false b z e = refl

and_false : (a : Bool) → (a && false) ≡ false
and_false true = refl
and_false false = refl

by_bool : {P : Type 0} (b : Bool) → (b ≡ true → P) → (b ≡ false → P) → P
by_bool true f g = f refl
by_bool false f g = g refl

module _ (c : Conn) (ss : List Stream) (n id : ℕ) where
  abbrev lent : Bool
  lent = leb n 256 && leb n (length ss)

  abbrev passed : Pass
  passed = pass_on c id ss 0 (lent_places (length ss) n) (started c (length ss) n)

  places_few : lent_places (length ss) n ≤ 256
  unfolding lent_places
  places_few = by_cond (λ (m : ℕ). m ≤ 256) lent n 0 (λ h. leb-true n 256 (and_left (leb n 256) _ h)) (λ _. omega arith)

  places_all : lent ≡ true → lent_places (length ss) n ≡ n
  unfolding lent_places
  places_all h = rw h

  recs_all : lent ≡ true → recs_at ss 0 (lent_places (length ss) n) ≡ take n ss
  recs_all h = ap (recs_at ss 0) (places_all h) ∙ recs_take ss n (leb-true n (length ss) (and_right (leb n 256) _ h))

  passed_ends : pass_ends c passed ≡ ((leb n 256 && (leb n (length ss) && good_conn c)) && good_from c (recs_at ss 0 (lent_places (length ss) n)) 0 (c.charged - c.closed) 0 0)
  passed_ends =
      let z = started_zero c (length ss) n in
      pass_ends_law c id ss 0 (lent_places (length ss) n) (started c (length ss) n) (omega (arith, places_few, z.0)) (omega (arith, places_few, z.1)) ∙ started_checks c (length ss) n (recs_at ss 0 (lent_places (length ss) n))

  passed_sound : pass_ends c passed ≡ sound_on c ss n
  unfolding sound_on
  passed_sound =
      by_bool lent
      (λ h. passed_ends ∙ ap (λ (rs : List Stream). (leb n 256 && (leb n (length ss) && good_conn c)) && good_from c rs 0 (c.charged - c.closed) 0 0) (recs_all h) ∙ three (leb n 256) (leb n (length ss)) (good_conn c) _)
      (λ h. passed_ends ∙ three (leb n 256) (leb n (length ss)) (good_conn c) _ ∙ lent_any (leb n 256) (leb n (length ss)) _ h ∙ sym (lent_any (leb n 256) (leb n (length ss)) _ h))

  sound_lent : sound_on c ss n ≡ true → lent ≡ true
  unfolding sound_on
  sound_lent e =
      let a = and_right (leb n 256) _ e in
      rw (and_left (leb n 256) _ e) (and_left (leb n (length ss)) _ a)

  passed_seen : lent ≡ true → passed.found ≡ seek_from 0 (take n ss) id
  passed_seen h =
      pass_seen c id ss 0 (lent_places (length ss) n) (started c (length ss) n)
      ∙ started_seen c (length ss) n (seek_from 0 (recs_at ss 0 (lent_places (length ss) n)) id)
      ∙ ap (λ (rs : List Stream). seek_from 0 rs id) (recs_all h)

  pub passed_entry : entry_of c id passed ≡ entered_on c ss n id
  unfolding entry_of entered_on
  passed_entry =
      by_bool (sound_on c ss n)
      (λ h. rw (passed_sound, passed_seen (sound_lent h)))
      (λ h. rw (passed_sound, h, and_false (ltb id (2 ^ 62))))

  -- ---- what a place tells
  pub sound_good : sound_on c ss n ≡ true → (good_conn c && good_from c (take n ss) 0 (c.charged - c.closed) 0 0) ≡ true
  unfolding sound_on
  sound_good e = and_right (leb n (length ss)) _ (and_right (leb n 256) _ e)

seek_end : (k : ℕ) (ss : List Stream) (id : ℕ) (p : Place) → seek_from k ss id ≡ Some p → p.stream.end ≤ sum_ends ss
seek_end k [] id p = λ e. absurd (cc)
seek_end k (t ∷ ss) id p =
    by_cond (λ (x : Option Place). x ≡ Some p → p.stream.end ≤ t.end + sum_ends ss) (eqb t.id id) (here k t) (seek_from (suc k) ss id)
    (λ _ e. let q : ◌≡◌ {A = Place} (record { at = k; stream = t }) p = cc in omega (arith, ap (λ (y : Place). y.stream.end) q))
    (λ _ e. omega (arith, seek_end (suc k) ss id p e))

let_in_some : (o : Option Place) (r : Result (Unit {0}) Refusal) (p : Place) → let_in o r ≡ Ok (Some p) → o ≡ Some p
let_in_some o (Ok u) p e = cc
let_in_some o (Err why) p e = absurd (cc)

-- a place is one of a sound table
pub record Stands (c : Conn) (ss : List Stream) (n id : ℕ) (p : Place) : Type 0 where
  pub sound : sound_on c ss n ≡ true
  pub found : seek_from 0 (take n ss) id ≡ Some p

pub stands : (c : Conn) (ss : List Stream) (n id : ℕ) (p : Place) → entered_on c ss n id ≡ Ok (Some p) → Stands c ss n id p
unfolding entered_on
stands c ss n id p =
    by_cond (λ (x : Result (Option Place) Refusal). x ≡ Ok (Some p) → Stands c ss n id p) (ltb id (2 ^ 62) && sound_on c ss n) _ _
    (λ h e. record { sound = and_right (ltb id (2 ^ 62)) _ h; found = let_in_some (seek_from 0 (take n ss) id) (admitted c id) p e })
    (λ _ e. absurd (cc))

-- the books don't pass the largest number
books_fit : (c : Conn) (ss : List Stream) (n id : ℕ) (p : Place) (t : Step) → Stands c ss n id p → halted p.stream ≡ Ok (Some t) → (c.charged + t.charge ≤ ALL) × (c.closed + t.shut ≤ ALL)
books_fit c ss n id p t h r =
    let g = sound_good c ss n id h.sound in
    let k : good_conn c ≡ true = and_left (good_conn c) _ g in
    let e : p.stream.end ≤ sum_ends (take n ss) = seek_end 0 (take n ss) id p h.found in
    let u : sum_ends (take n ss) ≡ c.charged - c.closed = good_sum c (take n ss) 0 (c.charged - c.closed) 0 0 (and_right (good_conn c) _ g) in
    let f : Fair p.stream (c.grant - c.charged) (halted p.stream) = stop_fair p.stream (c.grant - c.charged) in
    let x : on_step 0 (λ (y : Step). y.charge) (halted p.stream) ≡ t.charge = ap (on_step 0 (λ (y : Step). y.charge)) r in
    let z : on_step 0 (λ (y : Step). y.shut) (halted p.stream) ≡ t.shut = ap (on_step 0 (λ (y : Step). y.shut)) r in
    let a = f.0 in
    let b = f.1 in
    (omega (arith, a, x, conn_flow c k, conn_most c k), omega (arith, a, b, x, z, e, u, conn_closed c k, conn_flow c k, conn_most c k))

booked_on_law : (c : Conn) (p : Step) → c.charged + p.charge ≤ ALL → c.closed + p.shut ≤ ALL → booked_on c p ≡ booked c p.charge p.shut p.credit
unfolding booked_on booked
booked_on_law c p h k =
    let e₁ : min (c.charged + p.charge) ALL ≡ c.charged + p.charge = omega arith in
    let e₂ : min (c.closed + p.shut) ALL ≡ c.closed + p.shut = omega arith in
    rw (e₁, e₂)

-- ---- the verdict, carried out
abbrev pub carried : List Stream → Result Verdict Refusal → OnSlice
carried ss (Ok v) = on_slice (Ok v.done) (written ss v.write)
carried ss (Err why) = on_slice (Err why) ss

settled_carried : (c : Conn) (ss : List Stream) (i id : ℕ) (p : Step) → booked_on c p ≡ booked c p.charge p.shut p.credit → carried ss (Ok (settled c i p)) ≡ committed_on c ss i id p
unfolding settled committed_on booked_on
settled_carried c ss i id p e = ap (λ (d : Conn). on_slice (Ok (done_of p d)) (set ss i p.stream)) e

step_carried : (c : Conn) (ss : List Stream) (n id : ℕ) (p : Place) → Stands c ss n id p → (r : Result (Option Step) Refusal) → halted p.stream ≡ r
    → carried ss (settle_step c p.at r) ≡ stepped_on c ss p.at id r
step_carried c ss n id p h (Ok (Some t)) e =
    let f = books_fit c ss n id p t h e in
    settled_carried c ss p.at id t (booked_on_law c t f.0 f.1)
step_carried c ss n id p h (Ok None) e = refl
step_carried c ss n id p h (Err why) e = refl

entry_carried : (c : Conn) (ss : List Stream) (n id : ℕ) (x : Result (Option Place) Refusal) → entered_on c ss n id ≡ x → carried ss (by_entry_of c x) ≡ by_entry_on c ss id x
entry_carried c ss n id (Ok (Some p)) e = step_carried c ss n id p (stands c ss n id p e) (halted p.stream) refl
entry_carried c ss n id (Ok None) e = refl
entry_carried c ss n id (Err why) e = refl

pub stop_is : (c : Conn) (ss : List Stream) (n id : ℕ) {r : Result Verdict Refusal} → r ≡ judged c ss n id → carried ss r ≡ stop_on c ss n id
unfolding judged verdict_of stop_on
stop_is c ss n id e =
    ap (carried ss) e
    ∙ ap (λ (x : Result (Option Place) Refusal). carried ss (by_entry_of c x)) (passed_entry c ss n id)
    ∙ entry_carried c ss n id (entered_on c ss n id) refl

-- ---- `stop`: a refusal leaves the records, and a verdict is carried out
module _ (c : Conn) (ss : List Stream) (n id : ℕ) {r : Result Verdict Refusal} (er : r ≡ judged c ss n id) where
  pub stop_refused : {why : Refusal} {d : Result Done Refusal} → r ≡ Err why → d ≡ Err why → on_slice d ss ≡ stop_on c ss n id
  stop_refused e ed = ap (λ (x : Result Done Refusal). on_slice x ss) ed ∙ ap (carried ss) (sym e) ∙ stop_is c ss n id er

  pub stop_done : {v : Verdict} {l : List Stream} → r ≡ Ok v → l ≡ written ss v.write → on_slice (Ok v.done) l ≡ stop_on c ss n id
  stop_done {v} e el = ap (on_slice (Ok v.done)) el ∙ ap (carried ss) (sym e) ∙ stop_is c ss n id er

-- ---- `write`
module _ (ss : List Stream) {o : Option Place} where
  pub write_none : o ≡ None → ss ≡ written ss o
  write_none e = ap (written ss) (sym e)

  pub write_out : {p : Place} → o ≡ Some p → length ss ≤ p.at → ss ≡ written ss o
  write_out {p} e h = sym (set_out ss p.at p.stream h) ∙ ap (written ss) (sym e)

  pub write_in : {p : Place} → o ≡ Some p → set ss p.at p.stream ≡ written ss o
  write_in e = ap (written ss) (sym e)

pub ruleset writes = (write_none, write_out, write_in)
