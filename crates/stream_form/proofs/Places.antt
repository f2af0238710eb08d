-- The calls that move places keep good form, and charge and credit nothing: a fresh id was not admitted before, so it is in no record; a record that goes
-- has nothing to its charge, or its end goes to the closed total.
-- Assumes nothing.
use mathlib.Core.Path.{◌≡◌, refl, ap, sym, ◌∙◌, subst}
use mathlib.Core.Bool.{Bool, true, false, cond, ◌&&◌, ◌||◌}
use mathlib.Core.List.{List, [], ◌∷◌}
use Prim.Native.Nat.{ℕ, zero, suc, ◌+◌, ◌*◌, ◌-◌, ◌/◌, ◌%◌, ◌^◌, ◌≤◌, ◌<◌}
use native.Mathlib.Omega.{arith}
use lib.Dec.{eqb, ltb, leb}
use lib.ListN.{length, get_or}
use borrow.Author.Tests.{lt-ltb, le-leb, lt-leb, eq-eqb, eqb-true, ltb-true, ltb-false, leb-false}
use Rattle.std.specs.Prelude.{Option, Some, None, Result, Ok, Err, is_ok}
use Rattle.answers.specs.declared.Refusal.{Refusal}
use Rattle.stream_record.specs.declared.Stream.{Stream}
use Rattle.stream_record.specs.Record.{none, fresh}
use Rattle.stream_conn.specs.declared.Counts.{Counts}
use Rattle.stream_conn.specs.declared.Conn.{Conn}
use Rattle.stream_conn.specs.declared.Given.{Given}
use Rattle.stream_conn.specs.declared.Release.{Release}
use Rattle.stream_conn.specs.Books.{counts_of, with_bi, with_uni, with_dir, admitted, given, alike, released_by, released}
use Rattle.stream_table.specs.declared.Place.{Place}
use Rattle.stream_table.specs.declared.Stripped.{Stripped}
use Rattle.stream_table.specs.Table.{theirs, good_rec, rec_at, records, find_from, find_in, sound_b, entered, has_place, insert_id, inserted, removed, put_recs, Left}
use Rattle.stream_table.proofs.Tables.{by_cond, and_left, records_at, length_records}
use Rattle.stream_table.proofs.Shape.{length_put, length_inserted, length_removed, has_room, has_few}
use Rattle.stream_table.proofs.Entries.{sound_few, sound_room, at_place, place_below}
use Rattle.stream_places.specs.Places.{conn_after, count_after, moved, Grown, freed, free_by, free_after, grown_by, granted, first_id, grant_after, wanted, want_after, opened, next_id, open_in, open_after, unopened, rejected_conn, rejected_by, reject_after}
use Rattle.stream_form.specs.Form.{sum_of, read_of, ours, unread, Booked}
use Rattle.stream_form.proofs.Facts.{or_left, or_right, Numbers, rec_admits, rec_numbers, rec_shut, Counted, Formed, formed_dir, counted_dir, theirs_below, Wider, wider_dir, theirs_side}
use Rattle.stream_form.proofs.Lists.{drop_at, keep, read_ours, inserted_records, removed_records, good_at, good_keep, rising_keep, length_keep, sum_insert, sum_drop, sum_keep, sum_same, stripped_is, records_put}
use Rattle.stream_form.proofs.Tabled.{num, way, mine, Table, sound_form, sound_table, sound_shut, table_insert, table_drop, fresh_numbers}
use Rattle.stream_form.proofs.Calls.{by_bool, not_booked}
use Rattle.stream_form.proofs.Conns.{dir_booked}

never_false : false ≡ true → ⊥
never_false p = let z : ◌≡◌ {A = ℕ} 0 1 = cc in omega arith

-- ---- what is found has the id that was looked for
never : (j : ℕ) → None ≡ Some j → ⊥
never j p = let z : ◌≡◌ {A = ℕ} 0 1 = cc in omega arith

found_case : (b : Bool) (k j id : ℕ) (s : Stream) (ss : List Stream) (r : Option ℕ) → eqb s.id id ≡ b → (r ≡ Some j → (suc k ≤ j) × ((get_or ss (j - suc k) none).id ≡ id)) → cond b (Some k) r ≡ Some j
    → (k ≤ j) × ((get_or (s ∷ ss) (j - k) none).id ≡ id)
found_case true k j id s ss r e f p =
    let q : k ≡ j = cc in
    let z : j - k ≡ 0 = omega arith in
    (omega arith, ap (λ (m : ℕ). (get_or (s ∷ ss) m none).id) z ∙ eqb-true s.id id e)
found_case false k j id s ss r e f p =
    let h = f p in
    let lt : suc k ≤ j = h.0 in
    let z : j - k ≡ suc (j - suc k) = omega arith in
    (omega arith, ap (λ (m : ℕ). (get_or (s ∷ ss) m none).id) z ∙ h.1)

found_from : (k : ℕ) (ss : List Stream) (id j : ℕ) → find_from k ss id ≡ Some j → (k ≤ j) × ((get_or ss (j - k) none).id ≡ id)
found_from k [] id j e = absurd (never j e)
found_from k (s ∷ ss) id j e = found_case (eqb s.id id) k j id s ss (find_from (suc k) ss id) refl (λ p. found_from (suc k) ss id j p) e

found_id : (ss : List Stream) (id j : ℕ) → find_in ss id ≡ Some j → (get_or ss j none).id ≡ id
unfolding find_in
found_id ss id j e =
    let z : j - 0 ≡ j = omega arith in
    ap (λ (m : ℕ). (get_or ss m none).id) (sym z) ∙ (found_from 0 ss id j e).1

-- ---- ids: who, which way, which index
pub record Named (id side dir index : ℕ) : Type 0 where
  pub who : id % 2 ≡ side
  pub way : id / 2 % 2 ≡ dir
  pub nth : id / 4 ≡ index

named_alike : (id r : ℕ) → Named (4 * r + id % 4) (id % 2) (id / 2 % 2) r
named_alike id r = record { who = omega arith; way = omega arith; nth = omega arith }

named_by : (r dir side : ℕ) → dir ≤ 1 → side ≤ 1 → Named (4 * r + 2 * dir + side) side dir r
named_by r dir side h k = record { who = omega arith; way = omega arith; nth = omega arith }

-- a stream of the peer's below its maximum is admitted, and one at its maximum is not
module _ (c : Conn) (id who dir index : ℕ) (nm : Named id who dir index) (n : eqb who c.side ≡ false) where
  pub peer_admitted : index < (counts_of c dir).rmax → is_ok (admitted c id) ≡ true
  unfolding admitted
  peer_admitted h = rw (nm.who, n, nm.way, nm.nth, lt-leb (counts_of c dir).rmax index h)

  pub peer_over : (counts_of c dir).rmax ≤ index → is_ok (admitted c id) ≡ true → ⊥
  unfolding admitted
  peer_over h a =
      let z : false ≡ true = rw (nm.who, n, nm.way, nm.nth, le-leb (counts_of c dir).rmax index h) at a in
      never_false z

  pub peer_one : (k : ℕ) → theirs c k id ≡ cond (eqb dir k) 1 0
  unfolding theirs
  peer_one k = rw (nm.who, n, nm.way)

-- ours both ways
module _ (c : Conn) (id who index : ℕ) (nm : Named id who 0 index) (n : eqb who c.side ≡ true) where
  own_admitted : index < c.bi.next → is_ok (admitted c id) ≡ true
  unfolding admitted
  own_admitted h = rw (nm.who, n, nm.way, nm.nth, lt-leb c.bi.next index h)

  own_over : c.bi.next ≤ index → is_ok (admitted c id) ≡ true → ⊥
  unfolding admitted
  own_over h a =
      let z : false ≡ true = rw (nm.who, n, nm.way, nm.nth, le-leb c.bi.next index h) at a in
      never_false z

own_none : (c : Conn) (id k : ℕ) → eqb (id % 2) c.side ≡ true → theirs c k id ≡ 0
unfolding theirs
own_none c id k n = rw n

dir_num : (dir : ℕ) → dir < 2 → (b : Bool) → eqb dir 1 ≡ b → dir ≡ num b
dir_num zero h true e = absurd (let z : ◌≡◌ {A = ℕ} 0 1 = cc in omega arith)
dir_num zero h false e = refl
dir_num (suc zero) h true e = refl
dir_num (suc zero) h false e = absurd (let z : ◌≡◌ {A = ℕ} 0 1 = cc in omega arith)
dir_num (suc (suc x)) h b e = absurd (omega arith)

wider_refl : (c : Conn) → Wider c c
wider_refl c = record { us = refl; own = omega arith; bis = omega arith; unis = omega arith }

-- the connection with the counts of a direction changed: nothing else moves
module _ (c : Conn) (k : Counts) where
  pub dir_charged : (b : Bool) → (cond b (with_uni c k) (with_bi c k)).charged ≡ c.charged
  dir_charged = by_bool (λ (b : Bool). (cond b (with_uni c k) (with_bi c k)).charged ≡ c.charged) refl refl

  pub dir_closed : (b : Bool) → (cond b (with_uni c k) (with_bi c k)).closed ≡ c.closed
  dir_closed = by_bool (λ (b : Bool). (cond b (with_uni c k) (with_bi c k)).closed ≡ c.closed) refl refl

  pub dir_grant : (b : Bool) → (cond b (with_uni c k) (with_bi c k)).grant ≡ c.grant
  dir_grant = by_bool (λ (b : Bool). (cond b (with_uni c k) (with_bi c k)).grant ≡ c.grant) refl refl

  pub dir_debt : (b : Bool) → (cond b (with_uni c k) (with_bi c k)).debt ≡ c.debt
  dir_debt = by_bool (λ (b : Bool). (cond b (with_uni c k) (with_bi c k)).debt ≡ c.debt) refl refl

  pub dir_window : (b : Bool) → (cond b (with_uni c k) (with_bi c k)).window ≡ c.window
  dir_window = by_bool (λ (b : Bool). (cond b (with_uni c k) (with_bi c k)).window ≡ c.window) refl refl

  pub dir_swindow : (b : Bool) → (cond b (with_uni c k) (with_bi c k)).swindow ≡ c.swindow
  dir_swindow = by_bool (λ (b : Bool). (cond b (with_uni c k) (with_bi c k)).swindow ≡ c.swindow) refl refl

  pub dir_side : (b : Bool) → (cond b (with_uni c k) (with_bi c k)).side ≡ c.side
  dir_side = by_bool (λ (b : Bool). (cond b (with_uni c k) (with_bi c k)).side ≡ c.side) refl refl

  pub dir_counts : (b : Bool) → way b (cond b (with_uni c k) (with_bi c k)) ≡ k
  dir_counts = by_bool (λ (b : Bool). way b (cond b (with_uni c k) (with_bi c k)) ≡ k) refl refl

  pub dir_again : (k' : Counts) (b : Bool) → cond b (with_uni (cond b (with_uni c k) (with_bi c k)) k') (with_bi (cond b (with_uni c k) (with_bi c k)) k') ≡ cond b (with_uni c k') (with_bi c k')
  dir_again k' = by_bool (λ (b : Bool). cond b (with_uni (cond b (with_uni c k) (with_bi c k)) k') (with_bi (cond b (with_uni c k) (with_bi c k)) k') ≡ cond b (with_uni c k') (with_bi c k')) refl refl

-- what is counted of each direction where one stream of direction b more, or less, is allocated
more_ra : (c : Conn) (k : Counts) (b : Bool) → k.ralloc ≡ 1 + (way b c).ralloc → (x : Bool) → (way x (cond b (with_uni c k) (with_bi c k))).ralloc ≡ cond (eqb (num b) (num x)) 1 0 + (way x c).ralloc
more_ra c k true e true = e
more_ra c k true e false = omega arith
more_ra c k false e true = omega arith
more_ra c k false e false = e

less_ra : (c : Conn) (k : Counts) (b : Bool) → k.ralloc ≡ (way b c).ralloc - 1 → (x : Bool) (m : ℕ) → cond (eqb (num b) (num x)) 1 0 + m ≡ (way x c).ralloc → m ≡ (way x (cond b (with_uni c k) (with_bi c k))).ralloc
less_ra c k true e true m h = omega arith
less_ra c k true e false m h = omega arith
less_ra c k false e true m h = omega arith
less_ra c k false e false m h = omega arith

-- ---- nothing is booked where only places move
moved_booked : (c d : Conn) (l k : List ℕ) (n m : ℕ) → sound_b c l n ≡ true → sound_b d k m ≡ true → d.charged ≡ c.charged → d.closed ≡ c.closed → d.grant ≡ c.grant → d.debt ≡ c.debt → d.window ≡ c.window
    → sum_of read_of (records m k) ≡ sum_of read_of (records n l) → Booked c l n 0 0 0 0 d k m
moved_booked c d l k n m e e' ch cl gr de wi rd =
    let most : c.grant < 2 ^ 62 = (sound_form c l n e).most in
    record { sound = e'; charged = omega arith; grant = omega arith; debt = omega arith; window = wi; reads = omega arith }

-- ---- one more stream, of an id that was not admitted
put_in : (c d : Conn) (l : List ℕ) (n : ℕ) (x : Stream) → sound_b c l n ≡ true → n < 256 → 7 * n + 7 ≤ length l → Formed d → Wider c d → (is_ok (admitted c x.id) ≡ true → ⊥) → is_ok (admitted d x.id) ≡ true → Numbers x → x.end ≡ 0 → x.read ≡ 0
    → d.charged ≡ c.charged → d.closed ≡ c.closed → ((b : Bool) → (way b d).ralloc ≡ mine c b x + (way b c).ralloc)
    → (sound_b d (inserted l n x) (n + 1) ≡ true) × (sum_of read_of (records (n + 1) (inserted l n x)) ≡ sum_of read_of (records n l))
put_in c d l n x e few room f w out inn nx ze zr ch cl ra =
    let rs : records (n + 1) (inserted l n x) ≡ insert_id x (records n l) = inserted_records l n x room in
    let t : Table d (insert_id x (records n l)) = table_insert c d w (records n l) (sound_table c l n e) x out inn nx ze ch cl ra in
    let s : sum_of read_of (insert_id x (records n l)) ≡ x.read + sum_of read_of (records n l) = sum_insert read_of x (records n l) in
    let len : length (inserted l n x) ≡ length l = length_inserted l n x refl in
    (sound_shut d (inserted l n x) (n + 1) (omega arith) (omega arith) f (rw rs t), ap (sum_of read_of) rs ∙ omega arith)

-- ---- `want`: one stream at a time
abbrev plus : Counts → ℕ → Counts
plus k m = record { next = k.next; max = k.max; rmax = k.rmax + m; ralloc = k.ralloc + m; rwant = k.rwant; rnext = k.rnext }

plus_plus : (k : Counts) (m : ℕ) → plus (plus k 1) m ≡ plus k (suc m)
plus_plus k m =
    let a : k.rmax + 1 + m ≡ k.rmax + suc m = omega arith in
    let b : k.ralloc + 1 + m ≡ k.ralloc + suc m = omega arith in
    (λ i. record { next = k.next; max = k.max; rmax = a i; ralloc = b i; rwant = k.rwant; rnext = k.rnext })

plus_counted : (k : Counts) (m : ℕ) → Counted k → k.rmax + m ≤ 1152921504606846976 → Counted (plus k m)
plus_counted k m g h = record { own = g.own; may = g.may; used = omega (arith, g.used); top = h; want = omega (arith, g.want); have = omega (arith, g.have) }

abbrev Grew : List ℕ → ℕ → Conn → List ℕ → ℕ → Type 0
Grew l n d k m = (sound_b d k m ≡ true) × (sum_of read_of (records m k) ≡ sum_of read_of (records n l))

other_side : (side : ℕ) → side < 2 → eqb (1 - side) side ≡ false
other_side zero h = refl
other_side (suc zero) h = refl
other_side (suc (suc s)) h = absurd (omega arith)

grow_one : (c : Conn) (l : List ℕ) (n dir : ℕ) → sound_b c l n ≡ true → dir < 2 → n < 256 → 7 * n + 7 ≤ length l → (counts_of c dir).rmax < 1152921504606846976
    → Grew l n (with_dir c dir (plus (counts_of c dir) 1)) (inserted l n (fresh c.swindow (first_id c dir (counts_of c dir)))) (n + 1)
grow_one c l n dir e dl few room top =
    let k : Counts = counts_of c dir in
    let d : Conn = with_dir c dir (plus k 1) in
    let f : Formed c = sound_form c l n e in
    let us : c.side < 2 = f.us in
    let id : ℕ = first_id c dir k in
    let nm : Named id (1 - c.side) dir k.rmax = named_by k.rmax dir (1 - c.side) (omega arith) (omega arith) in
    let other : eqb (1 - c.side) c.side ≡ false = other_side c.side us in
    let other' : eqb (1 - c.side) d.side ≡ false = ap (eqb (1 - c.side)) (dir_side c (plus k 1) (eqb dir 1)) ∙ other in
    let rd : (counts_of d dir).rmax ≡ k.rmax + 1 = ap (λ (y : Counts). y.rmax) (dir_counts c (plus k 1) (eqb dir 1)) in
    let dn : dir ≡ num (eqb dir 1) = dir_num dir dl (eqb dir 1) refl in
    put_in c d l n (fresh c.swindow id) e few room (formed_dir c dir (plus k 1) f (plus_counted k 1 (counted_dir c dir f) (omega arith))) (wider_dir c dir (plus k 1) (omega arith) (omega arith))
    (peer_over c id (1 - c.side) dir k.rmax nm other (omega arith))
    (peer_admitted d id (1 - c.side) dir k.rmax nm other' (omega arith))
    (fresh_numbers c.swindow id f.swin (omega arith)) refl refl (dir_charged c (plus k 1) (eqb dir 1)) (dir_closed c (plus k 1) (eqb dir 1))
    (λ b.
    let one : mine c b (fresh c.swindow id) ≡ cond (eqb (num (eqb dir 1)) (num b)) 1 0 = peer_one c id (1 - c.side) dir k.rmax nm other (num b) ∙ ap (λ (z : ℕ). cond (eqb z (num b)) 1 0) dn in
    let al : k.ralloc + 1 ≡ 1 + k.ralloc = omega arith in
    more_ra c (plus k 1) (eqb dir 1) al b ∙ ap (λ (z : ℕ). z + (way b c).ralloc) (sym one))

grow_all : (m : ℕ) (c : Conn) (l : List ℕ) (n dir : ℕ) → sound_b c l n ≡ true → dir < 2 → n + m ≤ 256 → 7 * (n + m) ≤ length l → (counts_of c dir).rmax + m ≤ 1152921504606846976
    → Grew l n (with_dir c dir (plus (counts_of c dir) m)) (grown_by c.swindow l n (first_id c dir (counts_of c dir)) m) (n + m)
grow_all zero c l n dir e dl few room top =
    let k : Counts = counts_of c dir in
    let z : n ≡ n + zero = omega arith in
    let b = dir_booked c l n dir (plus k zero) e (plus_counted k zero (counted_dir c dir (sound_form c l n e)) top) (omega arith) (omega arith) (omega arith) in
    subst (λ (q : ℕ). Grew l n (with_dir c dir (plus k zero)) l q) z (b.sound, refl)
grow_all (suc m) c l n dir e dl few room top =
    let k : Counts = counts_of c dir in
    let c1 : Conn = with_dir c dir (plus k 1) in
    let l1 : List ℕ = inserted l n (fresh c.swindow (first_id c dir k)) in
    let g = grow_one c l n dir e dl (omega arith) (omega arith) (omega arith) in
    let ck : counts_of c1 dir ≡ plus k 1 = dir_counts c (plus k 1) (eqb dir 1) in
    let cr : (counts_of c1 dir).rmax ≡ k.rmax + 1 = ap (λ (y : Counts). y.rmax) ck in
    let sd : c1.side ≡ c.side = dir_side c (plus k 1) (eqb dir 1) in
    let sw : c1.swindow ≡ c.swindow = dir_swindow c (plus k 1) (eqb dir 1) in
    let len : length l1 ≡ length l = length_inserted l n (fresh c.swindow (first_id c dir k)) refl in
    let r = grow_all m c1 l1 (n + 1) dir g.0 dl (omega arith) (omega arith) (omega arith) in
    let ed : with_dir c1 dir (plus (counts_of c1 dir) m) ≡ with_dir c dir (plus k (suc m)) =
    ap (λ (y : Counts). with_dir c1 dir (plus y m)) ck ∙ dir_again c (plus k 1) (plus (plus k 1) m) (eqb dir 1) ∙ ap (with_dir c dir) (plus_plus k m) in
    let ei : first_id c1 dir (counts_of c1 dir) ≡ first_id c dir k + 4 = omega arith in
    let en : n + 1 + m ≡ n + suc m = omega arith in
    let r0 : Grew l n (with_dir c1 dir (plus (counts_of c1 dir) m)) (grown_by c1.swindow l1 (n + 1) (first_id c1 dir (counts_of c1 dir)) m) (n + 1 + m) = (r.0, r.1 ∙ g.1) in
    let r1 = subst (λ (y : Conn). Grew l n y (grown_by c1.swindow l1 (n + 1) (first_id c1 dir (counts_of c1 dir)) m) (n + 1 + m)) ed r0 in
    let r2 = subst (λ (y : ℕ). Grew l n (with_dir c dir (plus k (suc m))) (grown_by y l1 (n + 1) (first_id c1 dir (counts_of c1 dir)) m) (n + 1 + m)) sw r1 in
    let r3 = subst (λ (y : ℕ). Grew l n (with_dir c dir (plus k (suc m))) (grown_by c.swindow l1 (n + 1) y m) (n + 1 + m)) ei r2 in
    subst (λ (y : ℕ). Grew l n (with_dir c dir (plus k (suc m))) (grown_by c.swindow l1 (n + 1) (first_id c dir k + 4) m) y) en r3

module _ (c : Conn) (l : List ℕ) (n : ℕ) (e : sound_b c l n ≡ true) where
  abbrev pub KeptG : Grown → Type 0
  KeptG x = Booked c l n 0 0 0 0 (conn_after c x.out) x.words (count_after n x.out)

  stay : Booked c l n 0 0 0 0 c l n
  stay = not_booked c l n e

  -- the counts of a direction changed beside a table that is in good form with them
  dir_moved : (dir : ℕ) (k : Counts) (l' : List ℕ) (m : ℕ) → sound_b (with_dir c dir k) l' m ≡ true → sum_of read_of (records m l') ≡ sum_of read_of (records n l) → Booked c l n 0 0 0 0 (with_dir c dir k) l' m
  dir_moved dir k l' m s r =
      moved_booked c (with_dir c dir k) l l' n m e s (dir_charged c k (eqb dir 1)) (dir_closed c k (eqb dir 1)) (dir_grant c k (eqb dir 1)) (dir_debt c k (eqb dir 1)) (dir_window c k (eqb dir 1)) r

  grant_kept : (dir desired m : ℕ) → dir < 2 → n + m ≤ 256 → 7 * (n + m) ≤ length l → (counts_of c dir).rmax + m ≤ 1152921504606846976 → desired ≤ (counts_of c dir).ralloc + m
      → KeptG (grant_after c l n dir desired (counts_of c dir) m)
  unfolding grant_after
  grant_kept dir desired m dl few room top hd =
      let k : Counts = counts_of c dir in
      let g = grow_all m c l n dir e dl few room top in
      let l' : List ℕ = grown_by c.swindow l n (first_id c dir k) m in
      let d' : Conn = with_dir c dir (plus k m) in
      let dk : counts_of d' dir ≡ plus k m = dir_counts c (plus k m) (eqb dir 1) in
      let d1 : (counts_of d' dir).next ≡ k.next = ap (λ (y : Counts). y.next) dk in
      let d2 : (counts_of d' dir).rmax ≡ k.rmax + m = ap (λ (y : Counts). y.rmax) dk in
      let d3 : (counts_of d' dir).ralloc ≡ k.ralloc + m = ap (λ (y : Counts). y.ralloc) dk in
      let ck = counted_dir c dir (sound_form c l n e) in
      let h : Counted (granted k desired m) = record { own = ck.own; may = ck.may; used = omega (arith, ck.used); top = top; want = hd; have = omega (arith, ck.have) } in
      let b = dir_booked d' l' (n + m) dir (granted k desired m) g.0 h (omega arith) (sym d2) (sym d3) in
      let s : sound_b (with_dir c dir (granted k desired m)) l' (n + m) ≡ true = subst (λ (y : Conn). sound_b y l' (n + m) ≡ true) (dir_again c (plus k m) (granted k desired m) (eqb dir 1)) b.sound in
      dir_moved dir (granted k desired m) l' (n + m) s g.1

  pub want_kept : (dir desired : ℕ) → KeptG (want_after c l n dir desired)
  unfolding want_after wanted
  want_kept dir desired =
      let k : Counts = counts_of c dir in
      let m : ℕ = desired - k.ralloc in
      by_cond KeptG (ltb 1 dir || ltb (2 ^ 60) desired) _ _ (λ _. stay)
      (λ q. by_cond KeptG (sound_b c l n) _ _
      (λ _. by_cond KeptG (ltb (2 ^ 60 - k.rmax) m) _ _ (λ _. stay)
      (λ a. by_cond KeptG (ltb 256 (n + m) || ltb (length l) (7 * (n + m))) _ _ (λ _. stay)
      (λ b.
      let ck = counted_dir c dir (sound_form c l n e) in
      let tp : k.rmax ≤ 1152921504606846976 = ck.top in
      let mq : m ≤ 2 ^ 60 - k.rmax = ltb-false (2 ^ 60 - k.rmax) m a in
      let d1 : dir ≤ 1 = ltb-false 1 dir (or_left (ltb 1 dir) _ q) in
      grant_kept dir desired m (omega arith) (ltb-false 256 (n + m) (or_left (ltb 256 (n + m)) _ b)) (ltb-false (length l) (7 * (n + m)) (or_right (ltb 256 (n + m)) _ b)) (omega arith) (omega arith))))
      (λ _. stay))

-- ---- `free`
abbrev fewer : Counts → Counts
fewer k = record { next = k.next; max = k.max; rmax = k.rmax; ralloc = k.ralloc - 1; rwant = k.rwant; rnext = k.rnext }

abbrev further : Counts → Counts
further k = record { next = k.next; max = k.max; rmax = k.rmax + 1; ralloc = k.ralloc; rwant = k.rwant; rnext = k.rnext }

alike_is : (id r : ℕ) → r < 1152921504606846976 → alike id r ≡ 4 * r + id % 4
unfolding alike
alike_is id r h = rw (lt-ltb r (2 ^ 60) h)

-- record i is the stream id, and has nothing to its charge
record Over (c : Conn) (l : List ℕ) (n i id : ℕ) : Type 0 where
  below : i < n
  inside : i < length (records n l)
  named : (get_or (records n l) i none).id ≡ id
  ends : (get_or (records n l) i none).end ≡ 0
  reads : (get_or (records n l) i none).read ≡ 0

module _ (c : Conn) (l : List ℕ) (n : ℕ) (e : sound_b c l n ≡ true) (i id : ℕ) (v : Over c l n i id) where
  room : 7 * n ≤ length l
  room = sound_room c l n e

  few : n ≤ 256
  few = sound_few c l n e

  dropped : records (n - 1) (removed l n i) ≡ drop_at i (records n l)
  dropped = removed_records l n i v.below room

  drop_reads : sum_of read_of (records (n - 1) (removed l n i)) ≡ sum_of read_of (records n l)
  drop_reads =
      let a : sum_of read_of (records (n - 1) (removed l n i)) ≡ sum_of read_of (drop_at i (records n l)) = ap (sum_of read_of) dropped in
      let b : (get_or (records n l) i none).read ≡ 0 = v.reads in
      omega (arith, sum_drop read_of i (records n l) v.inside)

  drop_table : (d : Conn) → Wider c d → d.charged ≡ c.charged → d.closed ≡ c.closed → ((b : Bool) (m : ℕ) → theirs c (num b) id + m ≡ (way b c).ralloc → m ≡ (way b d).ralloc) → Table d (drop_at i (records n l))
  drop_table d w ch cl ra =
      table_drop c d w (records n l) (sound_table c l n e) i v.inside v.ends ch cl
      (λ b q. ra b (sum_of (mine c b) (drop_at i (records n l))) (ap (λ (y : ℕ). theirs c (num b) y + sum_of (mine c b) (drop_at i (records n l))) (sym v.named) ∙ q))

  drop_sound : (d : Conn) → Formed d → Table d (drop_at i (records n l)) → sound_b d (removed l n i) (n - 1) ≡ true
  drop_sound d f t =
      let len : length (removed l n i) ≡ length l = length_removed l n i refl in
      let r : 7 * n ≤ length l = room in
      let h : n ≤ 256 = few in
      sound_shut d (removed l n i) (n - 1) (omega arith) (omega arith) f (rw dropped t)

  own_goes : eqb (id % 2) c.side ≡ true → KeptG c l n e (moved 0 (n - 1) c (removed l n i))
  own_goes q =
      moved_booked c c l (removed l n i) n (n - 1) e
      (drop_sound c (sound_form c l n e) (drop_table c (wider_refl c) refl refl (λ b m h. let z : theirs c (num b) id ≡ 0 = own_none c id (num b) q in omega arith)))
      refl refl refl refl refl drop_reads

  module _ (q : eqb (id % 2) c.side ≡ false) where
    one_is : (b : Bool) → theirs c (num b) id ≡ cond (eqb (num (eqb (id / 2 % 2) 1)) (num b)) 1 0
    one_is b =
        let d : id / 2 % 2 ≡ num (eqb (id / 2 % 2) 1) = dir_num (id / 2 % 2) (omega arith) (eqb (id / 2 % 2) 1) refl in
        peer_one c id (id % 2) (id / 2 % 2) (id / 4) (record { who = refl; way = refl; nth = refl }) q (num b) ∙ ap (λ (z : ℕ). cond (eqb z (num b)) 1 0) d

    fewer_table : Table (with_dir c (id / 2 % 2) (fewer (counts_of c (id / 2 % 2)))) (drop_at i (records n l))
    fewer_table =
        let k : Counts = counts_of c (id / 2 % 2) in
        drop_table (with_dir c (id / 2 % 2) (fewer k)) (wider_dir c (id / 2 % 2) (fewer k) (omega arith) (omega arith)) (dir_charged c (fewer k) (eqb (id / 2 % 2) 1)) (dir_closed c (fewer k) (eqb (id / 2 % 2) 1))
        (λ b m h. less_ra c (fewer k) (eqb (id / 2 % 2) 1) refl b m (ap (λ (y : ℕ). y + m) (sym (one_is b)) ∙ h))

    less_goes : (counts_of c (id / 2 % 2)).rwant < (counts_of c (id / 2 % 2)).ralloc
        → KeptG c l n e (moved 0 (n - 1) (with_dir c (id / 2 % 2) (fewer (counts_of c (id / 2 % 2)))) (removed l n i))
    less_goes h =
        let k : Counts = counts_of c (id / 2 % 2) in
        let g : Counted k = counted_dir c (id / 2 % 2) (sound_form c l n e) in
        let g' : Counted (fewer k) = record { own = g.own; may = g.may; used = g.used; top = g.top; want = omega arith; have = omega (arith, g.have) } in
        dir_moved c l n e (id / 2 % 2) (fewer k) (removed l n i) (n - 1) (drop_sound (with_dir c (id / 2 % 2) (fewer k)) (formed_dir c (id / 2 % 2) (fewer k) (sound_form c l n e) g') fewer_table) drop_reads

    -- there is one to be given up
    some : 1 ≤ (counts_of c (id / 2 % 2)).ralloc
    some =
        let b : Bool = eqb (id / 2 % 2) 1 in
        let t = sound_table c l n e in
        let h : sum_of (mine c b) (records n l) ≡ (counts_of c (id / 2 % 2)).ralloc = t.have b in
        let s : mine c b (get_or (records n l) i none) + sum_of (mine c b) (drop_at i (records n l)) ≡ sum_of (mine c b) (records n l) = sum_drop (mine c b) i (records n l) v.inside in
        let o : mine c b (get_or (records n l) i none) ≡ 1 = ap (theirs c (num b)) v.named ∙ one_is b ∙ same_num b in
        omega arith
      where
        same_num : (b : Bool) → ◌≡◌ {A = ℕ} (cond (eqb (num b) (num b)) 1 0) 1
        same_num true = refl
        same_num false = refl

    next_goes : (counts_of c (id / 2 % 2)).rmax < 1152921504606846976
        → KeptG c l n e (moved 1 n (with_dir c (id / 2 % 2) (further (counts_of c (id / 2 % 2)))) (inserted (removed l n i) (n - 1) (fresh c.swindow (alike id (counts_of c (id / 2 % 2)).rmax))))
    next_goes top =
        let δ : ℕ = id / 2 % 2 in
        let k : Counts = counts_of c δ in
        let c1 : Conn = with_dir c δ (fewer k) in
        let d : Conn = with_dir c1 δ (further k) in
        let f : Formed c = sound_form c l n e in
        let ck : counts_of c1 δ ≡ fewer k = dir_counts c (fewer k) (eqb δ 1) in
        let c1n : (counts_of c1 δ).next ≡ k.next = ap (λ (y : Counts). y.next) ck in
        let c1r : (counts_of c1 δ).rmax ≡ k.rmax = ap (λ (y : Counts). y.rmax) ck in
        let c1a : (counts_of c1 δ).ralloc ≡ k.ralloc - 1 = ap (λ (y : Counts). y.ralloc) ck in
        let dk : (counts_of d δ).rmax ≡ k.rmax + 1 = ap (λ (y : Counts). y.rmax) (dir_counts c1 (further k) (eqb δ 1)) in
        let s1 : c1.side ≡ c.side = dir_side c (fewer k) (eqb δ 1) in
        let sd : d.side ≡ c.side = dir_side c1 (further k) (eqb δ 1) ∙ s1 in
        let nid : ℕ = 4 * k.rmax + id % 4 in
        let nm : Named nid (id % 2) δ k.rmax = named_alike id k.rmax in
        let q1 : eqb (id % 2) c1.side ≡ false = ap (eqb (id % 2)) s1 ∙ q in
        let qd : eqb (id % 2) d.side ≡ false = ap (eqb (id % 2)) sd ∙ q in
        let x : Stream = fresh c.swindow nid in
        let so : 1 ≤ k.ralloc = some in
        let dn : δ ≡ num (eqb δ 1) = dir_num δ (omega arith) (eqb δ 1) refl in
        let al : k.ralloc ≡ 1 + (counts_of c1 δ).ralloc = omega arith in
        let t : Table d (insert_id x (drop_at i (records n l))) =
        table_insert c1 d (wider_dir c1 δ (further k) (omega arith) (omega arith)) (drop_at i (records n l)) fewer_table x (peer_over c1 nid (id % 2) δ k.rmax nm q1 (omega arith)) (peer_admitted d nid (id % 2) δ k.rmax nm qd (omega arith))
        (fresh_numbers c.swindow nid f.swin (omega arith)) refl (dir_charged c1 (further k) (eqb δ 1)) (dir_closed c1 (further k) (eqb δ 1))
        (λ b.
        let one : mine c1 b x ≡ cond (eqb (num (eqb δ 1)) (num b)) 1 0 = peer_one c1 nid (id % 2) δ k.rmax nm q1 (num b) ∙ ap (λ (z : ℕ). cond (eqb z (num b)) 1 0) dn in
        more_ra c1 (further k) (eqb δ 1) al b ∙ ap (λ (z : ℕ). z + (way b c1).ralloc) (sym one)) in
        let de : d ≡ with_dir c δ (further k) = dir_again c (fewer k) (further k) (eqb δ 1) in
        let g : Counted k = counted_dir c δ f in
        let g' : Counted (further k) = record { own = g.own; may = g.may; used = omega (arith, g.used); top = omega arith; want = g.want; have = omega (arith, g.have) } in
        let t' : Table (with_dir c δ (further k)) (insert_id x (drop_at i (records n l))) = subst (λ (y : Conn). Table y (insert_id x (drop_at i (records n l)))) de t in
        let lt : i < n = v.below in
        let m1 : n ≡ n - 1 + 1 = omega arith in
        let len : length (removed l n i) ≡ length l = length_removed l n i refl in
        let len2 : length (inserted (removed l n i) (n - 1) x) ≡ length (removed l n i) = length_inserted (removed l n i) (n - 1) x refl in
        let rm : 7 * n ≤ length l = room in
        let rs : records n (inserted (removed l n i) (n - 1) x) ≡ insert_id x (drop_at i (records n l)) =
        ap (λ (y : ℕ). records y (inserted (removed l n i) (n - 1) x)) m1 ∙ inserted_records (removed l n i) (n - 1) x (omega arith) ∙ ap (insert_id x) dropped in
        let sx : sum_of read_of (insert_id x (drop_at i (records n l))) ≡ x.read + sum_of read_of (drop_at i (records n l)) = sum_insert read_of x (drop_at i (records n l)) in
        let zx : x.read ≡ 0 = refl in
        let sa : sum_of read_of (records n (inserted (removed l n i) (n - 1) x)) ≡ sum_of read_of (insert_id x (drop_at i (records n l))) = ap (sum_of read_of) rs in
        let sb : sum_of read_of (records (n - 1) (removed l n i)) ≡ sum_of read_of (drop_at i (records n l)) = ap (sum_of read_of) dropped in
        let sr : sum_of read_of (records n (inserted (removed l n i) (n - 1) x)) ≡ sum_of read_of (records n l) = omega (arith, drop_reads) in
        let s : sound_b (with_dir c δ (further k)) (inserted (removed l n i) (n - 1) x) n ≡ true = sound_shut (with_dir c δ (further k)) (inserted (removed l n i) (n - 1) x) n few (omega arith) (formed_dir c δ (further k) f g') (rw rs t') in
        let ai : nid ≡ alike id k.rmax = sym (alike_is id k.rmax top) in
        subst (λ (y : ℕ). KeptG c l n e (moved 1 n (with_dir c δ (further k)) (inserted (removed l n i) (n - 1) (fresh c.swindow y)))) ai
        (dir_moved c l n e δ (further k) (inserted (removed l n i) (n - 1) x) n s sr)

  freed_kept : KeptG c l n e (freed c l n i (released c id))
  unfolding released given
  freed_kept =
      let k : Counts = counts_of c (id / 2 % 2) in
      by_cond (λ (r : Result Release Refusal). KeptG c l n e (freed c l n i r)) (eqb (id % 2) c.side) _ _ (λ q. own_goes q)
      (λ q. by_cond (λ (g : Result Given Refusal). KeptG c l n e (freed c l n i (released_by c id g))) (ltb k.rwant k.ralloc) _ _
      (λ a. less_goes q (ltb-true k.rwant k.ralloc a))
      (λ _. by_cond (λ (g : Result Given Refusal). KeptG c l n e (freed c l n i (released_by c id g))) (leb (2 ^ 60) k.rmax) _ _
      (λ _. stay c l n e)
      (λ b. next_goes q (leb-false (2 ^ 60) k.rmax b))))

module _ (c : Conn) (l : List ℕ) (n : ℕ) (e : sound_b c l n ≡ true) where
  -- a place whose halves are both over has nothing to its charge
  over : (id i : ℕ) (s : Stream) → i < n → find_in (records n l) id ≡ Some i → s ≡ rec_at l i → s.phase ≡ 0 → Over c l n i id
  over id i s h fd is z =
      let lt : i < length (records n l) = omega (arith, length_records n l) in
      let at : get_or (records n l) i none ≡ rec_at l i = records_at n l i h in
      let g : Numbers (get_or (records n l) i none) = rec_numbers c (get_or (records n l) i none) (good_at c (records n l) i lt (sound_table c l n e).all) in
      let ph : (get_or (records n l) i none).phase ≡ 0 = ap (λ (y : Stream). y.phase) (at ∙ sym is) ∙ z in
      let lm : (get_or (records n l) i none).limit ≡ 0 = g.p0 ph in
      let en : (get_or (records n l) i none).end ≤ (get_or (records n l) i none).limit = g.el in
      let rd : (get_or (records n l) i none).read ≤ (get_or (records n l) i none).end = g.re in
      record { below = h; inside = lt; named = found_id (records n l) id i fd; ends = omega arith; reads = omega arith }

  by_kept : (id : ℕ) (x : Result (Option Place) Refusal) → x ≡ entered c l n id → KeptG c l n e (free_by c l n id x)
  by_kept id (Err why) ex = stay c l n e
  by_kept id (Ok None) ex = stay c l n e
  by_kept id (Ok (Some p)) ex =
      let q = at_place c l n id ex refl in
      by_cond (KeptG c l n e) (eqb p.stream.phase 0 && eqb p.stream.sending 0) _ _
      (λ h. freed_kept c l n e p.at id (over id p.at p.stream (place_below c l n id ex refl) q.found q.is (eqb-true p.stream.phase 0 (and_left (eqb p.stream.phase 0) _ h))))
      (λ _. stay c l n e)

  pub free_kept : (id : ℕ) → KeptG c l n e (free_after c l n id)
  unfolding free_after
  free_kept id = by_kept id (entered c l n id) refl

  -- ---- `open`
  open_counted : (k : Counts) → Counted k → k.next < k.max → Counted (opened k)
  open_counted k g h = record { own = omega (arith, g.may); may = g.may; used = g.used; top = g.top; want = g.want; have = g.have }

  open_both : c.bi.next < c.bi.max → has_place l n ≡ true
      → KeptG c l n e (moved (next_id c 0 c.bi) (n + 1) (with_bi c (opened c.bi)) (inserted l n (fresh c.swindow (next_id c 0 c.bi))))
  open_both h p =
      let f : Formed c = sound_form c l n e in
      let k : Counts = c.bi in
      let d : Conn = with_bi c (opened k) in
      let us : c.side < 2 = f.us in
      let kt : k.max ≤ 1152921504606846976 = f.bis.may in
      let id : ℕ = next_id c 0 k in
      let nm : Named id c.side 0 k.next = named_by k.next 0 c.side (omega arith) (omega arith) in
      let self : eqb c.side c.side ≡ true = eq-eqb c.side c.side refl in
      let mine-is : (b : Bool) → mine c b (fresh c.swindow id) ≡ 0 = λ b. own_none c id (num b) (ap (λ (y : ℕ). eqb y c.side) nm.who ∙ self) in
      let g = put_in c d l n (fresh c.swindow id) e (has_few l n p) (has_room l n p)
      (record { shut = f.shut; flow = f.flow; most = f.most; us = f.us; win = f.win; swin = f.swin; bis = open_counted k f.bis h; unis = f.unis })
      (record { us = refl; own = omega arith; bis = omega arith; unis = omega arith })
      (own_over c id c.side k.next nm self (omega arith)) (own_admitted d id c.side k.next nm self (omega arith))
      (fresh_numbers c.swindow id f.swin (omega arith)) refl refl refl refl
      (by_bool (λ (b : Bool). (way b d).ralloc ≡ mine c b (fresh c.swindow id) + (way b c).ralloc) (omega (arith, mine-is true)) (omega (arith, mine-is false))) in
      moved_booked c d l (inserted l n (fresh c.swindow id)) n (n + 1) e g.0 refl refl refl refl refl g.1

  in_kept : (dir : ℕ) → dir ≤ 1 → KeptG c l n e (open_in c l n dir (counts_of c dir))
  unfolding open_in
  in_kept zero h =
      by_cond (KeptG c l n e) (leb c.bi.max c.bi.next) _ _ (λ _. stay c l n e)
      (λ a. by_cond (KeptG c l n e) (has_place l n) _ _ (λ p. open_both (leb-false c.bi.max c.bi.next a) p) (λ _. stay c l n e))
  in_kept (suc zero) h =
      by_cond (KeptG c l n e) (leb c.uni.max c.uni.next) _ _ (λ _. stay c l n e)
      (λ a. dir_booked c l n 1 (opened c.uni) e (open_counted c.uni (sound_form c l n e).unis (leb-false c.uni.max c.uni.next a)) (omega arith) refl refl)
  in_kept (suc (suc x)) h = absurd (omega arith)

  pub open_kept : (dir : ℕ) → KeptG c l n e (open_after c l n dir)
  unfolding open_after
  open_kept dir =
      by_cond (KeptG c l n e) (ltb 1 dir) _ _ (λ _. stay c l n e)
      (λ q. by_cond (KeptG c l n e) (sound_b c l n) _ _ (λ _. in_kept dir (ltb-false 1 dir q)) (λ _. stay c l n e))

  -- ---- 0-RTT rejection
  keep_good : (total : ℕ) (s : Stream) → eqb (s.id % 2) c.side ≡ false → good_rec c s ≡ true → good_rec (rejected_conn c total) s ≡ true
  keep_good total s q g =
      let h : s.id / 4 < (counts_of c (s.id / 2 % 2)).rmax = theirs_below c s.id (rec_admits c s g) q in
      let r : (counts_of (rejected_conn c total) (s.id / 2 % 2)).rmax ≡ (counts_of c (s.id / 2 % 2)).rmax = same_top (eqb (s.id / 2 % 2) 1) in
      rec_shut (rejected_conn c total) s
      (peer_admitted (rejected_conn c total) s.id (s.id % 2) (s.id / 2 % 2) (s.id / 4) (record { who = refl; way = refl; nth = refl }) q (omega arith)) (rec_numbers c s g)
    where
      same_top : (b : Bool) → (way b (rejected_conn c total)).rmax ≡ (way b c).rmax
      same_top true = refl
      same_top false = refl

  ours_none : (b : Bool) (xs : List Stream) → sum_of (mine c b) (ours c.side xs) ≡ 0
  ours_none b [] = refl
  ours_none b (s ∷ xs) = none_case (eqb (s.id % 2) c.side) refl (ours_none b xs)
    where
      none_case : (q : Bool) → eqb (s.id % 2) c.side ≡ q → sum_of (mine c b) (ours c.side xs) ≡ 0 → sum_of (mine c b) (cond q (s ∷ ours c.side xs) (ours c.side xs)) ≡ 0
      none_case true z r = omega (arith, own_none c s.id (num b) z)
      none_case false z r = r

  abbrev kept_list : List Stream
  kept_list = keep c.side (records n l)

  abbrev our_ends : ℕ
  our_ends = sum_of (λ (x : Stream). x.end) (ours c.side (records n l))

  rejected_booked : Booked c l n 0 0 0 (unread c.side (records n l)) (rejected_conn c our_ends) (put_recs l 0 kept_list) (length kept_list)
  rejected_booked =
      let f : Formed c = sound_form c l n e in
      let t = sound_table c l n e in
      let fw : n ≤ 256 = sound_few c l n e in
      let rm : 7 * n ≤ length l = sound_room c l n e in
      let lk : length kept_list ≤ length (records n l) = length_keep c.side (records n l) in
      let ln : length (records n l) ≡ n = length_records n l in
      let lp : length (put_recs l 0 kept_list) ≡ length l = length_put l 0 kept_list in
      let rs : records (length kept_list) (put_recs l 0 kept_list) ≡ kept_list = records_put l kept_list (omega arith) in
      let d : Conn = rejected_conn c our_ends in
      let se : sum_of (λ (x : Stream). x.end) kept_list + our_ends ≡ sum_of (λ (x : Stream). x.end) (records n l) = sum_keep (λ (x : Stream). x.end) c.side (records n l) in
      let sr : sum_of read_of kept_list + sum_of read_of (ours c.side (records n l)) ≡ sum_of read_of (records n l) = sum_keep read_of c.side (records n l) in
      let ro : sum_of read_of (ours c.side (records n l)) ≤ our_ends = read_ours c c.side (records n l) t.all in
      let su : c.closed + sum_of (λ (x : Stream). x.end) (records n l) ≡ c.charged = t.sum in
      let fl : c.charged ≤ c.grant = f.flow in
      let mo : c.grant < 2 ^ 62 = f.most in
      let same_way : (b : Bool) → (way b d).ralloc ≡ (way b c).ralloc = by_bool (λ (b : Bool). (way b d).ralloc ≡ (way b c).ralloc) refl refl in
      let tb : Table d kept_list =
      record {
        all = good_keep c d (records n l) (keep_good our_ends) t.all;
        up = rising_keep c.side 0 (records n l) t.up;
        sum = omega arith;
        have = λ b.
            let a : sum_of (mine d b) kept_list ≡ sum_of (mine c b) kept_list = sum_same (mine d b) (mine c b) kept_list (λ s. theirs_side c d refl (num b) s.id) in
            let k : sum_of (mine c b) kept_list + sum_of (mine c b) (ours c.side (records n l)) ≡ sum_of (mine c b) (records n l) = sum_keep (mine c b) c.side (records n l) in
            omega (arith, ours_none b (records n l), t.have b, same_way b);
      } in
      let un : (k : Counts) → Counted k → Counted (unopened k) = λ k g. record { own = omega arith; may = g.may; used = g.used; top = g.top; want = g.want; have = g.have } in
      let rr : sum_of read_of (records (length kept_list) (put_recs l 0 kept_list)) ≡ sum_of read_of kept_list = ap (sum_of read_of) rs in
      record {
        sound = sound_shut d (put_recs l 0 kept_list) (length kept_list) (omega arith) (omega arith)
            (record { shut = omega arith; flow = f.flow; most = f.most; us = f.us; win = f.win; swin = f.swin; bis = un c.bi f.bis; unis = un c.uni f.unis }) (rw rs tb);
        charged = omega arith;
        grant = omega arith;
        debt = omega arith;
        window = refl;
        reads = omega arith;
      }

  abbrev pub KeptR : Grown → Type 0
  KeptR x = Booked c l n 0 0 0 (unread c.side (records n l)) (conn_after c x.out) x.words (count_after n x.out)

  pub reject_kept : KeptR (reject_after c l n)
  unfolding reject_after
  reject_kept =
      by_cond KeptR (sound_b c l n) _ _
      (λ _. subst (λ (x : Left Stripped). KeptR (rejected_by c n x)) (sym (stripped_is c.side l n)) rejected_booked)
      (λ q. absurd (never_false (sym q ∙ e)))
