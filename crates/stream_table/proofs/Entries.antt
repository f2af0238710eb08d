-- What the checks give, and `enter` case by case.
-- Assumes nothing.
use mathlib.Core.Path.{◌≡◌, refl, ap, sym, ◌∙◌}
use mathlib.Core.Bool.{Bool, true, false, ◌&&◌, not}
use mathlib.Core.List.{List, [], ◌∷◌}
use Prim.Native.Nat.{ℕ, zero, suc, ◌+◌, ◌*◌, ◌-◌, ◌^◌, ◌≤◌, ◌<◌}
use native.Mathlib.Omega.{arith}
use lib.Dec.{ltb, leb}
use lib.ListN.{length, get_or}
use borrow.Author.Tests.{lt-ltb, le-ltb, leb-true, ltb-true, eqb-true, not-true, not-false}
use Rattle.stream_record.specs.declared.Stream.{Stream}
use Rattle.stream_record.specs.Record.{none}
use Rattle.stream_conn.specs.declared.Conn.{Conn}
use Rattle.stream_conn.specs.Books.{admitted, good_conn}
use Rattle.std.specs.Prelude.{Option, Some, None, Result, Ok, Err, is_ok}
use Rattle.answers.specs.declared.Refusal.{Refusal}
use Rattle.answers.specs.declared.Refusal.TheVariants.{Range}
use Rattle.stream_table.specs.declared.Place.{Place}
use Rattle.stream_table.specs.Table.{sum_ends, records, rec_at, find_in, theirs, good_rec, good_from, sound_b, placed, let_in, entered}
use Rattle.stream_table.proofs.Tables.{by_cond, and_left, and_right, found_below, records_at}

-- ---- what the checks give
pub good_sum : (c : Conn) (ss : List Stream) (low left b u : ℕ) → good_from c ss low left b u ≡ true → sum_ends ss ≡ left
good_sum c [] low left b u e = sym (eqb-true left 0 (and_left _ _ e))
good_sum c (s ∷ ss) low left b u e =
    let a = and_right (good_rec c s) _ e in
    let d = and_right (leb low s.id) _ a in
    omega (arith, leb-true s.end left (and_left _ _ d), good_sum c ss (s.id + 1) (left - s.end) (b + theirs c 0 s.id) (u + theirs c 1 s.id) (and_right (leb s.end left) _ d))

pub end_below : (ss : List Stream) (i : ℕ) → (get_or ss i none).end ≤ sum_ends ss
end_below [] i = omega arith
end_below (s ∷ ss) zero = omega arith
end_below (s ∷ ss) (suc i) = omega (arith, end_below ss i)

module _ (c : Conn) where
  pub conn_closed : good_conn c ≡ true → c.closed ≤ c.charged
  unfolding good_conn
  conn_closed e = leb-true c.closed c.charged (and_left _ _ e)

  pub conn_flow : good_conn c ≡ true → c.charged ≤ c.grant
  unfolding good_conn
  conn_flow e = leb-true c.charged c.grant (and_left _ _ (and_right (leb c.closed c.charged) _ e))

  pub conn_most : good_conn c ≡ true → c.grant < 2 ^ 62
  unfolding good_conn
  conn_most e = ltb-true c.grant (2 ^ 62) (and_left _ _ (and_right (leb c.charged c.grant) _ (and_right (leb c.closed c.charged) _ e)))

module _ (c : Conn) (l : List ℕ) (n : ℕ) (e : sound_b c l n ≡ true) where
  sound_tail : (leb (7 * n) (length l) && (good_conn c && good_from c (records n l) 0 (c.charged - c.closed) 0 0)) ≡ true
  unfolding sound_b
  sound_tail = and_right (leb n 256) _ e

  pub sound_both : (good_conn c && good_from c (records n l) 0 (c.charged - c.closed) 0 0) ≡ true
  sound_both = and_right (leb (7 * n) (length l)) _ sound_tail

  pub sound_few : n ≤ 256
  unfolding sound_b
  sound_few = leb-true n 256 (and_left _ _ e)

  pub sound_conn : good_conn c ≡ true
  sound_conn = and_left _ _ sound_both

  pub sound_room : 7 * n ≤ length l
  sound_room = leb-true (7 * n) (length l) (and_left _ _ sound_tail)

  pub sound_flow : c.charged ≤ c.grant
  sound_flow = conn_flow c (and_left _ _ sound_both)

  pub sound_sum : c.closed + sum_ends (records n l) ≡ c.charged
  sound_sum = omega (arith, conn_closed c (and_left _ _ sound_both), good_sum c (records n l) 0 (c.charged - c.closed) 0 0 (and_right (good_conn c) _ sound_both))

  pub sound_end : (i : ℕ) → i < n → c.closed + (rec_at l i).end ≤ c.charged
  sound_end i h = omega (arith, sound_sum, end_below (records n l) i, ap (λ (s : Stream). s.end) (records_at n l i h))

-- ---- `enter`
abbrev Entry : Type 0
Entry = Result (Option Place) Refusal

module _ (c : Conn) (l : List ℕ) (n id : ℕ) where
  pub enter_id : 2 ^ 62 ≤ id → ◌≡◌ {A = Entry} (Err Range) (entered c l n id)
  unfolding entered
  enter_id h = rw (le-ltb id (2 ^ 62) h)

  module _ (h : id < 2 ^ 62) {g : Bool} (eg : g ≡ sound_b c l n) where
    pub enter_bad : not g ≡ true → ◌≡◌ {A = Entry} (Err Range) (entered c l n id)
    unfolding entered
    enter_bad e = rw (lt-ltb id (2 ^ 62) h, ← eg, not-true g e)

    module _ (e : not g ≡ false) {a : Result (Unit {0}) Refusal} (ea : a ≡ admitted c id) where
      pub enter_stray : {why : Refusal} → a ≡ Err why → ◌≡◌ {A = Entry} (Err why) (entered c l n id)
      unfolding entered
      enter_stray z = rw (lt-ltb id (2 ^ 62) h, ← eg, not-false g e, ← ea, z)

      module _ {u : Unit {0}} (z : a ≡ Ok u) {f : Option ℕ} (ef : f ≡ find_in (records n l) id) where
        enter_found : ◌≡◌ {A = Entry} (Ok (placed l f)) (entered c l n id)
        unfolding entered
        enter_found = rw (lt-ltb id (2 ^ 62) h, ← eg, not-false g e, ← ea, z, ← ef)

        pub enter_place : {i : ℕ} {s : Stream} → f ≡ Some i → s ≡ rec_at l i → ◌≡◌ {A = Entry} (Ok (Some (record { at = i; stream = s }))) (entered c l n id)
        enter_place {i} ei es =
            ap (λ (x : Stream). Ok (Some (record { at = i; stream = x }))) es ∙ ap (λ (x : Option ℕ). Ok (placed l x)) (sym ei) ∙ enter_found

        pub find_room : {i : ℕ} → f ≡ Some i → 7 * i + 7 ≤ length l
        find_room {i} ei = omega (arith, found_below n l id i (sym ef ∙ ei), sound_room c l n (sym eg ∙ not-false g e))

        pub enter_absent : f ≡ None → ◌≡◌ {A = Entry} (Ok None) (entered c l n id)
        enter_absent ei = ap (λ (x : Option ℕ). Ok (placed l x)) (sym ei) ∙ enter_found

pub enter_room : (c : Conn) (l : List ℕ) (n : ℕ) {g : Bool} → g ≡ sound_b c l n → not g ≡ false → 7 * n ≤ length l
enter_room c l n {g} eg e = sound_room c l n (sym eg ∙ not-false g e)

pub ruleset enters = (enter_id, enter_bad, enter_stray, enter_place, enter_absent, enter_room, find_room)

placed_at : (l : List ℕ) (f : Option ℕ) (p : Place) → placed l f ≡ Some p → (f ≡ Some p.at) × (p.stream ≡ rec_at l p.at)
placed_at l None p e = absurd (cc)
placed_at l (Some j) p e =
    let a : ◌≡◌ {A = Place} (record { at = j; stream = rec_at l j }) p = cc in
    (ap (λ (x : Place). Some x.at) a, sym (ap (λ (x : Place). x.stream) a) ∙ ap (λ (x : Place). rec_at l x.at) a)

let_in_at : (p : Option Place) (r : Result (Unit {0}) Refusal) (q : Place) → let_in p r ≡ Ok (Some q) → (p ≡ Some q) × (is_ok r ≡ true)
let_in_at p (Ok u) q e =
    let a : p ≡ Some q = cc in
    (a, refl)
let_in_at p (Err why) q e = absurd (cc)

-- what a place tells
pub record Placed (c : Conn) (l : List ℕ) (n id i : ℕ) (s : Stream) : Type 0 where
  pub sound : sound_b c l n ≡ true
  pub found : find_in (records n l) id ≡ Some i
  pub is : s ≡ rec_at l i
  pub admits : is_ok (admitted c id) ≡ true

pub entry_told : (c : Conn) (l : List ℕ) (n id : ℕ) (p : Place) → entered c l n id ≡ Ok (Some p) → Placed c l n id p.at p.stream
unfolding entered
entry_told c l n id p =
    by_cond (λ (x : Entry). x ≡ Ok (Some p) → Placed c l n id p.at p.stream) (ltb id (2 ^ 62) && sound_b c l n) _ _
    (λ h e.
    let q = let_in_at (placed l (find_in (records n l) id)) (admitted c id) p e in
    let r = placed_at l (find_in (records n l) id) p q.0 in
    record { sound = and_right (ltb id (2 ^ 62)) _ h; found = r.0; is = r.1; admits = q.1 })
    (λ _ e. absurd (cc))

module _ (c : Conn) (l : List ℕ) (n id : ℕ) {p : Place} {x : Entry} (ex : x ≡ entered c l n id) (ei : x ≡ Ok (Some p)) where
  pub at_place : Placed c l n id p.at p.stream
  at_place = entry_told c l n id p (sym ex ∙ ei)

  pub place_below : p.at < n
  place_below = found_below n l id p.at at_place.found

  pub place_few : n ≤ 256
  place_few = sound_few c l n at_place.sound

  pub place_all : 7 * n ≤ length l
  place_all = sound_room c l n at_place.sound

  pub place_room : 7 * p.at + 7 ≤ length l
  place_room = omega (arith, place_below, place_all)

  pub place_flow : c.charged ≤ c.grant
  place_flow = sound_flow c l n at_place.sound

  pub place_end : c.closed + p.stream.end ≤ c.charged
  place_end = omega (arith, sound_end c l n at_place.sound p.at place_below, ap (λ (y : Stream). y.end) at_place.is)
