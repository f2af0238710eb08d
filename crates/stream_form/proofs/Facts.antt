-- Good form as facts: each record of facts is the conjunction of tests that the definition is, opened and shut again.
-- Assumes nothing.
use mathlib.Core.Path.{◌≡◌, refl, ap, sym, ◌∙◌}
use mathlib.Core.Bool.{Bool, true, false, cond, ◌&&◌, ◌||◌}
use Prim.Native.Nat.{ℕ, ◌/◌, ◌%◌, ◌^◌, ◌≤◌, ◌<◌}
use native.Mathlib.Omega.{arith}
use lib.Dec.{eqb, ltb, leb}
use borrow.Author.Tests.{lt-ltb, le-ltb, le-leb, lt-leb, eq-eqb, ltb-true, ltb-false, leb-true, leb-false, eqb-true}
use Rattle.std.specs.Prelude.{Result, Ok, Err, is_ok}
use Rattle.answers.specs.declared.Refusal.{Refusal}
use Rattle.answers.specs.declared.Refusal.TheVariants.{Limit, State}
use Rattle.stream_record.specs.declared.Stream.{Stream}
use Rattle.stream_conn.specs.declared.Counts.{Counts}
use Rattle.stream_conn.specs.declared.Conn.{Conn}
use Rattle.stream_conn.specs.Books.{counts_of, with_bi, with_uni, with_dir, admitted, good_counts, good_conn}
use Rattle.stream_table.specs.Table.{theirs, good_numbers, good_rec}
use Rattle.stream_table.proofs.Tables.{by_cond, and_left, and_right}

-- ---- tests put together
pub and_both : (a b : Bool) → a ≡ true → b ≡ true → (a && b) ≡ true
and_both a b e f = rw (e, f)

never : true ≡ false → ⊥
never p = let z : ◌≡◌ {A = ℕ} 0 1 = cc in omega arith

pub or_case : (a b : Bool) → (a ≡ false → b ≡ true) → (a || b) ≡ true
or_case true b f = refl
or_case false b f = f refl

pub or_else : (a b : Bool) → (a || b) ≡ true → a ≡ false → b ≡ true
or_else true b e f = absurd (never f)
or_else false b e f = e

pub or_left : (a b : Bool) → (a || b) ≡ false → a ≡ false
or_left true b e = e
or_left false b e = refl

pub or_right : (a b : Bool) → (a || b) ≡ false → b ≡ false
or_right true b e = absurd (never e)
or_right false b e = e

-- ---- a record's numbers
pub record Numbers (s : Stream) : Type 0 where
  pub idl : s.id < 2 ^ 62
  pub re : s.read ≤ s.end
  pub el : s.end ≤ s.limit
  pub lv : s.limit < 2 ^ 62
  pub ph : s.phase < 5
  pub se : s.sending < 2
  pub p0 : s.phase ≡ 0 → s.limit ≡ 0
  pub p3 : 3 ≤ s.phase → s.read ≡ s.end
  pub un : (eqb (s.id / 2 % 2) 0 || eqb s.sending 0) ≡ true
  pub cl : s.class ≡ 0

pub numbers_open : (s : Stream) → good_numbers s ≡ true → Numbers s
unfolding good_numbers
numbers_open s e =
    let e2 = and_right (ltb s.id (2 ^ 62)) _ e in
    let e3 = and_right (leb s.read s.end) _ e2 in
    let e4 = and_right (leb s.end s.limit) _ e3 in
    let e5 = and_right (ltb s.limit (2 ^ 62)) _ e4 in
    let e6 = and_right (ltb s.phase 5) _ e5 in
    let e7 = and_right (ltb s.sending 2) _ e6 in
    let e8 = and_right (ltb 0 s.phase || eqb s.limit 0) _ e7 in
    let e9 = and_right (ltb s.phase 3 || eqb s.read s.end) _ e8 in
    record {
      idl = ltb-true s.id (2 ^ 62) (and_left _ _ e);
      re = leb-true s.read s.end (and_left _ _ e2);
      el = leb-true s.end s.limit (and_left _ _ e3);
      lv = ltb-true s.limit (2 ^ 62) (and_left _ _ e4);
      ph = ltb-true s.phase 5 (and_left _ _ e5);
      se = ltb-true s.sending 2 (and_left _ _ e6);
      p0 = λ z. eqb-true s.limit 0 (or_else (ltb 0 s.phase) _ (and_left _ _ e7) (le-ltb 0 s.phase (omega arith)));
      p3 = λ z. eqb-true s.read s.end (or_else (ltb s.phase 3) _ (and_left _ _ e8) (le-ltb s.phase 3 z));
      un = and_left (eqb (s.id / 2 % 2) 0 || eqb s.sending 0) _ e9;
      cl = eqb-true s.class 0 (and_right (eqb (s.id / 2 % 2) 0 || eqb s.sending 0) _ e9);
    }

pub numbers_shut : (s : Stream) → Numbers s → good_numbers s ≡ true
unfolding good_numbers
numbers_shut s g =
    and_both _ _ (lt-ltb s.id (2 ^ 62) g.idl) (and_both _ _ (le-leb s.read s.end g.re) (and_both _ _ (le-leb s.end s.limit g.el) (and_both _ _ (lt-ltb s.limit (2 ^ 62) g.lv)
    (and_both _ _ (lt-ltb s.phase 5 g.ph) (and_both _ _ (lt-ltb s.sending 2 g.se)
    (and_both _ _ (or_case (ltb 0 s.phase) _ (λ z. eq-eqb s.limit 0 (g.p0 (omega (arith, ltb-false 0 s.phase z)))))
    (and_both _ _ (or_case (ltb s.phase 3) _ (λ z. eq-eqb s.read s.end (g.p3 (ltb-false s.phase 3 z))))
    (and_both _ _ g.un (eq-eqb s.class 0 g.cl)))))))))

-- ---- a record in the table of a connection
module _ (c : Conn) (s : Stream) where
  pub rec_admits : good_rec c s ≡ true → is_ok (admitted c s.id) ≡ true
  unfolding good_rec
  rec_admits e = and_left (is_ok (admitted c s.id)) _ e

  pub rec_numbers : good_rec c s ≡ true → Numbers s
  unfolding good_rec
  rec_numbers e = numbers_open s (and_right (is_ok (admitted c s.id)) _ e)

  pub rec_shut : is_ok (admitted c s.id) ≡ true → Numbers s → good_rec c s ≡ true
  unfolding good_rec
  rec_shut a g = and_both _ _ a (numbers_shut s g)

-- ---- the counts of a direction
pub record Counted (k : Counts) : Type 0 where
  pub own : k.next ≤ 1152921504606846976
  pub may : k.max ≤ 1152921504606846976
  pub used : k.rnext ≤ k.rmax
  pub top : k.rmax ≤ 1152921504606846976
  pub want : k.rwant ≤ k.ralloc
  pub have : k.ralloc ≤ k.rmax

pub counted_open : (k : Counts) → good_counts k ≡ true → Counted k
unfolding good_counts
counted_open k e =
    let e1 = and_right (leb k.next (2 ^ 60)) _ e in
    let e2 = and_right (leb k.max (2 ^ 60)) _ e1 in
    let e3 = and_right (leb k.rnext k.rmax) _ e2 in
    let e4 = and_right (leb k.rmax (2 ^ 60)) _ e3 in
    record {
      own = leb-true k.next (2 ^ 60) (and_left _ _ e);
      may = leb-true k.max (2 ^ 60) (and_left _ _ e1);
      used = leb-true k.rnext k.rmax (and_left _ _ e2);
      top = leb-true k.rmax (2 ^ 60) (and_left _ _ e3);
      want = leb-true k.rwant k.ralloc (and_left _ _ e4);
      have = leb-true k.ralloc k.rmax (and_right (leb k.rwant k.ralloc) _ e4);
    }

pub counted_shut : (k : Counts) → Counted k → good_counts k ≡ true
unfolding good_counts
counted_shut k g =
    and_both _ _ (le-leb k.next (2 ^ 60) g.own) (and_both _ _ (le-leb k.max (2 ^ 60) g.may) (and_both _ _ (le-leb k.rnext k.rmax g.used)
    (and_both _ _ (le-leb k.rmax (2 ^ 60) g.top) (and_both _ _ (le-leb k.rwant k.ralloc g.want) (le-leb k.ralloc k.rmax g.have)))))

-- ---- the connection
pub record Formed (c : Conn) : Type 0 where
  pub shut : c.closed ≤ c.charged
  pub flow : c.charged ≤ c.grant
  pub most : c.grant < 2 ^ 62
  pub us : c.side < 2
  pub win : c.window < 2 ^ 62
  pub swin : c.swindow < 2 ^ 62
  pub bis : Counted c.bi
  pub unis : Counted c.uni

pub formed_open : (c : Conn) → good_conn c ≡ true → Formed c
unfolding good_conn
formed_open c e =
    let e1 = and_right (leb c.closed c.charged) _ e in
    let e2 = and_right (leb c.charged c.grant) _ e1 in
    let e3 = and_right (ltb c.grant (2 ^ 62)) _ e2 in
    let e4 = and_right (ltb c.side 2) _ e3 in
    let e5 = and_right (ltb c.window (2 ^ 62)) _ e4 in
    let e6 = and_right (ltb c.swindow (2 ^ 62)) _ e5 in
    record {
      shut = leb-true c.closed c.charged (and_left _ _ e);
      flow = leb-true c.charged c.grant (and_left _ _ e1);
      most = ltb-true c.grant (2 ^ 62) (and_left _ _ e2);
      us = ltb-true c.side 2 (and_left _ _ e3);
      win = ltb-true c.window (2 ^ 62) (and_left _ _ e4);
      swin = ltb-true c.swindow (2 ^ 62) (and_left _ _ e5);
      bis = counted_open c.bi (and_left (good_counts c.bi) _ e6);
      unis = counted_open c.uni (and_right (good_counts c.bi) _ e6);
    }

pub formed_shut : (c : Conn) → Formed c → good_conn c ≡ true
unfolding good_conn
formed_shut c g =
    and_both _ _ (le-leb c.closed c.charged g.shut) (and_both _ _ (le-leb c.charged c.grant g.flow) (and_both _ _ (lt-ltb c.grant (2 ^ 62) g.most)
    (and_both _ _ (lt-ltb c.side 2 g.us) (and_both _ _ (lt-ltb c.window (2 ^ 62) g.win) (and_both _ _ (lt-ltb c.swindow (2 ^ 62) g.swin)
    (and_both _ _ (counted_shut c.bi g.bis) (counted_shut c.uni g.unis)))))))

-- ---- a direction's counts changed
pub counted_dir : (c : Conn) (dir : ℕ) → Formed c → Counted (counts_of c dir)
counted_dir c dir g = by_cond Counted (eqb dir 1) c.uni c.bi (λ _. g.unis) (λ _. g.bis)

pub formed_dir : (c : Conn) (dir : ℕ) (k : Counts) → Formed c → Counted k → Formed (with_dir c dir k)
formed_dir c dir k g h =
    by_cond Formed (eqb dir 1) (with_uni c k) (with_bi c k)
    (λ _. record { shut = g.shut; flow = g.flow; most = g.most; us = g.us; win = g.win; swin = g.swin; bis = g.bis; unis = h })
    (λ _. record { shut = g.shut; flow = g.flow; most = g.most; us = g.us; win = g.win; swin = g.swin; bis = h; unis = g.unis })

-- ---- who may send, as facts
abbrev answer : Bool → Refusal → Result (Unit {0}) Refusal
answer b why = cond b (Err why) (Ok tt)

let_in : (b : Bool) (why : Refusal) → is_ok (answer b why) ≡ true → b ≡ false
let_in true why e = absurd (never (sym e))
let_in false why e = refl

module _ (c : Conn) (id : ℕ) (a : is_ok (admitted c id) ≡ true) where
  pub theirs_below : eqb (id % 2) c.side ≡ false → id / 4 < (counts_of c (id / 2 % 2)).rmax
  unfolding admitted
  theirs_below n =
      let z : is_ok (answer (leb (counts_of c (id / 2 % 2)).rmax (id / 4)) Limit) ≡ true = rw n at a in
      leb-false (counts_of c (id / 2 % 2)).rmax (id / 4) (let_in (leb (counts_of c (id / 2 % 2)).rmax (id / 4)) Limit z)

  ours_case : eqb (id % 2) c.side ≡ true → (u : Bool) → eqb (id / 2 % 2) 1 ≡ u → (u ≡ false) × (id / 4 < c.bi.next)
  unfolding admitted
  ours_case n true u =
      let z : false ≡ true = rw (n, u) at a in
      absurd (never (sym z))
  ours_case n false u =
      let z : is_ok (answer (leb c.bi.next (id / 4)) State) ≡ true = rw (n, u) at a in
      (refl, leb-false c.bi.next (id / 4) (let_in (leb c.bi.next (id / 4)) State z))

  pub ours_below : eqb (id % 2) c.side ≡ true → (eqb (id / 2 % 2) 1 ≡ false) × (id / 4 < c.bi.next)
  ours_below n = ours_case n (eqb (id / 2 % 2) 1) refl

-- a connection that admits all that c does
pub record Wider (c d : Conn) : Type 0 where
  pub us : d.side ≡ c.side
  pub own : c.bi.next ≤ d.bi.next
  pub bis : c.bi.rmax ≤ d.bi.rmax
  pub unis : c.uni.rmax ≤ d.uni.rmax

pub wider_rmax : (c d : Conn) → Wider c d → (dir : ℕ) → (counts_of c dir).rmax ≤ (counts_of d dir).rmax
wider_rmax c d w dir = by_dir (eqb dir 1)
  where
    by_dir : (b : Bool) → (cond b c.uni c.bi).rmax ≤ (cond b d.uni d.bi).rmax
    by_dir true = w.unis
    by_dir false = w.bis

admit_by : (c d : Conn) → Wider c d → (id : ℕ) → is_ok (admitted c id) ≡ true → (b : Bool) → eqb (id % 2) c.side ≡ b → is_ok (admitted d id) ≡ true
unfolding admitted
admit_by c d w id a true n =
    let o = ours_below c id a n in
    let p : eqb (id % 2) d.side ≡ true = ap (eqb (id % 2)) w.us ∙ n in
    rw (p, o.0, lt-leb d.bi.next (id / 4) (omega (arith, o.1, w.own)))
admit_by c d w id a false n =
    let p : eqb (id % 2) d.side ≡ false = ap (eqb (id % 2)) w.us ∙ n in
    rw (p, lt-leb (counts_of d (id / 2 % 2)).rmax (id / 4) (omega (arith, theirs_below c id a n, wider_rmax c d w (id / 2 % 2))))

pub admit_wider : (c d : Conn) → Wider c d → (id : ℕ) → is_ok (admitted c id) ≡ true → is_ok (admitted d id) ≡ true
admit_wider c d w id a = admit_by c d w id a (eqb (id % 2) c.side) refl

-- with no fewer of a direction
pub wider_dir : (c : Conn) (dir : ℕ) (k : Counts) → (counts_of c dir).next ≤ k.next → (counts_of c dir).rmax ≤ k.rmax → Wider c (with_dir c dir k)
wider_dir c dir k = by_dir (eqb dir 1)
  where
    by_dir : (b : Bool) → (cond b c.uni c.bi).next ≤ k.next → (cond b c.uni c.bi).rmax ≤ k.rmax → Wider c (cond b (with_uni c k) (with_bi c k))
    by_dir true h m = record { us = refl; own = omega arith; bis = omega arith; unis = m }
    by_dir false h m = record { us = refl; own = h; bis = m; unis = omega arith }

pub theirs_side : (c d : Conn) → d.side ≡ c.side → (k id : ℕ) → theirs d k id ≡ theirs c k id
unfolding theirs
theirs_side c d h k id = rw h
