-- A table in good form as facts about its list of records, and that each move of the list keeps them, with the connection moved beside it.
-- Assumes nothing.
use mathlib.Core.Path.{◌≡◌, refl, ap, sym, ◌∙◌}
use mathlib.Core.Bool.{Bool, true, false, cond, ◌||◌}
use mathlib.Core.List.{List, [], ◌∷◌}
use Prim.Native.Nat.{ℕ, zero, suc, ◌+◌, ◌*◌, ◌-◌, ◌/◌, ◌%◌, ◌^◌, ◌≤◌, ◌<◌}
use native.Mathlib.Omega.{arith}
use lib.Dec.{eqb, leb}
use lib.ListN.{length, get_or, set}
use borrow.Author.Tests.{le-leb, eq-eqb, leb-true, eqb-true}
use Rattle.std.specs.Prelude.{is_ok}
use Rattle.stream_record.specs.declared.Stream.{Stream}
use Rattle.stream_record.specs.Record.{none, fresh}
use Rattle.stream_conn.specs.declared.Counts.{Counts}
use Rattle.stream_conn.specs.declared.Conn.{Conn}
use Rattle.stream_conn.specs.Books.{admitted, good_conn}
use Rattle.stream_table.specs.Table.{theirs, good_rec, good_from, records, sound_b, insert_id}
use Rattle.stream_table.proofs.Tables.{and_left, and_right}
use Rattle.stream_table.proofs.Entries.{sound_conn, sound_both}
use Rattle.stream_form.specs.Form.{sum_of}
use Rattle.stream_form.proofs.Facts.{and_both, Numbers, rec_admits, rec_numbers, rec_shut, Formed, formed_open, formed_shut, Wider, admit_wider, theirs_side}
use Rattle.stream_form.proofs.Lists.{all_good, rising, drop_at, good_insert, rising_insert, good_drop, rising_drop, good_set, rising_set, good_all, sum_insert, sum_drop, sum_put, sum_same}

-- a direction by a truth value: true one way
abbrev pub num : Bool → ℕ
num true = 1
num false = 0

abbrev pub way : Bool → Conn → Counts
way b c = cond b c.uni c.bi

abbrev pub mine : Conn → Bool → Stream → ℕ
mine c b s = theirs c (num b) s.id

pub record Table (c : Conn) (ss : List Stream) : Type 0 where
  pub all : all_good c ss ≡ true
  pub up : rising 0 ss ≡ true
  pub sum : c.closed + sum_of (λ (s : Stream). s.end) ss ≡ c.charged
  pub have : (b : Bool) → sum_of (mine c b) ss ≡ (way b c).ralloc

-- ---- the pass of `check` is these facts
record Pass (c : Conn) (ss : List Stream) (low left b u : ℕ) : Type 0 where
  good : all_good c ss ≡ true
  up : rising low ss ≡ true
  sum : sum_of (λ (s : Stream). s.end) ss ≡ left
  bis : b + sum_of (mine c false) ss ≡ c.bi.ralloc
  unis : u + sum_of (mine c true) ss ≡ c.uni.ralloc

pass_open : (c : Conn) (ss : List Stream) (low left b u : ℕ) → good_from c ss low left b u ≡ true → Pass c ss low left b u
pass_open c [] low left b u e =
    let f = and_right (eqb left 0) _ e in
    record {
      good = refl;
      up = refl;
      sum = sym (eqb-true left 0 (and_left (eqb left 0) _ e));
      bis = omega (arith, eqb-true b c.bi.ralloc (and_left (eqb b c.bi.ralloc) _ f));
      unis = omega (arith, eqb-true u c.uni.ralloc (and_right (eqb b c.bi.ralloc) _ f));
    }
pass_open c (s ∷ ss) low left b u e =
    let e1 = and_right (good_rec c s) _ e in
    let e2 = and_right (leb low s.id) _ e1 in
    let en : s.end ≤ left = leb-true s.end left (and_left (leb s.end left) _ e2) in
    let p = pass_open c ss (s.id + 1) (left - s.end) (b + theirs c 0 s.id) (u + theirs c 1 s.id) (and_right (leb s.end left) _ e2) in
    record {
      good = and_both (good_rec c s) (all_good c ss) (and_left (good_rec c s) _ e) p.good;
      up = and_both (leb low s.id) (rising (s.id + 1) ss) (and_left (leb low s.id) _ e1) p.up;
      sum = omega (arith, p.sum);
      bis = omega (arith, p.bis);
      unis = omega (arith, p.unis);
    }

pass_shut : (c : Conn) (ss : List Stream) (low left b u : ℕ) → Pass c ss low left b u → good_from c ss low left b u ≡ true
pass_shut c [] low left b u p =
    and_both _ _ (eq-eqb left 0 (sym p.sum)) (and_both _ _ (eq-eqb b c.bi.ralloc (omega (arith, p.bis))) (eq-eqb u c.uni.ralloc (omega (arith, p.unis))))
pass_shut c (s ∷ ss) low left b u p =
    let q : Pass c ss (s.id + 1) (left - s.end) (b + theirs c 0 s.id) (u + theirs c 1 s.id) =
    record { good = and_right (good_rec c s) _ p.good; up = and_right (leb low s.id) _ p.up; sum = omega (arith, p.sum); bis = omega (arith, p.bis); unis = omega (arith, p.unis) } in
    and_both _ _ (and_left (good_rec c s) _ p.good) (and_both _ _ (and_left (leb low s.id) _ p.up) (and_both _ _ (le-leb s.end left (omega (arith, p.sum)))
    (pass_shut c ss (s.id + 1) (left - s.end) (b + theirs c 0 s.id) (u + theirs c 1 s.id) q)))

-- ---- good form, opened and shut
module _ (c : Conn) (l : List ℕ) (n : ℕ) where
  pub sound_form : sound_b c l n ≡ true → Formed c
  sound_form e = formed_open c (sound_conn c l n e)

  pub sound_table : sound_b c l n ≡ true → Table c (records n l)
  sound_table e =
      let p = pass_open c (records n l) 0 (c.charged - c.closed) 0 0 (and_right (good_conn c) _ (sound_both c l n e)) in
      let f = sound_form e in
      record { all = p.good; up = p.up; sum = omega (arith, p.sum, f.shut); have = both p }
    where
      both : Pass c (records n l) 0 (c.charged - c.closed) 0 0 → (b : Bool) → sum_of (mine c b) (records n l) ≡ (way b c).ralloc
      both p true = omega (arith, p.unis)
      both p false = omega (arith, p.bis)

  pub sound_shut : n ≤ 256 → 7 * n ≤ length l → Formed c → Table c (records n l) → sound_b c l n ≡ true
  unfolding sound_b
  sound_shut few room f t =
      and_both _ _ (le-leb n 256 few) (and_both _ _ (le-leb (7 * n) (length l) room) (and_both _ _ (formed_shut c f)
      (pass_shut c (records n l) 0 (c.charged - c.closed) 0 0
      (record { good = t.all; up = t.up; sum = omega (arith, t.sum); bis = omega (arith, t.have false); unis = omega (arith, t.have true) }))))

-- ---- moves
module _ (c d : Conn) (w : Wider c d) (ss : List Stream) (t : Table c ss) where
  wider_good : (s : Stream) → good_rec c s ≡ true → good_rec d s ≡ true
  wider_good s g = rec_shut d s (admit_wider c d w s.id (rec_admits c s g)) (rec_numbers c s g)

  mine_same : (b : Bool) (s : Stream) → mine d b s ≡ mine c b s
  mine_same b s = theirs_side c d w.us (num b) s.id

  all_wider : all_good d ss ≡ true
  all_wider = good_all c d ss wider_good t.all

  -- no record moves
  pub table_same : d.charged ≡ c.charged → d.closed ≡ c.closed → ((b : Bool) → (way b d).ralloc ≡ (way b c).ralloc) → Table d ss
  table_same ch cl ra = record { all = all_wider; up = t.up; sum = omega (arith, t.sum); have = λ b. sum_same (mine d b) (mine c b) ss (mine_same b) ∙ t.have b ∙ sym (ra b) }

  -- record i becomes x, the same stream
  pub table_set : (i : ℕ) (x : Stream) → i < length ss → x.id ≡ (get_or ss i none).id → Numbers x → d.closed + x.end + c.charged ≡ d.charged + (c.closed + (get_or ss i none).end)
      → ((b : Bool) → (way b d).ralloc ≡ (way b c).ralloc) → good_rec c (get_or ss i none) ≡ true → Table d (set ss i x)
  table_set i x h ei nx bal ra g =
      let gx : good_rec d x ≡ true = rec_shut d x (ap (λ (y : ℕ). is_ok (admitted d y)) ei ∙ rec_admits d (get_or ss i none) (wider_good (get_or ss i none) g)) nx in
      record {
        all = good_set d ss i x all_wider gx;
        up = rising_set 0 ss i x ei h t.up;
        sum = omega (arith, sum_put (λ (s : Stream). s.end) ss i x h, t.sum);
        have = λ b.
            let q : mine d b x ≡ mine d b (get_or ss i none) = ap (theirs d (num b)) ei in
            let r : sum_of (mine d b) ss ≡ sum_of (mine c b) ss = sum_same (mine d b) (mine c b) ss (mine_same b) in
            omega (arith, sum_put (mine d b) ss i x h, t.have b, ra b);
      }

  -- one more, of an id that was not admitted
  pub table_insert : (x : Stream) → (is_ok (admitted c x.id) ≡ true → ⊥) → is_ok (admitted d x.id) ≡ true → Numbers x → x.end ≡ 0 → d.charged ≡ c.charged → d.closed ≡ c.closed
      → ((b : Bool) → (way b d).ralloc ≡ mine c b x + (way b c).ralloc) → Table d (insert_id x ss)
  table_insert x fresh-id ad nx z ch cl ra =
      record {
        all = good_insert d x ss (rec_shut d x ad nx) all_wider;
        up = rising_insert c x ss 0 t.up t.all fresh-id (omega arith);
        sum = omega (arith, sum_insert (λ (s : Stream). s.end) x ss, t.sum);
        have = λ b.
            let r : sum_of (mine d b) ss ≡ sum_of (mine c b) ss = sum_same (mine d b) (mine c b) ss (mine_same b) in
            omega (arith, sum_insert (mine d b) x ss, t.have b, ra b, mine_same b x);
      }

  -- one less, that has nothing to its charge
  pub table_drop : (i : ℕ) → i < length ss → (get_or ss i none).end ≡ 0 → d.charged ≡ c.charged → d.closed ≡ c.closed
      → ((b : Bool) → mine c b (get_or ss i none) + sum_of (mine c b) (drop_at i ss) ≡ (way b c).ralloc → sum_of (mine c b) (drop_at i ss) ≡ (way b d).ralloc) → Table d (drop_at i ss)
  table_drop i h z ch cl ra =
      record {
        all = good_drop d i ss all_wider;
        up = rising_drop i 0 ss t.up;
        sum = omega (arith, sum_drop (λ (s : Stream). s.end) i ss h, t.sum);
        have = λ b. sum_same (mine d b) (mine c b) (drop_at i ss) (mine_same b) ∙ ra b (sum_drop (mine c b) i ss h ∙ t.have b);
      }

-- ---- a fresh record
pub fresh_numbers : (w id : ℕ) → w < 2 ^ 62 → id < 2 ^ 62 → Numbers (fresh w id)
fresh_numbers w id hw hi =
    record {
      idl = hi;
      re = omega arith;
      el = omega arith;
      lv = hw;
      ph = omega arith;
      se = omega arith;
      p0 = λ z. absurd (omega arith);
      p3 = λ z. absurd (omega arith);
      un = half (id / 2 % 2) (omega arith);
      cl = refl;
    }
  where
    half : (x : ℕ) → x < 2 → (eqb x 0 || eqb (1 - x) 0) ≡ true
    half zero h = refl
    half (suc zero) h = refl
    half (suc (suc x)) h = absurd (omega arith)
