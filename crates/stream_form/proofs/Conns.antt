-- The calls without a table keep good form, with any table that was in good form before: nothing that a record is checked against changes, or it only
-- admits more. And a fresh connection is in good form with an empty table.
-- Assumes nothing.
use mathlib.Core.Path.{◌≡◌, refl, ap, subst}
use mathlib.Core.Bool.{Bool, true, false, cond, ◌||◌}
use mathlib.Core.List.{List}
use Prim.Native.Nat.{ℕ, ◌+◌, ◌-◌, ◌^◌, ◌≤◌, ◌<◌, min, max}
use native.Mathlib.Omega.{arith}
use lib.Dec.{eqb, ltb, leb}
use borrow.Author.Tests.{ltb-false, leb-false}
use Rattle.std.specs.Prelude.{Result, Ok}
use Rattle.answers.specs.declared.Refusal.{Refusal}
use Rattle.stream_conn.specs.declared.Counts.{Counts}
use Rattle.stream_conn.specs.declared.Conn.{Conn}
use Rattle.stream_conn.specs.declared.Done.{Done}
use Rattle.stream_conn.specs.Books.{counts_of, with_bi, with_uni, with_dir, good_conn, paid, windowed, allowed, no_counts, fresh_conn, unchanged_done, new_done, credit_done, window_done, max_done}
use Rattle.stream_table.specs.Table.{records, sound_b}
use Rattle.stream_table.proofs.Tables.{by_cond}
use Rattle.stream_table.proofs.Entries.{sound_few, sound_room}
use Rattle.stream_form.specs.Form.{credit_of, Booked}
use Rattle.streams.specs.Calls.{conn_after}
use Rattle.stream_form.proofs.Facts.{or_left, or_right, Counted, Formed, formed_dir, counted_dir, Wider, wider_dir}
use Rattle.stream_form.proofs.Tabled.{way, sound_form, sound_table, sound_shut, table_same}
use Rattle.stream_form.proofs.Calls.{by_bool, not_booked}

-- the same records, with a connection that admits no less and counts the same
same_sound : (c d : Conn) (l : List ℕ) (n : ℕ) → sound_b c l n ≡ true → Formed d → Wider c d → d.charged ≡ c.charged → d.closed ≡ c.closed → ((b : Bool) → (way b d).ralloc ≡ (way b c).ralloc) → sound_b d l n ≡ true
same_sound c d l n e f w ch cl ra = sound_shut d l n (sound_few c l n e) (sound_room c l n e) f (table_same c d w (records n l) (sound_table c l n e) ch cl ra)

wider_refl : (c d : Conn) → d.side ≡ c.side → d.bi ≡ c.bi → d.uni ≡ c.uni → Wider c d
wider_refl c d s b u =
    let en : d.bi.next ≡ c.bi.next = ap (λ (k : Counts). k.next) b in
    let eb : d.bi.rmax ≡ c.bi.rmax = ap (λ (k : Counts). k.rmax) b in
    let eu : d.uni.rmax ≡ c.uni.rmax = ap (λ (k : Counts). k.rmax) u in
    record { us = s; own = omega arith; bis = omega arith; unis = omega arith }

-- ---- credit
paid_form : (c : Conn) (x : ℕ) → Formed c → Formed (paid c x)
unfolding paid
paid_form c x f =
    let fl : c.charged ≤ c.grant = f.flow in
    let mo : c.grant < 2 ^ 62 = f.most in
    record { shut = f.shut; flow = omega arith; most = omega arith; us = f.us; win = f.win; swin = f.swin; bis = f.bis; unis = f.unis }

paid_booked : (c : Conn) (l : List ℕ) (n x : ℕ) → sound_b c l n ≡ true → Booked c l n 0 0 x 0 (paid c x) l n
unfolding paid
paid_booked c l n x e =
    record {
      sound = same_sound c (paid c x) l n e (paid_form c x (sound_form c l n e)) (wider_refl c (paid c x) refl refl refl) refl refl (λ b. refl);
      charged = omega arith;
      grant = ap (λ (y : ℕ). min (c.grant + (y - c.debt)) 4611686018427387903) (let z : x ≡ 0 + x = omega arith in z);
      debt = omega arith;
      window = refl;
      reads = omega arith;
    }

pub credit_kept : (c : Conn) (l : List ℕ) (n x : ℕ) → sound_b c l n ≡ true → Booked c l n 0 0 (credit_of (credit_done c x)) 0 (conn_after c (credit_done c x)) l n
unfolding credit_done
credit_kept c l n x e =
    by_cond (λ (r : Result Done Refusal). Booked c l n 0 0 (credit_of r) 0 (conn_after c r) l n) (leb (2 ^ 62) x) _ _ (λ _. not_booked c l n e)
    (λ _. by_cond (λ (r : Result Done Refusal). Booked c l n 0 0 (credit_of r) 0 (conn_after c r) l n) (good_conn c) _ _ (λ _. paid_booked c l n x e) (λ _. not_booked c l n e))

-- ---- the window
-- wider raises the grant and narrower makes debt: the window in force, with the debt, is what it was, and the grant rises by what is more
pub record Windowed (c : Conn) (l : List ℕ) (n wide narrow : ℕ) (d : Conn) : Type 0 where
  pub sound : sound_b d l n ≡ true
  pub charged : d.charged ≡ c.charged
  pub closed : d.closed ≡ c.closed
  pub grant : d.grant ≡ min (c.grant + wide) 4611686018427387903
  pub debt : d.debt ≡ min (c.debt + narrow) 18446744073709551615
  pub window : d.window + narrow ≡ c.window + wide

windowed_form : (c : Conn) (w : ℕ) → w < 2 ^ 62 → Formed c → Formed (windowed c w)
unfolding windowed
windowed_form c w h f =
    let fl : c.charged ≤ c.grant = f.flow in
    let mo : c.grant < 2 ^ 62 = f.most in
    record { shut = f.shut; flow = omega arith; most = omega arith; us = f.us; win = h; swin = f.swin; bis = f.bis; unis = f.unis }

windowed_kept : (c : Conn) (l : List ℕ) (n w : ℕ) → w < 2 ^ 62 → sound_b c l n ≡ true → Windowed c l n (w - c.window) (c.window - w) (windowed c w)
unfolding windowed
windowed_kept c l n w h e =
    record {
      sound = same_sound c (windowed c w) l n e (windowed_form c w h (sound_form c l n e)) (wider_refl c (windowed c w) refl refl refl) refl refl (λ b. refl);
      charged = refl;
      closed = refl;
      grant = refl;
      debt = refl;
      window = omega arith;
    }

windowed_is : (c : Conn) (l : List ℕ) (n w : ℕ) → w < 2 ^ 62 → sound_b c l n ≡ true → Windowed c l n ((windowed c w).window - c.window) (c.window - (windowed c w).window) (windowed c w)
unfolding windowed
windowed_is c l n w h e = windowed_kept c l n w h e

-- how much wider and narrower the window has become: nothing where the call is refused
pub window_kept : (c : Conn) (l : List ℕ) (n w : ℕ) → c.debt ≤ 18446744073709551615 → sound_b c l n ≡ true
    → Windowed c l n ((conn_after c (window_done c w)).window - c.window) (c.window - (conn_after c (window_done c w)).window) (conn_after c (window_done c w))
unfolding window_done
window_kept c l n w fits e =
    let mo : c.grant < 2 ^ 62 = (sound_form c l n e).most in
    let idle : Windowed c l n (c.window - c.window) (c.window - c.window) c =
    record { sound = e; charged = refl; closed = refl; grant = omega arith; debt = omega arith; window = omega arith } in
    by_cond (λ (r : Result Done Refusal). Windowed c l n ((conn_after c r).window - c.window) (c.window - (conn_after c r).window) (conn_after c r)) (leb (2 ^ 62) w) _ _ (λ _. idle)
    (λ q. by_cond (λ (r : Result Done Refusal). Windowed c l n ((conn_after c r).window - c.window) (c.window - (conn_after c r).window) (conn_after c r)) (good_conn c) _ _ (λ _. windowed_is c l n w (leb-false (2 ^ 62) w q) e) (λ _. idle))

-- ---- MAX_STREAMS
max_dir : (c : Conn) (k : Counts) (l : List ℕ) (n : ℕ) (b : Bool) → sound_b c l n ≡ true → Formed (cond b (with_uni c k) (with_bi c k)) → Wider c (cond b (with_uni c k) (with_bi c k)) → k.ralloc ≡ (way b c).ralloc
    → Booked c l n 0 0 0 0 (cond b (with_uni c k) (with_bi c k)) l n
max_dir c k l n true e f w ea =
    let z = not_booked c l n e in
    record {
      sound = same_sound c (with_uni c k) l n e f w refl refl (by_bool (λ (b : Bool). (way b (with_uni c k)).ralloc ≡ (way b c).ralloc) ea refl);
      charged = z.charged;
      grant = z.grant;
      debt = z.debt;
      window = refl;
      reads = z.reads;
    }
max_dir c k l n false e f w ea =
    let z = not_booked c l n e in
    record {
      sound = same_sound c (with_bi c k) l n e f w refl refl (by_bool (λ (b : Bool). (way b (with_bi c k)).ralloc ≡ (way b c).ralloc) refl ea);
      charged = z.charged;
      grant = z.grant;
      debt = z.debt;
      window = refl;
      reads = z.reads;
    }

-- the counts of a direction with other numbers of ours
pub dir_booked : (c : Conn) (l : List ℕ) (n dir : ℕ) (k : Counts) → sound_b c l n ≡ true → Counted k → (counts_of c dir).next ≤ k.next → k.rmax ≡ (counts_of c dir).rmax → k.ralloc ≡ (counts_of c dir).ralloc
    → Booked c l n 0 0 0 0 (with_dir c dir k) l n
dir_booked c l n dir k e g hn hr ha = max_dir c k l n (eqb dir 1) e (formed_dir c dir k (sound_form c l n e) g) (wider_dir c dir k hn (omega arith)) ha

pub max_kept : (c : Conn) (l : List ℕ) (n dir x : ℕ) → sound_b c l n ≡ true → Booked c l n 0 0 0 0 (conn_after c (max_done c dir x)) l n
unfolding max_done
max_kept c l n dir x e =
    by_cond (λ (r : Result Done Refusal). Booked c l n 0 0 0 0 (conn_after c r) l n) (ltb 1 dir || ltb (2 ^ 60) x) _ _ (λ _. not_booked c l n e)
    (λ q.
    let g : Counted (counts_of c dir) = counted_dir c dir (sound_form c l n e) in
    let h : Counted (allowed (counts_of c dir) x) =
    record { own = g.own; may = max_top (counts_of c dir).max x g.may (ltb-false (2 ^ 60) x (or_right (ltb 1 dir) _ q)); used = g.used; top = g.top; want = g.want; have = g.have } in
    by_cond (λ (r : Result Done Refusal). Booked c l n 0 0 0 0 (conn_after c r) l n) (good_conn c) _ _
    (λ _. dir_booked c l n dir (allowed (counts_of c dir) x) e h (omega arith) refl refl) (λ _. not_booked c l n e))
  where
    max_top : (a b : ℕ) → a ≤ 1152921504606846976 → b ≤ 1152921504606846976 → max a b ≤ 1152921504606846976
    max_top a b h k = omega arith

-- ---- a fresh connection
none_counted : Counted no_counts
none_counted = record { own = omega arith; may = omega arith; used = omega arith; top = omega arith; want = omega arith; have = omega arith }

fresh_sound : (side w sw : ℕ) (l : List ℕ) → side < 2 → w < 2 ^ 62 → sw < 2 ^ 62 → sound_b (fresh_conn side w sw) l 0 ≡ true
unfolding records
fresh_sound side w sw l a b d =
    sound_shut (fresh_conn side w sw) l 0 (omega arith) (omega arith)
    (record { shut = omega arith; flow = omega arith; most = b; us = a; win = b; swin = d; bis = none_counted; unis = none_counted })
    (record { all = refl; up = refl; sum = refl; have = by_bool (λ (b : Bool). 0 ≡ (way b (fresh_conn side w sw)).ralloc) refl refl })

pub new_sound : (side w sw : ℕ) (l : List ℕ) (d : Done) → new_done side w sw ≡ Ok d → sound_b d.conn l 0 ≡ true
unfolding new_done
new_sound side w sw l d =
    by_cond (λ (r : Result Done Refusal). r ≡ Ok d → sound_b d.conn l 0 ≡ true) (ltb 1 side || (leb (2 ^ 62) w || leb (2 ^ 62) sw)) _ _
    (λ _ h. absurd (cc))
    (λ q h.
    let r = or_right (ltb 1 side) _ q in
    let s : sound_b (fresh_conn side w sw) l 0 ≡ true =
    fresh_sound side w sw l (under side (ltb-false 1 side (or_left (ltb 1 side) _ q))) (leb-false (2 ^ 62) w (or_left (leb (2 ^ 62) w) _ r)) (leb-false (2 ^ 62) sw (or_right (leb (2 ^ 62) w) _ r)) in
    let z : ◌≡◌ {A = Done} (unchanged_done (fresh_conn side w sw)) d = cc in
    subst (λ (y : Done). sound_b y.conn l 0 ≡ true) z s)
  where
    under : (x : ℕ) → x ≤ 1 → x < 2
    under x h = omega arith
