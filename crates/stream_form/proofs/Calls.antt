-- Every call on a stream keeps good form, charges the rise of `end` and credits the rise of `read`: its step is lawful, and booking a lawful step keeps
-- each part of good form.
-- Assumes nothing.
use mathlib.Core.Path.{◌≡◌, refl, ap, sym, ◌∙◌, subst}
use mathlib.Core.Bool.{Bool, true, false, cond, ◌||◌}
use mathlib.Core.List.{List}
use Prim.Native.Nat.{ℕ, ◌+◌, ◌-◌, ◌/◌, ◌%◌, ◌^◌, ◌≤◌, ◌<◌, min}
use native.Mathlib.Omega.{arith}
use lib.Dec.{eqb, leb}
use lib.ListN.{length, get_or, set}
use Rattle.std.specs.Prelude.{Option, Some, None, Result, Ok, Err, is_ok}
use Rattle.answers.specs.declared.Refusal.{Refusal}
use Rattle.answers.specs.declared.Refusal.TheVariants.{Order}
use Rattle.stream_record.specs.declared.Stream.{Stream}
use Rattle.stream_record.specs.declared.Step.{Step}
use Rattle.stream_record.specs.Record.{none, took, was_reset, halted, read_on, seen_by, announced, sent_done}
use Rattle.stream_conn.specs.declared.Counts.{Counts}
use Rattle.stream_conn.specs.declared.Conn.{Conn}
use Rattle.stream_conn.specs.Books.{counts_of, with_bi, with_uni, admitted, used_to, paid, raised, unchanged_done}
use Rattle.stream_conn.specs.declared.Done.{Done}
use Rattle.stream_table.specs.declared.Place.{Place}
use Rattle.stream_table.specs.Table.{good_rec, put_rec, rec_at, records, sound_b, entered}
use Rattle.stream_table.proofs.Tables.{by_cond, records_store, records_at, length_records, length_store}
use Rattle.stream_table.proofs.Entries.{sound_few, sound_room, at_place, place_below, place_end, place_flow}
use Rattle.streams.specs.Calls.{Fair, After, after, conn_after, booked, taken, committed, stepped, by_entry, on_stream, room, data_after, reset_after, stop_after, read_after, seen_after, announce_after, sent_after}
use Rattle.streams.proofs.Fair.{took_fair, reset_fair, stop_fair, read_fair, seen_fair, announce_fair, sent_fair}
use Rattle.stream_form.specs.Form.{sum_of, read_of, charge_of, credit_of, Booked}
use Rattle.stream_form.proofs.Facts.{Numbers, rec_numbers, Counted, Formed, formed_dir, counted_dir, Wider, admit_wider, theirs_below}
use Rattle.stream_form.proofs.Lists.{good_at, sum_put}
use Rattle.stream_form.proofs.Steps.{Of, Even, Once, Fit, took_even, reset_even, stop_even, read_even, seen_even, announce_even, sent_even, took_once, reset_once, stop_once, read_once, seen_once, announce_once, sent_once, took_fit, reset_fit, stop_fit, read_fit, seen_fit, announce_fit, sent_fit}
use Rattle.stream_form.proofs.Tabled.{way, Table, sound_form, sound_table, sound_shut, table_set}

pub by_bool : (P : Bool → Type 0) → P true → P false → (b : Bool) → P b
by_bool P f g true = f
by_bool P f g false = g

-- ---- the connection after a step
record Taken (c : Conn) (p : Step) (d : Conn) : Type 0 where
  ch : d.charged ≡ c.charged + p.charge
  cl : d.closed ≡ c.closed + p.shut
  gr : d.grant ≡ min (c.grant + (p.credit - c.debt)) 4611686018427387903
  de : d.debt ≡ c.debt - p.credit
  wi : d.window ≡ c.window
  wide : Wider c d
  ra : (b : Bool) → (way b d).ralloc ≡ (way b c).ralloc
  form : Formed d

booked_taken : (c : Conn) (p : Step) → Formed c → c.closed + p.shut ≤ c.charged + p.charge → c.charged + p.charge ≤ c.grant → Taken c p (booked c p.charge p.shut p.credit)
unfolding booked paid
booked_taken c p f h k =
    let most : c.grant < 2 ^ 62 = f.most in
    record {
      ch = refl;
      cl = refl;
      gr = refl;
      de = refl;
      wi = refl;
      wide = record { us = refl; own = omega arith; bis = omega arith; unis = omega arith };
      ra = by_bool (λ (b : Bool). (way b c).ralloc ≡ (way b c).ralloc) refl refl;
      form = record { shut = h; flow = omega arith; most = omega arith; us = f.us; win = f.win; swin = f.swin; bis = f.bis; unis = f.unis };
    }

-- the counts of one direction change, but neither what is admitted nor what is allocated
dir_taken : (c : Conn) (p : Step) (d : Conn) (k : Counts) (b : Bool) → Taken c p d → Formed (cond b (with_uni d k) (with_bi d k)) → k.next ≡ (way b d).next → k.rmax ≡ (way b d).rmax → k.ralloc ≡ (way b d).ralloc
    → Taken c p (cond b (with_uni d k) (with_bi d k))
dir_taken c p d k true t f en er ea =
    let w = t.wide in
    record {
      ch = t.ch;
      cl = t.cl;
      gr = t.gr;
      de = t.de;
      wi = t.wi;
      wide = record { us = w.us; own = w.own; bis = w.bis; unis = omega (arith, w.unis) };
      ra = by_bool (λ (b : Bool). (way b (with_uni d k)).ralloc ≡ (way b c).ralloc) (ea ∙ t.ra true) (t.ra false);
      form = f;
    }
dir_taken c p d k false t f en er ea =
    let w = t.wide in
    record {
      ch = t.ch;
      cl = t.cl;
      gr = t.gr;
      de = t.de;
      wi = t.wi;
      wide = record { us = w.us; own = omega (arith, w.own); bis = omega (arith, w.bis); unis = w.unis };
      ra = by_bool (λ (b : Bool). (way b (with_bi d k)).ralloc ≡ (way b c).ralloc) (t.ra true) (ea ∙ t.ra false);
      form = f;
    }

raised_taken : (c : Conn) (p : Step) (d : Conn) (id : ℕ) → is_ok (admitted c id) ≡ true → Taken c p d → Taken c p (raised d id)
unfolding raised
raised_taken c p d id a t =
    by_cond (Taken c p) (eqb (id % 2) d.side) _ _ (λ _. t)
    (λ q.
    let k : Counts = counts_of d (id / 2 % 2) in
    let g : Counted k = counted_dir d (id / 2 % 2) t.form in
    let below : id / 4 < k.rmax = theirs_below d id (admit_wider c d t.wide id a) q in
    let h : Counted (used_to k (id / 4 + 1)) = record { own = g.own; may = g.may; used = omega (arith, g.used); top = g.top; want = g.want; have = g.have } in
    dir_taken c p d (used_to k (id / 4 + 1)) (eqb (id / 2 % 2) 1) t (formed_dir d (id / 2 % 2) (used_to k (id / 4 + 1)) t.form h) refl refl refl)

-- ---- a lawful step, and a call that takes one
abbrev Lawful : Conn → (Stream → Result (Option Step) Refusal) → Type 0
Lawful c step = (s : Stream) → Numbers s → Of (Fit s) (step s) × Of (Even s) (step s) × Of (Once s) (step s) × Fair s (room c) (step s)

pub not_booked : (c : Conn) (l : List ℕ) (n : ℕ) → sound_b c l n ≡ true → Booked c l n 0 0 0 0 c l n
not_booked c l n e =
    let most : c.grant < 2 ^ 62 = (sound_form c l n e).most in
    record { sound = e; charged = omega arith; grant = omega arith; debt = omega arith; window = refl; reads = omega arith }

module _ (c : Conn) (l : List ℕ) (n : ℕ) (e : sound_b c l n ≡ true) where
  abbrev pub Kept : After → Type 0
  Kept x = Booked c l n (charge_of x.done) (credit_of x.done) 0 0 (conn_after c x.done) x.words n

  taken_kept : (i : ℕ) (p : Step) (d : Conn) → i < n → Taken c p d → Fit (rec_at l i) p → Even (rec_at l i) p → Once (rec_at l i) p
      → Booked c l n p.charge p.credit 0 0 d (put_rec l i p.stream) n
  taken_kept i p d h t fit ev on =
      let rs : records n (put_rec l i p.stream) ≡ set (records n l) i p.stream = records_store n l i p.stream (sound_room c l n e) h in
      let at : get_or (records n l) i none ≡ rec_at l i = records_at n l i h in
      let lt : i < length (records n l) = omega (arith, length_records n l) in
      let tb = sound_table c l n e in
      let ae : (get_or (records n l) i none).end ≡ (rec_at l i).end = ap (λ (s : Stream). s.end) at in
      let ar : (get_or (records n l) i none).read ≡ (rec_at l i).read = ap (λ (s : Stream). s.read) at in
      let ai : p.stream.id ≡ (get_or (records n l) i none).id = fit.0 ∙ sym (ap (λ (s : Stream). s.id) at) in
      let st : Table d (set (records n l) i p.stream) =
      table_set c d t.wide (records n l) tb i p.stream lt ai fit.1 (omega (arith, t.ch, t.cl, ev, ae)) t.ra (good_at c (records n l) i lt tb.all) in
      let sr : sum_of read_of (records n (put_rec l i p.stream)) ≡ sum_of read_of (set (records n l) i p.stream) = ap (sum_of read_of) rs in
      record {
        sound = sound_shut d (put_rec l i p.stream) n (sound_few c l n e) (omega (arith, length_store l i p.stream, sound_room c l n e)) t.form (rw rs st);
        charged = t.ch;
        grant = t.gr ∙ ap (λ (y : ℕ). min (c.grant + (y - c.debt)) 4611686018427387903) (let z : p.credit ≡ p.credit + 0 = omega arith in z);
        debt = omega (arith, t.de);
        window = t.wi;
        reads = omega (arith, t.cl, on, ar, sr, sum_put read_of (records n l) i p.stream lt);
      }

  committed_kept : (i id : ℕ) (peer : Bool) (p : Step) → i < n → is_ok (admitted c id) ≡ true → c.closed + (rec_at l i).end ≤ c.charged → c.charged ≤ c.grant
      → Fit (rec_at l i) p → Even (rec_at l i) p → Once (rec_at l i) p → Fair (rec_at l i) (room c) (Ok (Some p)) → Kept (committed c l i id peer p)
  unfolding committed
  committed_kept i id peer p h a en fl fit ev on fair =
      let bt : Taken c p (booked c p.charge p.shut p.credit) = booked_taken c p (sound_form c l n e) (omega (arith, fair.1, en)) (omega (arith, fair.0, fl)) in
      let tt' : Taken c p (taken c id peer p) = by_cond (Taken c p) peer _ _ (λ _. raised_taken c p (booked c p.charge p.shut p.credit) id a bt) (λ _. bt) in
      taken_kept i p (taken c id peer p) h tt' fit ev on

  stepped_kept : (i id : ℕ) (peer : Bool) (r : Result (Option Step) Refusal) → i < n → is_ok (admitted c id) ≡ true → c.closed + (rec_at l i).end ≤ c.charged → c.charged ≤ c.grant
      → Of (Fit (rec_at l i)) r → Of (Even (rec_at l i)) r → Of (Once (rec_at l i)) r → Fair (rec_at l i) (room c) r → Kept (stepped c l i id peer r)
  stepped_kept i id peer (Ok (Some p)) h a en fl fit ev on fair = committed_kept i id peer p h a en fl fit ev on fair
  stepped_kept i id peer (Ok None) h a en fl fit ev on fair = not_booked c l n e
  stepped_kept i id peer (Err why) h a en fl fit ev on fair = not_booked c l n e

  entry_kept : (id : ℕ) (peer : Bool) (gone : Result Done Refusal) (step : Stream → Result (Option Step) Refusal) → Kept (after gone l) → Lawful c step → (x : Result (Option Place) Refusal) → x ≡ entered c l n id
      → Kept (by_entry c l id peer gone step x)
  entry_kept id peer gone step u w (Err why) ex = not_booked c l n e
  entry_kept id peer gone step u w (Ok None) ex = u
  entry_kept id peer gone step u w (Ok (Some p)) ex =
      let i : ℕ = p.at in
      let q = at_place c l n id ex refl in
      let h : i < n = place_below c l n id ex refl in
      let is : p.stream ≡ rec_at l i = q.is in
      let ie : p.stream.end ≡ (rec_at l i).end = ap (λ (y : Stream). y.end) is in
      let g : Numbers (rec_at l i) = rec_numbers c (rec_at l i) (ap (λ (y : Stream). good_rec c y) (sym (records_at n l i h)) ∙ good_at c (records n l) i (omega (arith, length_records n l)) (sound_table c l n e).all) in
      let v = w (rec_at l i) g in
      let k : Kept (stepped c l i id peer (step (rec_at l i))) =
      stepped_kept i id peer (step (rec_at l i)) h q.admits (omega (arith, place_end c l n id ex refl)) (place_flow c l n id ex refl) v.0 v.1 v.2 v.3 in
      subst (λ (y : Stream). Kept (stepped c l i id peer (step y))) (sym is) k

  on_kept : (id : ℕ) (peer : Bool) (gone : Result Done Refusal) (step : Stream → Result (Option Step) Refusal) → Kept (after gone l) → Lawful c step → Kept (on_stream c l n id peer gone step)
  unfolding on_stream
  on_kept id peer gone step u w = entry_kept id peer gone step u w (entered c l n id) refl

  r3 : (s : Stream) → Numbers s → s.phase ≡ 3 → s.read ≡ s.end
  r3 s g q = g.p3 (omega arith)

  r4 : (s : Stream) → Numbers s → s.phase ≡ 4 → s.read ≡ s.end
  r4 s g q = g.p3 (omega arith)

  pub data_kept : (id offset len : ℕ) (fin : Bool) → Kept (data_after c l n id offset len fin)
  unfolding data_after
  data_kept id offset len fin =
      by_cond Kept (leb (2 ^ 62) offset || leb (2 ^ 62) len) _ _ (λ _. not_booked c l n e)
      (λ _. on_kept id true (Ok (unchanged_done c)) (λ (s : Stream). took s (offset + len) fin (room c)) (not_booked c l n e)
      (λ s g. (took_fit s g (offset + len) fin (room c), took_even s (offset + len) fin (room c), took_once s g.re (r3 s g) (r4 s g) (offset + len) fin (room c), took_fair s (offset + len) fin (room c))))

  pub reset_kept : (id final : ℕ) → Kept (reset_after c l n id final)
  unfolding reset_after
  reset_kept id final =
      by_cond Kept (leb (2 ^ 62) final) _ _ (λ _. not_booked c l n e)
      (λ _. on_kept id true (Ok (unchanged_done c)) (λ (s : Stream). was_reset s final (room c)) (not_booked c l n e)
      (λ s g. (reset_fit s g final (room c), reset_even s final (room c), reset_once s g.re (r3 s g) (r4 s g) final (room c), reset_fair s final (room c))))

  pub stop_kept : (id : ℕ) → Kept (stop_after c l n id)
  unfolding stop_after
  stop_kept id = on_kept id false (Err Order) halted (not_booked c l n e) (λ s g. (stop_fit s g, stop_even s, stop_once s g.re (r3 s g) (r4 s g), stop_fair s (room c)))

  pub read_kept : (id k : ℕ) → Kept (read_after c l n id k)
  unfolding read_after
  read_kept id k =
      by_cond Kept (leb (2 ^ 62) k) _ _ (λ _. not_booked c l n e)
      (λ _. on_kept id false (Err Order) (λ (s : Stream). read_on s k) (not_booked c l n e) (λ s g. (read_fit s g k, read_even s k, read_once s g.re (r3 s g) (r4 s g) k, read_fair s k (room c))))

  pub seen_kept : (id : ℕ) → Kept (seen_after c l n id)
  unfolding seen_after
  seen_kept id = on_kept id false (Err Order) seen_by (not_booked c l n e) (λ s g. (seen_fit s g, seen_even s, seen_once s g.re (r3 s g) (r4 s g), seen_fair s (room c)))

  pub announce_kept : (id : ℕ) → Kept (announce_after c l n id)
  unfolding announce_after
  announce_kept id = on_kept id false (Err Order) (λ (s : Stream). announced s c.swindow) (not_booked c l n e) (λ s g. (announce_fit s g c.swindow, announce_even s c.swindow, announce_once s c.swindow, announce_fair s c.swindow (room c)))

  pub sent_kept : (id : ℕ) → Kept (sent_after c l n id)
  unfolding sent_after
  sent_kept id = on_kept id false (Err Order) sent_done (not_booked c l n e) (λ s g. (sent_fit s g, sent_even s, sent_once s, sent_fair s (room c)))
