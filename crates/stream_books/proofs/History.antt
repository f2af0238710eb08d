-- After any sequence of calls from a fresh start the books hold. A history is made of what the calls' own contracts allow (`Reads.Post`), so it is about
-- the functions as they stand in the sources: each call keeps good form and books what it hands back, and the rest is induction.
-- Assumes nothing.
use mathlib.Core.Path.{◌≡◌, refl, ap, sym, ◌∙◌, subst}
use mathlib.Core.Bool.{Bool, true, ◌||◌}
use mathlib.Core.Logic.{◌⊎◌, inl, inr, ⊎_elim}
use mathlib.Core.List.{List, [], ◌∷◌}
use Prim.Native.Nat.{ℕ, zero, suc, ◌+◌, ◌-◌, ◌^◌, ◌≤◌, ◌<◌, min}
use native.Mathlib.Omega.{arith}
use lib.ListN.{length}
use lib.Dec.{ltb, leb}
use borrow.Author.Tests.{leb-false}
use contract.Lifetimes.{Lfts}
use denote.Ref.{MutBor, at_last}
use Rattle.std.specs.Prelude.{Result, Ok}
use Rattle.answers.specs.declared.Refusal.{Refusal}
use Rattle.stream_record.specs.declared.Stream.{Stream}
use Rattle.stream_conn.specs.declared.Conn.{Conn}
use Rattle.stream_conn.specs.declared.Done.{Done}
use Rattle.stream_conn.specs.Books.{fresh_conn, unchanged_done, new_done, credit_done, window_done, max_done}
use Rattle.stream_table.specs.Table.{sound_b, records, rec_at, sum_ends, good_rec}
use Rattle.stream_table.proofs.Tables.{by_cond, records_at, length_records}
use Rattle.stream_table.proofs.Entries.{sound_sum, sound_flow}
use Rattle.streams.specs.Calls.{After, conn_after, data_after, reset_after, stop_after, read_after, seen_after, announce_after, sent_after}
use Rattle.stream_places.specs.declared.Changed.{Changed}
use Rattle.stream_places.specs.Places as places
use Rattle.stream_places.specs.Places.{Grown, count_after, free_after, want_after, open_after, reject_after}
use Rattle.stream_form.specs.Form.{sum_of, end_of, read_of, unread, charge_of, credit_of, Booked}
use Rattle.stream_form.proofs.Facts.{or_left, or_right, rec_numbers}
use Rattle.stream_form.proofs.Lists.{good_at, read_all}
use Rattle.stream_form.proofs.Tabled.{sound_form, sound_table}
use Rattle.stream_form.proofs.Calls.{data_kept, reset_kept, stop_kept, read_kept, seen_kept, announce_kept, sent_kept}
use Rattle.stream_form.proofs.Conns.{Windowed, credit_kept, window_kept, max_kept, new_sound}
use Rattle.stream_form.proofs.Places.{free_kept, want_kept, open_kept, reject_kept}
use Rattle.stream_books.specs.History.{Totals, nothing, plus, Books}
use Rattle.streams.proofs.data as fn_data
use Rattle.streams.proofs.reset as fn_reset
use Rattle.streams.proofs.stop as fn_stop
use Rattle.streams.proofs.read as fn_read
use Rattle.streams.proofs.seen as fn_seen
use Rattle.streams.proofs.announce as fn_announce
use Rattle.streams.proofs.sent as fn_sent
use Rattle.stream_places.proofs.free as fn_free
use Rattle.stream_places.proofs.want as fn_want
use Rattle.stream_places.proofs.open as fn_open
use Rattle.stream_places.proofs.rejected as fn_rejected
use Rattle.stream_conn.proofs.new as fn_new
use Rattle.stream_conn.proofs.credit as fn_credit
use Rattle.stream_conn.proofs.window as fn_window
use Rattle.stream_conn.proofs.max_streams as fn_max

-- ---- one call: the state before, what it adds to the totals, the state after, which is the state before where the call was refused
pub data Call : Conn → List ℕ → ℕ → Totals → Conn → List ℕ → ℕ → Type 0 where
  on_data : (κs : Lfts 1) (x : MutBor (List ℕ)) (c : Conn) (n : ℕ) (id offset len : ℕ) (fin : Bool) (r : Result Done Refusal) (m : List ℕ) → fn_data.Reads.Post κs (c, (x, (n, (id, (offset, (len, (fin, tt))))))) r (c, (at_last x m, (n, (id, (offset, (len, (fin, tt)))))))
      → Call c x.now n (record { charged = charge_of r; credited = credit_of r; extra = 0; lost = 0; wide = 0; narrow = 0 }) (conn_after c r) m n
  on_reset : (κs : Lfts 1) (x : MutBor (List ℕ)) (c : Conn) (n : ℕ) (id final : ℕ) (r : Result Done Refusal) (m : List ℕ) → fn_reset.Reads.Post κs (c, (x, (n, (id, (final, tt))))) r (c, (at_last x m, (n, (id, (final, tt)))))
      → Call c x.now n (record { charged = charge_of r; credited = credit_of r; extra = 0; lost = 0; wide = 0; narrow = 0 }) (conn_after c r) m n
  on_stop : (κs : Lfts 1) (x : MutBor (List ℕ)) (c : Conn) (n : ℕ) (id : ℕ) (r : Result Done Refusal) (m : List ℕ) → fn_stop.Reads.Post κs (c, (x, (n, (id, tt)))) r (c, (at_last x m, (n, (id, tt))))
      → Call c x.now n (record { charged = charge_of r; credited = credit_of r; extra = 0; lost = 0; wide = 0; narrow = 0 }) (conn_after c r) m n
  on_read : (κs : Lfts 1) (x : MutBor (List ℕ)) (c : Conn) (n : ℕ) (id k : ℕ) (r : Result Done Refusal) (m : List ℕ) → fn_read.Reads.Post κs (c, (x, (n, (id, (k, tt))))) r (c, (at_last x m, (n, (id, (k, tt)))))
      → Call c x.now n (record { charged = charge_of r; credited = credit_of r; extra = 0; lost = 0; wide = 0; narrow = 0 }) (conn_after c r) m n
  on_seen : (κs : Lfts 1) (x : MutBor (List ℕ)) (c : Conn) (n : ℕ) (id : ℕ) (r : Result Done Refusal) (m : List ℕ) → fn_seen.Reads.Post κs (c, (x, (n, (id, tt)))) r (c, (at_last x m, (n, (id, tt))))
      → Call c x.now n (record { charged = charge_of r; credited = credit_of r; extra = 0; lost = 0; wide = 0; narrow = 0 }) (conn_after c r) m n
  on_announce : (κs : Lfts 1) (x : MutBor (List ℕ)) (c : Conn) (n : ℕ) (id : ℕ) (r : Result Done Refusal) (m : List ℕ) → fn_announce.Reads.Post κs (c, (x, (n, (id, tt)))) r (c, (at_last x m, (n, (id, tt))))
      → Call c x.now n (record { charged = charge_of r; credited = credit_of r; extra = 0; lost = 0; wide = 0; narrow = 0 }) (conn_after c r) m n
  on_sent : (κs : Lfts 1) (x : MutBor (List ℕ)) (c : Conn) (n : ℕ) (id : ℕ) (r : Result Done Refusal) (m : List ℕ) → fn_sent.Reads.Post κs (c, (x, (n, (id, tt)))) r (c, (at_last x m, (n, (id, tt))))
      → Call c x.now n (record { charged = charge_of r; credited = credit_of r; extra = 0; lost = 0; wide = 0; narrow = 0 }) (conn_after c r) m n
  on_free : (κs : Lfts 1) (x : MutBor (List ℕ)) (c : Conn) (n : ℕ) (id : ℕ) (r : Result Changed Refusal) (m : List ℕ) → fn_free.Reads.Post κs (c, (x, (n, (id, tt)))) r (c, (at_last x m, (n, (id, tt))))
      → Call c x.now n (record { charged = 0; credited = 0; extra = 0; lost = 0; wide = 0; narrow = 0 }) (places.conn_after c r) m (count_after n r)
  on_want : (κs : Lfts 1) (x : MutBor (List ℕ)) (c : Conn) (n : ℕ) (dir desired : ℕ) (r : Result Changed Refusal) (m : List ℕ) → fn_want.Reads.Post κs (c, (x, (n, (dir, (desired, tt))))) r (c, (at_last x m, (n, (dir, (desired, tt)))))
      → Call c x.now n (record { charged = 0; credited = 0; extra = 0; lost = 0; wide = 0; narrow = 0 }) (places.conn_after c r) m (count_after n r)
  on_open : (κs : Lfts 1) (x : MutBor (List ℕ)) (c : Conn) (n : ℕ) (dir : ℕ) (r : Result Changed Refusal) (m : List ℕ) → fn_open.Reads.Post κs (c, (x, (n, (dir, tt)))) r (c, (at_last x m, (n, (dir, tt))))
      → Call c x.now n (record { charged = 0; credited = 0; extra = 0; lost = 0; wide = 0; narrow = 0 }) (places.conn_after c r) m (count_after n r)
  on_rejected : (κs : Lfts 1) (x : MutBor (List ℕ)) (c : Conn) (n : ℕ) (r : Result Changed Refusal) (m : List ℕ) → fn_rejected.Reads.Post κs (c, (x, (n, tt))) r (c, (at_last x m, (n, tt)))
      → Call c x.now n (record { charged = 0; credited = 0; extra = 0; lost = unread c.side (records n x.now); wide = 0; narrow = 0 }) (places.conn_after c r) m (count_after n r)
  on_credit : (c : Conn) (l : List ℕ) (n k : ℕ) (r : Result Done Refusal) → fn_credit.Reads.Post tt (c, (k, tt)) r (c, (k, tt))
      → Call c l n (record { charged = 0; credited = 0; extra = credit_of r; lost = 0; wide = 0; narrow = 0 }) (conn_after c r) l n
  on_window : (c : Conn) (l : List ℕ) (n w : ℕ) (r : Result Done Refusal) → fn_window.Reads.Post tt (c, (w, tt)) r (c, (w, tt))
      → Call c l n (record { charged = 0; credited = 0; extra = 0; lost = 0; wide = (conn_after c r).window - c.window; narrow = c.window - (conn_after c r).window }) (conn_after c r) l n
  on_max : (c : Conn) (l : List ℕ) (n dir k : ℕ) (r : Result Done Refusal) → fn_max.Reads.Post tt (c, (dir, (k, tt))) r (c, (dir, (k, tt)))
      → Call c l n nothing (conn_after c r) l n

-- ---- any number of them from a fresh connection and an empty table; a refused start makes no connection
pub data Run : ℕ → Totals → Conn → List ℕ → ℕ → Type 0 where
  start : (side w sw : ℕ) (d : Done) (l : List ℕ) → fn_new.Reads.Post tt (side, (w, (sw, tt))) (Ok d) (side, (w, (sw, tt))) → Run d.conn.grant nothing d.conn l 0
  next : {given : ℕ} {s t : Totals} {c d : Conn} {l k : List ℕ} {n m : ℕ} → Run given s c l n → Call c l n t d k m → Run given (plus s t) d k m

-- ---- what a call does to the books, the window's included
record Moved (c : Conn) (l : List ℕ) (n : ℕ) (t : Totals) (d : Conn) (k : List ℕ) (m : ℕ) : Type 0 where
  sound : sound_b d k m ≡ true
  charged : d.charged ≡ c.charged + t.charged
  grant : (x : ℕ) → c.grant ≡ min (c.window + x + c.debt) 4611686018427387903 → d.grant ≡ min (d.window + (x + (t.credited + t.extra)) + d.debt) 4611686018427387903
  rises : c.grant ≤ d.grant
  debt : d.debt ≤ 18446744073709551615
  window : d.window + t.narrow ≡ c.window + t.wide
  reads : d.closed + sum_of read_of (records m k) ≡ c.closed + sum_of read_of (records n l) + t.credited + t.lost

order : (a b : ℕ) → (a ≤ b) ⊎ (b ≤ a)
order zero b = inl (omega arith)
order (suc a) zero = inr (omega arith)
order (suc a) (suc b) = ⊎_elim (λ h. inl (omega arith)) (λ h. inr (omega arith)) (order a b)

-- credit y pays the debt first; what is over raises the grant
pay_grant : (g w x d y : ℕ) → g ≡ min (w + x + d) 4611686018427387903 → min (g + (y - d)) 4611686018427387903 ≡ min (w + (x + y) + (d - y)) 4611686018427387903
pay_grant g w x d y e =
    ⊎_elim
    (λ h. let a : y - d ≡ 0 = omega arith in let b : w + (x + y) + (d - y) ≡ w + x + d = omega arith in omega arith)
    (λ h. let a : d - y ≡ 0 = omega arith in let b : g + (y - d) + d ≡ g + y = omega arith in omega arith)
    (order y d)

wide_case : (g w x d v : ℕ) → g ≡ min (w + x + d) 4611686018427387903 → d ≤ 18446744073709551615 → w ≤ v
    → min (g + (v - w)) 4611686018427387903 ≡ min (v + (x + (0 + 0)) + min (d + (w - v)) 18446744073709551615) 4611686018427387903
wide_case g w x d v e fits h =
    let a : min (d + (w - v)) 18446744073709551615 ≡ d = omega arith in
    let b : g + (v - w) + w ≡ g + v = omega arith in
    omega arith

narrow_case : (g w x d v : ℕ) → g ≡ min (w + x + d) 4611686018427387903 → v ≤ w
    → min (g + (v - w)) 4611686018427387903 ≡ min (v + (x + (0 + 0)) + min (d + (w - v)) 18446744073709551615) 4611686018427387903
narrow_case g w x d v e h =
    let a : v - w ≡ 0 = omega arith in
    let b : v + (w - v) ≡ w = omega arith in
    omega arith

-- a wider window raises the grant, a narrower one makes debt; where the debt is at its top the grant is at its own
window_grant : (g w x d v : ℕ) → d ≤ 18446744073709551615 → g ≡ min (w + x + d) 4611686018427387903
    → min (g + (v - w)) 4611686018427387903 ≡ min (v + (x + (0 + 0)) + min (d + (w - v)) 18446744073709551615) 4611686018427387903
window_grant g w x d v fits e =
    ⊎_elim (wide_case g w x d v e fits) (narrow_case g w x d v e) (order w v)

booked_moved : (c : Conn) (l : List ℕ) (n charge credit extra lost : ℕ) (d : Conn) (k : List ℕ) (m : ℕ) → sound_b c l n ≡ true → c.debt ≤ 18446744073709551615 → Booked c l n charge credit extra lost d k m
    → Moved c l n (record { charged = charge; credited = credit; extra = extra; lost = lost; wide = 0; narrow = 0 }) d k m
booked_moved c l n charge credit extra lost d k m e fits b =
    let mo : c.grant < 2 ^ 62 = (sound_form c l n e).most in
    let bg : d.grant ≡ min (c.grant + (credit + extra - c.debt)) 4611686018427387903 = b.grant in
    let bd : d.debt ≡ c.debt - (credit + extra) = b.debt in
    let bw : d.window ≡ c.window = b.window in
    record {
      sound = b.sound;
      charged = b.charged;
      grant = λ x h.
          bg ∙ pay_grant c.grant c.window x c.debt (credit + extra) h
          ∙ ap (λ (w : ℕ). min (w + (x + (credit + extra)) + (c.debt - (credit + extra))) 4611686018427387903) (sym bw)
          ∙ ap (λ (y : ℕ). min (d.window + (x + (credit + extra)) + y) 4611686018427387903) (sym bd);
      rises = omega arith;
      debt = omega arith;
      window = omega arith;
      reads = b.reads;
    }

window_moved : (c : Conn) (l : List ℕ) (n w v : ℕ) (d : Conn) → sound_b c l n ≡ true → c.debt ≤ 18446744073709551615 → Windowed c l n (d.window - c.window) (c.window - d.window) d
    → Moved c l n (record { charged = 0; credited = 0; extra = 0; lost = 0; wide = d.window - c.window; narrow = c.window - d.window }) d l n
window_moved c l n w v d e fits b =
    let mo : c.grant < 2 ^ 62 = (sound_form c l n e).most in
    let bg : d.grant ≡ min (c.grant + (d.window - c.window)) 4611686018427387903 = b.grant in
    let bd : d.debt ≡ min (c.debt + (c.window - d.window)) 18446744073709551615 = b.debt in
    let bc : d.closed ≡ c.closed = b.closed in
    let bh : d.charged ≡ c.charged = b.charged in
    record {
      sound = b.sound;
      charged = omega arith;
      grant = λ x h.
          bg ∙ window_grant c.grant c.window x c.debt d.window fits h ∙ ap (λ (y : ℕ). min (d.window + (x + (0 + 0)) + y) 4611686018427387903) (sym bd);
      rises = omega arith;
      debt = omega arith;
      window = b.window;
      reads = omega arith;
    }

-- ---- each call
module _ (c : Conn) (l : List ℕ) (n : ℕ) (e : sound_b c l n ≡ true) (fits : c.debt ≤ 18446744073709551615) where
  on_stream_law : (y x : After) → y ≡ x → Booked c l n (charge_of x.done) (credit_of x.done) 0 0 (conn_after c x.done) x.words n
      → Moved c l n (record { charged = charge_of y.done; credited = credit_of y.done; extra = 0; lost = 0; wide = 0; narrow = 0 }) (conn_after c y.done) y.words n
  on_stream_law y x p b =
      subst (λ (z : After). Moved c l n (record { charged = charge_of z.done; credited = credit_of z.done; extra = 0; lost = 0; wide = 0; narrow = 0 }) (conn_after c z.done) z.words n) (sym p)
      (booked_moved c l n (charge_of x.done) (credit_of x.done) 0 0 (conn_after c x.done) x.words n e fits b)

  on_place : (lost : ℕ) (y x : Grown) → y ≡ x → Booked c l n 0 0 0 lost (places.conn_after c x.out) x.words (count_after n x.out)
      → Moved c l n (record { charged = 0; credited = 0; extra = 0; lost = lost; wide = 0; narrow = 0 }) (places.conn_after c y.out) y.words (count_after n y.out)
  on_place lost y x p b =
      subst (λ (z : Grown). Moved c l n (record { charged = 0; credited = 0; extra = 0; lost = lost; wide = 0; narrow = 0 }) (places.conn_after c z.out) z.words (count_after n z.out)) (sym p)
      (booked_moved c l n 0 0 0 lost (places.conn_after c x.out) x.words (count_after n x.out) e fits b)

call_moved : {c d : Conn} {l k : List ℕ} {n m : ℕ} {t : Totals} → sound_b c l n ≡ true → c.debt ≤ 18446744073709551615 → Call c l n t d k m → Moved c l n t d k m
call_moved e fits (on_data κs x c n id offset len fin r m p) = on_stream_law c x.now n e fits (record { done = r; words = m }) (data_after c x.now n id offset len fin) p (data_kept c x.now n e id offset len fin)
call_moved e fits (on_reset κs x c n id final r m p) = on_stream_law c x.now n e fits (record { done = r; words = m }) (reset_after c x.now n id final) p (reset_kept c x.now n e id final)
call_moved e fits (on_stop κs x c n id r m p) = on_stream_law c x.now n e fits (record { done = r; words = m }) (stop_after c x.now n id) p (stop_kept c x.now n e id)
call_moved e fits (on_read κs x c n id k r m p) = on_stream_law c x.now n e fits (record { done = r; words = m }) (read_after c x.now n id k) p (read_kept c x.now n e id k)
call_moved e fits (on_seen κs x c n id r m p) = on_stream_law c x.now n e fits (record { done = r; words = m }) (seen_after c x.now n id) p (seen_kept c x.now n e id)
call_moved e fits (on_announce κs x c n id r m p) = on_stream_law c x.now n e fits (record { done = r; words = m }) (announce_after c x.now n id) p (announce_kept c x.now n e id)
call_moved e fits (on_sent κs x c n id r m p) = on_stream_law c x.now n e fits (record { done = r; words = m }) (sent_after c x.now n id) p (sent_kept c x.now n e id)
call_moved e fits (on_free κs x c n id r m p) = on_place c x.now n e fits 0 (record { out = r; words = m }) (free_after c x.now n id) p (free_kept c x.now n e id)
call_moved e fits (on_want κs x c n dir desired r m p) = on_place c x.now n e fits 0 (record { out = r; words = m }) (want_after c x.now n dir desired) p (want_kept c x.now n e dir desired)
call_moved e fits (on_open κs x c n dir r m p) = on_place c x.now n e fits 0 (record { out = r; words = m }) (open_after c x.now n dir) p (open_kept c x.now n e dir)
call_moved e fits (on_rejected κs x c n r m p) = on_place c x.now n e fits (unread c.side (records n x.now)) (record { out = r; words = m }) (reject_after c x.now n) p (reject_kept c x.now n e)
call_moved e fits (on_credit c l n k r p) =
    subst (λ (z : Result Done Refusal). Moved c l n (record { charged = 0; credited = 0; extra = credit_of z; lost = 0; wide = 0; narrow = 0 }) (conn_after c z) l n) (sym p)
    (booked_moved c l n 0 0 (credit_of (credit_done c k)) 0 (conn_after c (credit_done c k)) l n e fits (credit_kept c l n k e))
call_moved e fits (on_window c l n w r p) =
    subst (λ (z : Result Done Refusal). Moved c l n (record { charged = 0; credited = 0; extra = 0; lost = 0; wide = (conn_after c z).window - c.window; narrow = c.window - (conn_after c z).window }) (conn_after c z) l n) (sym p)
    (window_moved c l n 0 0 (conn_after c (window_done c w)) e fits (window_kept c l n w fits e))
call_moved e fits (on_max c l n dir k r p) =
    subst (λ (z : Result Done Refusal). Moved c l n nothing (conn_after c z) l n) (sym p) (booked_moved c l n 0 0 0 0 (conn_after c (max_done c dir k)) l n e fits (max_kept c l n dir k e))

-- ---- the theorem
ends_of : (ss : List Stream) → sum_of end_of ss ≡ sum_ends ss
ends_of [] = refl
ends_of (s ∷ ss) = omega (arith, ends_of ss)

books_of_law : (given : ℕ) (t : Totals) (c : Conn) (l : List ℕ) (n : ℕ) → sound_b c l n ≡ true → c.charged ≡ t.charged → c.grant ≡ min (c.window + (t.credited + t.extra) + c.debt) 4611686018427387903
    → c.window + t.narrow ≡ given + t.wide → c.debt ≤ 18446744073709551615 → t.credited + t.lost ≡ c.closed + sum_of read_of (records n l) → Books given t c l n
books_of_law given t c l n e ch gr wi de rd =
    let tb = sound_table c l n e in
    let le : sum_of read_of (records n l) ≤ sum_of end_of (records n l) = read_all c (records n l) tb.all in
    let su : c.closed + sum_of end_of (records n l) ≡ c.charged = tb.sum in
    record {
      sound = e;
      charged = ch;
      ends = sound_sum c l n e;
      flow = sound_flow c l n e;
      grant = gr;
      window = wi;
      debt = de;
      reads = rd;
      each = λ i h.
          let lt : i < length (records n l) = omega (arith, length_records n l) in
          let g = rec_numbers c (rec_at l i) (ap (good_rec c) (sym (records_at n l i h)) ∙ good_at c (records n l) i lt tb.all) in
          g.re;
      once = omega arith;
    }

abbrev Fresh : Conn → Type 0
Fresh c =
    (c.charged ≡ 0) × (c.grant ≡ min (c.window + (0 + 0) + c.debt) 4611686018427387903) × (c.window + 0 ≡ c.grant + 0) × (c.debt ≤ 18446744073709551615)
    × ((l : List ℕ) → ◌≡◌ {A = ℕ} (0 + 0) (c.closed + sum_of read_of (records 0 l)))

fresh_facts : (side w sw : ℕ) (d : Done) → new_done side w sw ≡ Ok d → Fresh d.conn
unfolding new_done records
fresh_facts side w sw d =
    by_cond (λ (r : Result Done Refusal). r ≡ Ok d → Fresh d.conn) (ltb 1 side || (leb (2 ^ 62) w || leb (2 ^ 62) sw)) _ _
    (λ _ g. absurd (cc))
    (λ q g.
    let h : w < 2 ^ 62 = leb-false (2 ^ 62) w (or_left (leb (2 ^ 62) w) _ (or_right (ltb 1 side) _ q)) in
    let f : Fresh (fresh_conn side w sw) = (refl, omega arith, omega arith, omega arith, λ l. refl) in
    let z : ◌≡◌ {A = Done} (unchanged_done (fresh_conn side w sw)) d = cc in
    subst (λ (y : Done). Fresh y.conn) z f)

fresh_books : (side w sw : ℕ) (l : List ℕ) (d : Done) → new_done side w sw ≡ Ok d → Books d.conn.grant nothing d.conn l 0
fresh_books side w sw l d e =
    let f = fresh_facts side w sw d e in
    books_of_law d.conn.grant nothing d.conn l 0 (new_sound side w sw l d e) f.0 f.1 f.2 f.3 (f.4 l)

pub books : {given : ℕ} {t : Totals} {c : Conn} {l : List ℕ} {n : ℕ} → Run given t c l n → Books given t c l n
books (start side w sw d l p) = fresh_books side w sw l d (sym p)
books (next {given} {s} {t} {c} {d} {l} {k} {n} {m} run call) =
    let b = books run in
    let v = call_moved b.sound b.debt call in
    let bc : c.charged ≡ s.charged = b.charged in
    let vc : d.charged ≡ c.charged + t.charged = v.charged in
    let bw : c.window + s.narrow ≡ given + s.wide = b.window in
    let vw : d.window + t.narrow ≡ c.window + t.wide = v.window in
    let br : s.credited + s.lost ≡ c.closed + sum_of read_of (records n l) = b.reads in
    let vr : d.closed + sum_of read_of (records m k) ≡ c.closed + sum_of read_of (records n l) + t.credited + t.lost = v.reads in
    let re : s.credited + s.extra + (t.credited + t.extra) ≡ s.credited + t.credited + (s.extra + t.extra) = omega arith in
    books_of_law given (plus s t) d k m v.sound (omega arith) (v.grant (s.credited + s.extra) b.grant ∙ ap (λ (y : ℕ). min (d.window + y + d.debt) 4611686018427387903) re) (omega arith) v.debt (omega arith)

-- the grant never falls, whatever is called
pub rises : {given : ℕ} {s t : Totals} {c d : Conn} {l k : List ℕ} {n m : ℕ} → Run given s c l n → Call c l n t d k m → c.grant ≤ d.grant
rises run call = let b = books run in (call_moved b.sound b.debt call).rises
