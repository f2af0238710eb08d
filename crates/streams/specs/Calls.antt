-- The calls on one stream: what each hands back, and every lent word afterwards (01, Streams and bytes; STATE, LIMIT, then the stream's own checks).
--
-- Each call begins with the same checks (`entered`), looks at one record, takes its step and books it; `on_stream` says that once for all of them. A
-- refusal leaves the connection and the words as they were; an event that changes nothing hands the connection back as given, with zero values.
-- Assumes nothing.
use Rattle.std.specs.Prelude.{ℕ, ◌+◌, ◌-◌, ◌^◌, ◌≤◌, Bool, true, false, cond, ◌&&◌, ◌||◌, List, eqb, leb, Option, Some, None, Result, Ok, Err}
use Rattle.answers.specs.declared.Refusal.{Refusal}
use Rattle.answers.specs.declared.Refusal.TheVariants.{Range, Order}
use Rattle.stream_record.specs.declared.Stream.{Stream}
use Rattle.stream_record.specs.declared.Step.{Step}
use Rattle.stream_record.specs.Record.{on_step, took, was_reset, halted, read_on, seen_by, announced, sent_done}
use Rattle.stream_conn.specs.declared.Conn.{Conn}
use Rattle.stream_conn.specs.declared.Done.{Done}
use Rattle.stream_conn.specs.Books.{paid, raised, unchanged_done}
use Rattle.stream_table.specs.declared.Place.{Place}
use Rattle.stream_table.specs.Table.{put_rec, entered}

-- what a call hands back, and the lent words afterwards
pub record After : Type 0 where
  pub done : Result Done Refusal
  pub words : List ℕ

abbrev pub after : Result Done Refusal → List ℕ → After
after r l = record { done = r; words = l }

abbrev pub refused : List ℕ → Refusal → After
refused l why = after (Err why) l

abbrev pub unchanged : Conn → List ℕ → After
unchanged c l = after (Ok (unchanged_done c)) l

-- the connection after a call: the caller's own where the call was refused
abbrev pub conn_after : Conn → Result Done Refusal → Conn
conn_after c (Ok d) = d.conn
conn_after c (Err why) = c

-- a step's bytes in the connection's books
unfoldable pub booked : Conn → ℕ → ℕ → ℕ → Conn
booked c charge shut credit =
    paid (record { side = c.side; bi = c.bi; uni = c.uni; charged = c.charged + charge; closed = c.closed + shut; grant = c.grant; window = c.window; debt = c.debt; swindow = c.swindow }) credit

abbrev pub done_of : Step → Conn → Done
done_of p d = record { value = p.value; charge = p.charge; credit = p.credit; free = eqb p.stream.phase 0 && eqb p.stream.sending 0; conn = d }

-- the connection after a step; `peer` says that it was the peer's event, so that the stream counts as used
abbrev pub taken : Conn → ℕ → Bool → Step → Conn
taken c id peer p = cond peer (raised (booked c p.charge p.shut p.credit) id) (booked c p.charge p.shut p.credit)

-- a step at place i goes into the table and the books
unfoldable pub committed : Conn → List ℕ → ℕ → ℕ → Bool → Step → After
committed c l i id peer p = after (Ok (done_of p (taken c id peer p))) (put_rec l i p.stream)

-- what a stream's event comes to
abbrev pub stepped : Conn → List ℕ → ℕ → ℕ → Bool → Result (Option Step) Refusal → After
stepped c l i id peer (Ok (Some p)) = committed c l i id peer p
stepped c l i id peer (Ok None) = unchanged c l
stepped c l i id peer (Err why) = refused l why

-- a call on a stream: `gone` answers for a stream that is closed, `step` is what happens to one that is not
abbrev pub by_entry : Conn → List ℕ → ℕ → Bool → Result Done Refusal → (Stream → Result (Option Step) Refusal) → Result (Option Place) Refusal → After
by_entry c l id peer gone step (Ok (Some p)) = stepped c l p.at id peer (step p.stream)
by_entry c l id peer gone step (Ok None) = after gone l
by_entry c l id peer gone step (Err why) = refused l why

unfoldable pub on_stream : Conn → List ℕ → ℕ → ℕ → Bool → Result Done Refusal → (Stream → Result (Option Step) Refusal) → After
on_stream c l n id peer gone step = by_entry c l id peer gone step (entered c l n id)

-- bytes that the connection may still be charged
abbrev pub room : Conn → ℕ
room c = c.grant - c.charged

-- what `commit` asks of an event: no more is charged than m, and no more is shut than the stream's end and the charge; an event that is no step is fair
abbrev pub Fair : Stream → ℕ → Result (Option Step) Refusal → Type 0
Fair s m r = (on_step 0 (λ (p : Step). p.charge) r ≤ m) × (on_step 0 (λ (p : Step). p.shut) r ≤ s.end + on_step 0 (λ (p : Step). p.charge) r)

-- ---- the peer's events: on a closed stream they are OK, and nothing is charged
unfoldable pub data_after : Conn → List ℕ → ℕ → ℕ → ℕ → ℕ → Bool → After
data_after c l n id offset len fin =
    cond (leb (2 ^ 62) offset || leb (2 ^ 62) len) (refused l Range) (on_stream c l n id true (Ok (unchanged_done c)) (λ (s : Stream). took s (offset + len) fin (room c)))

unfoldable pub reset_after : Conn → List ℕ → ℕ → ℕ → ℕ → After
reset_after c l n id final = cond (leb (2 ^ 62) final) (refused l Range) (on_stream c l n id true (Ok (unchanged_done c)) (λ (s : Stream). was_reset s final (room c)))

-- ---- the application's and our own: ORDER on a closed stream
unfoldable pub stop_after : Conn → List ℕ → ℕ → ℕ → After
stop_after c l n id = on_stream c l n id false (Err Order) halted

unfoldable pub read_after : Conn → List ℕ → ℕ → ℕ → ℕ → After
read_after c l n id k = cond (leb (2 ^ 62) k) (refused l Range) (on_stream c l n id false (Err Order) (λ (s : Stream). read_on s k))

unfoldable pub seen_after : Conn → List ℕ → ℕ → ℕ → After
seen_after c l n id = on_stream c l n id false (Err Order) seen_by

unfoldable pub announce_after : Conn → List ℕ → ℕ → ℕ → After
announce_after c l n id = on_stream c l n id false (Err Order) (λ (s : Stream). announced s c.swindow)

unfoldable pub sent_after : Conn → List ℕ → ℕ → ℕ → After
sent_after c l n id = on_stream c l n id false (Err Order) sent_done

-- ---- a look at one record
abbrev pub look_by : Result (Option Place) Refusal → Result Stream Refusal
look_by (Ok (Some p)) = Ok p.stream
look_by (Ok None) = Err Order
look_by (Err why) = Err why

unfoldable pub look_of : Conn → List ℕ → ℕ → ℕ → Result Stream Refusal
look_of c l n id = look_by (entered c l n id)
