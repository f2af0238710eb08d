-- One stream of the receiving side: its record, and what each event does to it (01, Streams and bytes; RFC 9000 sections 3.2, 4.1, 4.5; recv.rs).
--
-- `end` is the highest end charged and `read` the bytes credited, so that the charge of an event is the rise of `end` and its credit the rise of
-- `read`. A known final size is `end` itself: a FIN must end there, and the phase says that it is known. A reset or a stop sets `read` to `end`, so
-- that a byte is credited once whatever comes after. A step is what an event comes to; an event that changes nothing is no step, and one that is refused an error.
-- Assumes nothing.
use Rattle.std.specs.Prelude.{ℕ, ◌+◌, ◌-◌, ◌/◌, ◌%◌, ◌^◌, min, max, Bool, cond, ◌&&◌, ◌||◌, eqb, ltb, leb, Option, Some, None, Result, Ok, Err}
use Rattle.answers.specs.declared.Refusal.{Refusal}
use Rattle.answers.specs.declared.Refusal.TheVariants.{Order, Flow, Final}
use Rattle.stream_record.specs.declared.Stream.{Stream}
use Rattle.stream_record.specs.declared.Step.{Step}

-- ---- the phases of the receiving half (RFC 9000 section 3.2, and our own stop)
-- over; nothing more is counted for it
abbrev pub CLOSED : ℕ
CLOSED = 0

-- the final size is not known
abbrev pub OPEN : ℕ
OPEN = 1

-- the final size is known: it is `end`
abbrev pub SIZED : ℕ
SIZED = 2

-- reset by the peer; the application hasn't learnt it yet
abbrev pub RESET : ℕ
RESET = 3

-- stopped by us, the final size not known yet
abbrev pub STOPPED : ℕ
STOPPED = 4

-- the largest number that MAX_STREAM_DATA can carry
abbrev pub MOST : ℕ
MOST = 4611686018427387903

-- ---- records
-- no stream
abbrev pub none : Stream
none = record { id = 0; end = 0; read = 0; limit = 0; phase = CLOSED; sending = 0; class = 0 }

-- a stream that nothing was sent on: a two-way stream has a sending half of ours too
abbrev pub fresh : ℕ → ℕ → Stream
fresh limit id = record { id = id; end = 0; read = 0; limit = limit; phase = OPEN; sending = 1 - id / 2 % 2; class = 0 }

-- the same stream with other numbers
abbrev pub with_rec : Stream → ℕ → ℕ → ℕ → ℕ → Stream
with_rec s e r m p = record { id = s.id; end = e; read = r; limit = m; phase = p; sending = s.sending; class = s.class }

-- ---- steps
-- the record is now this one
abbrev pub moved : Stream → ℕ → ℕ → ℕ → Step
moved s v charge credit = record { value = v; charge = charge; credit = credit; shut = 0; stream = s }

-- the receiving half is over at e, which goes to the closed total; the record keeps its id, its sending half and its class
abbrev pub closing : Stream → ℕ → ℕ → ℕ → ℕ → Step
closing s v charge credit e = record { value = v; charge = charge; credit = credit; shut = e; stream = with_rec s 0 0 0 CLOSED }

-- what is said of the step that an event comes to, and `z` where it comes to none, refused or not
abbrev pub on_step : {A : Type 0} → A → (Step → A) → Result (Option Step) Refusal → A
on_step z f (Ok (Some p)) = f p
on_step z f (Ok None) = z
on_step z f (Err why) = z

-- ---- the peer's events
-- data up to e, not below the end so far, is taken: a stopped stream is credited at once, and is over with its FIN
unfoldable pub kept : Stream → ℕ → Bool → Step
kept s e fin =
    cond (eqb s.phase STOPPED)
    (cond fin (closing s 0 (e - s.end) (e - s.end) e) (moved (with_rec s e e s.limit STOPPED) 0 (e - s.end) (e - s.end)))
    (cond fin (moved (with_rec s e s.read s.limit SIZED) 0 (e - s.end) 0) (moved (with_rec s e s.read s.limit s.phase) 0 (e - s.end) 0))

-- data that end at `to`, where the connection has room for that many bytes more; 01's order of checks for data, from "closed or already reset" on
unfoldable pub took : Stream → ℕ → Bool → ℕ → Result (Option Step) Refusal
took s to fin room =
    cond (eqb s.phase CLOSED || eqb s.phase RESET) (Ok None)
    (cond (leb (2 ^ 62) to) (Err Flow)
    (cond (eqb s.phase SIZED && ltb s.end to) (Err Final)
    (cond (fin && ltb to s.end) (Err Final)
    (cond (ltb s.limit to) (Err Flow)
    (cond (ltb room (to - s.end)) (Err Flow)
    (Ok (Some (kept s (max s.end to) fin))))))))

-- a reset that nothing speaks against: the rest of the stream is charged, and what was not read is credited
unfoldable pub cut : Stream → ℕ → Option Step
cut s final =
    cond (eqb s.phase RESET) None
    (cond (eqb s.phase STOPPED) (Some (closing s 0 (final - s.end) (final - s.read) final))
    (Some (moved (with_rec s final final s.limit RESET) 0 (final - s.end) (final - s.read))))

-- a reset with that final size; on a stream that is reset already it is checked through to the end and changes nothing
unfoldable pub was_reset : Stream → ℕ → ℕ → Result (Option Step) Refusal
was_reset s final room =
    cond (eqb s.phase CLOSED) (Ok None)
    (cond (ltb final s.end || ((eqb s.phase SIZED || eqb s.phase RESET) && ltb s.end final)) (Err Final)
    (cond (ltb s.limit final) (Err Flow)
    (cond (ltb room (final - s.end)) (Err Flow)
    (Ok (cut s final)))))

-- ---- the application's events: ORDER on a stream that is over or that it stopped itself
-- we stop the stream; the value says whether STOP_SENDING is due
unfoldable pub halted : Stream → Result (Option Step) Refusal
halted s =
    cond (eqb s.phase CLOSED || eqb s.phase STOPPED) (Err Order)
    (cond (eqb s.phase OPEN) (Ok (Some (moved (with_rec s s.end s.end s.limit STOPPED) 1 0 (s.end - s.read))))
    (cond (eqb s.phase SIZED) (Ok (Some (closing s 1 0 (s.end - s.read) s.end))) (Ok (Some (closing s 0 0 (s.end - s.read) s.end)))))

-- the application has read n bytes more
unfoldable pub read_on : Stream → ℕ → Result (Option Step) Refusal
read_on s n =
    cond (eqb s.phase CLOSED || eqb s.phase STOPPED) (Err Order)
    (cond (ltb (s.end - s.read) n) (Err Order)
    (Ok (Some (moved (with_rec s s.end (s.read + n) s.limit s.phase) 0 0 n))))

-- the application learns the end: 0 not yet, 1 finished, 2 reset
unfoldable pub seen_by : Stream → Result (Option Step) Refusal
seen_by s =
    cond (eqb s.phase CLOSED || eqb s.phase STOPPED) (Err Order)
    (cond (eqb s.phase RESET) (Ok (Some (closing s 2 0 0 s.end)))
    (cond (eqb s.phase SIZED && eqb s.read s.end) (Ok (Some (closing s 1 0 0 s.end))) (Ok None)))

-- ---- our own events
-- the limit that MAX_STREAM_DATA announces for a window w: it never falls, and never passes what a frame can carry
abbrev pub new_limit : Stream → ℕ → ℕ
new_limit s w = max s.limit (min (s.read + w) MOST)

unfoldable pub announced : Stream → ℕ → Result (Option Step) Refusal
announced s w = cond (eqb s.phase OPEN) (Ok (Some (moved (with_rec s s.end s.read (new_limit s w) OPEN) (new_limit s w) 0 0))) (Err Order)

-- our sending half is done
unfoldable pub sent_done : Stream → Result (Option Step) Refusal
sent_done s =
    cond (eqb s.sending 1)
    (Ok (Some (moved (record { id = s.id; end = s.end; read = s.read; limit = s.limit; phase = s.phase; sending = 0; class = s.class }) 0 0 0)))
    (Err Order)
