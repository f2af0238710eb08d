-- The connection's own books: who may send, the counts of streams a direction, bytes charged, granted and owed (01, Streams and bytes;
-- RFC 9000 sections 2.1, 4.1, 4.6; streams/state.rs). Everything here is by value; the table of streams is another crate's.
--
-- `grant` is the largest offset sum that the peer may reach, and stops at the largest number that MAX_DATA can carry. `debt` is what a narrower window
-- still has to swallow before credit raises the grant again.
-- Assumes nothing.
use Rattle.std.specs.Prelude.{ℕ, ◌+◌, ◌*◌, ◌-◌, ◌/◌, ◌%◌, ◌^◌, min, max, Bool, true, false, cond, ◌&&◌, ◌||◌, eqb, ltb, leb, Some, None, Result, Ok, Err}
use Rattle.answers.specs.declared.Refusal.{Refusal}
use Rattle.answers.specs.declared.Refusal.TheVariants.{Range, Limit, State}
use Rattle.stream_conn.specs.declared.Counts.{Counts}
use Rattle.stream_conn.specs.declared.Conn.{Conn}
use Rattle.stream_conn.specs.declared.Done.{Done}
use Rattle.stream_conn.specs.declared.Given.{Given}
use Rattle.stream_conn.specs.declared.Release.{Release}

-- the largest number that MAX_DATA can carry
abbrev pub MOST : ℕ
MOST = 4611686018427387903

-- ---- directions: 0 both ways, 1 one way
abbrev pub counts_of : Conn → ℕ → Counts
counts_of c dir = cond (eqb dir 1) c.uni c.bi

abbrev pub with_bi : Conn → Counts → Conn
with_bi c k = record { side = c.side; bi = k; uni = c.uni; charged = c.charged; closed = c.closed; grant = c.grant; window = c.window; debt = c.debt; swindow = c.swindow }

abbrev pub with_uni : Conn → Counts → Conn
with_uni c k = record { side = c.side; bi = c.bi; uni = k; charged = c.charged; closed = c.closed; grant = c.grant; window = c.window; debt = c.debt; swindow = c.swindow }

abbrev pub with_dir : Conn → ℕ → Counts → Conn
with_dir c dir k = cond (eqb dir 1) (with_uni c k) (with_bi c k)

-- ---- who may send (RFC 9000 section 2.1): ours one way, or ours not opened, STATE; the peer's past the number granted, LIMIT
unfoldable pub admitted : Conn → ℕ → Result (Unit {0}) Refusal
admitted c id =
    cond (eqb (id % 2) c.side)
    (cond (eqb (id / 2 % 2) 1) (Err State) (cond (leb c.bi.next (id / 4)) (Err State) (Ok tt)))
    (cond (leb (counts_of c (id / 2 % 2)).rmax (id / 4)) (Err Limit) (Ok tt))

-- ---- good form
-- counts within 2^60; no stream used that was not granted; no fewer allocated than desired, and none that was not granted
unfoldable pub good_counts : Counts → Bool
good_counts k =
    leb k.next (2 ^ 60) && (leb k.max (2 ^ 60) && (leb k.rnext k.rmax && (leb k.rmax (2 ^ 60)
    && (leb k.rwant k.ralloc && leb k.ralloc k.rmax))))

-- closed ≤ charged ≤ grant < 2^62, the side is one of two, both windows within the limit of offsets, both directions' counts good
unfoldable pub good_conn : Conn → Bool
good_conn c =
    leb c.closed c.charged && (leb c.charged c.grant && (ltb c.grant (2 ^ 62) && (ltb c.side 2
    && (ltb c.window (2 ^ 62) && (ltb c.swindow (2 ^ 62) && (good_counts c.bi && good_counts c.uni))))))

-- ---- what happens to it
-- n bytes are credited: the debt first, and the grant no further than a frame can carry
unfoldable pub paid : Conn → ℕ → Conn
paid c n =
    record { side = c.side; bi = c.bi; uni = c.uni; charged = c.charged; closed = c.closed; grant = min (c.grant + (n - c.debt)) MOST; window = c.window; debt = c.debt - n; swindow = c.swindow }

-- the lowest index never used is at least n
abbrev pub used_to : Counts → ℕ → Counts
used_to k n = record { next = k.next; max = k.max; rmax = k.rmax; ralloc = k.ralloc; rwant = k.rwant; rnext = max k.rnext n }

-- the peer has used the stream id, if it is one of the peer's
unfoldable pub raised : Conn → ℕ → Conn
raised c id = cond (eqb (id % 2) c.side) c (with_dir c (id / 2 % 2) (used_to (counts_of c (id / 2 % 2)) (id / 4 + 1)))

-- the window is set to w: wider raises the grant, narrower makes debt
unfoldable pub windowed : Conn → ℕ → Conn
windowed c w =
    record { side = c.side; bi = c.bi; uni = c.uni; charged = c.charged; closed = c.closed; grant = min (c.grant + (w - c.window)) MOST; window = w; debt = min (c.debt + (c.window - w)) 18446744073709551615; swindow = c.swindow }

-- ---- a stream of the peer is given up
-- the next one is granted in its place if fewer than desired would be left; a maximum past 2^60 is RANGE
unfoldable pub given : Counts → Result Given Refusal
given k =
    cond (ltb k.rwant k.ralloc)
    (Ok (record { again = false; counts = record { next = k.next; max = k.max; rmax = k.rmax; ralloc = k.ralloc - 1; rwant = k.rwant; rnext = k.rnext } }))
    (cond (leb (2 ^ 60) k.rmax) (Err Range)
    (Ok (record { again = true; counts = record { next = k.next; max = k.max; rmax = k.rmax + 1; ralloc = k.ralloc; rwant = k.rwant; rnext = k.rnext } })))

-- the id of the peer's stream with that index, of the same kind as id; 0 past the last index
unfoldable pub alike : ℕ → ℕ → ℕ
alike id index = cond (ltb index (2 ^ 60)) (4 * index + id % 4) 0

-- what the counts that are left come to: the connection with them, and the id of the stream that is granted
abbrev pub released_by : Conn → ℕ → Result Given Refusal → Result Release Refusal
released_by c id (Err why) = Err why
released_by c id (Ok g) =
    Ok (record { granted = cond g.again (Some (alike id (counts_of c (id / 2 % 2)).rmax)) None; conn = with_dir c (id / 2 % 2) g.counts })

-- the connection without the stream id, and the id of the stream that is granted for it
unfoldable pub released : Conn → ℕ → Result Release Refusal
released c id =
    cond (eqb (id % 2) c.side) (Ok (record { granted = None; conn = c })) (released_by c id (given (counts_of c (id / 2 % 2))))

-- ---- the calls without a table
-- all values zero, and the connection
abbrev pub unchanged_done : Conn → Done
unchanged_done c = record { value = 0; charge = 0; credit = 0; free = false; conn = c }

abbrev pub no_counts : Counts
no_counts = record { next = 0; max = 0; rmax = 0; ralloc = 0; rwant = 0; rnext = 0 }

-- no stream yet, and the window granted
abbrev pub fresh_conn : ℕ → ℕ → ℕ → Conn
fresh_conn side w sw = record { side = side; bi = no_counts; uni = no_counts; charged = 0; closed = 0; grant = w; window = w; debt = 0; swindow = sw }

unfoldable pub new_done : ℕ → ℕ → ℕ → Result Done Refusal
new_done side w sw = cond (ltb 1 side || (leb (2 ^ 62) w || leb (2 ^ 62) sw)) (Err Range) (Ok (unchanged_done (fresh_conn side w sw)))

unfoldable pub credit_done : Conn → ℕ → Result Done Refusal
credit_done c n =
    cond (leb (2 ^ 62) n) (Err Range)
    (cond (good_conn c) (Ok (record { value = 0; charge = 0; credit = n; free = false; conn = paid c n })) (Err Range))

-- the value says whether the window is wider than before
unfoldable pub window_done : Conn → ℕ → Result Done Refusal
window_done c w =
    cond (leb (2 ^ 62) w) (Err Range)
    (cond (good_conn c) (Ok (record { value = cond (ltb c.window w) 1 0; charge = 0; credit = 0; free = false; conn = windowed c w })) (Err Range))

-- MAX_STREAMS of the peer: the number never falls (RFC 9000 section 4.6)
abbrev pub allowed : Counts → ℕ → Counts
allowed k n = record { next = k.next; max = max k.max n; rmax = k.rmax; ralloc = k.ralloc; rwant = k.rwant; rnext = k.rnext }

unfoldable pub max_done : Conn → ℕ → ℕ → Result Done Refusal
max_done c dir n =
    cond (ltb 1 dir || ltb (2 ^ 60) n) (Err Range)
    (cond (good_conn c) (Ok (unchanged_done (with_dir c dir (allowed (counts_of c dir) n)))) (Err Range))
