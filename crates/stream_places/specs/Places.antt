-- The calls by which places come and go: the grant of more of the peer's streams, one of ours opened, a place given back, 0-RTT rejected
-- (01, Streams and bytes; RFC 9000 sections 2.1 and 4.6; streams/state.rs).
--
-- A desired number is granted in full or not at all, and each stream that is freed is replaced at once, so that never fewer are allocated than desired.
-- A refusal leaves the words as they were, and the connection and the count are the caller's still.
-- Assumes nothing.
use Rattle.std.specs.Prelude.{ℕ, zero, suc, ◌+◌, ◌*◌, ◌-◌, ◌^◌, cond, ◌&&◌, ◌||◌, List, eqb, ltb, leb, length, Option, Some, None, Result, Ok, Err}
use Rattle.answers.specs.declared.Refusal.{Refusal}
use Rattle.answers.specs.declared.Refusal.TheVariants.{Range, Full, Order, Limit}
use Rattle.stream_record.specs.Record.{fresh}
use Rattle.stream_conn.specs.declared.Counts.{Counts}
use Rattle.stream_conn.specs.declared.Conn.{Conn}
use Rattle.stream_conn.specs.declared.Release.{Release}
use Rattle.stream_conn.specs.Books.{counts_of, with_dir, released}
use Rattle.stream_table.specs.declared.Place.{Place}
use Rattle.stream_table.specs.declared.Stripped.{Stripped}
use Rattle.stream_table.specs.Table.{sound_b, entered, has_place, inserted, removed, Left, stripped}
use Rattle.stream_places.specs.declared.Changed.{Changed}

-- what a call hands back, and the lent words afterwards
pub record Grown : Type 0 where
  pub out : Result Changed Refusal
  pub words : List ℕ

abbrev pub grown : Result Changed Refusal → List ℕ → Grown
grown r l = record { out = r; words = l }

abbrev pub changed : ℕ → ℕ → Conn → Changed
changed v n c = record { value = v; count = n; conn = c }

-- the connection and the count after a call: as they were where it was refused
abbrev pub conn_after : Conn → Result Changed Refusal → Conn
conn_after c (Ok x) = x.conn
conn_after c (Err why) = c

abbrev pub count_after : ℕ → Result Changed Refusal → ℕ
count_after n (Ok x) = x.count
count_after n (Err why) = n

-- it went through
abbrev pub moved : ℕ → ℕ → Conn → List ℕ → Grown
moved v n c l = grown (Ok (changed v n c)) l

abbrev pub refused : List ℕ → Refusal → Grown
refused l why = grown (Err why) l

-- ---- a place is given back; the value says whether a stream was granted for it
abbrev pub given_back : ℕ → List ℕ → ℕ → ℕ → Conn → Option ℕ → Grown
given_back w l n i d (Some id) = moved 1 n d (inserted (removed l n i) (n - 1) (fresh w id))
given_back w l n i d None = moved 0 (n - 1) d (removed l n i)

abbrev pub freed : Conn → List ℕ → ℕ → ℕ → Result Release Refusal → Grown
freed c l n i (Ok r) = given_back c.swindow l n i r.conn r.granted
freed c l n i (Err why) = refused l why

-- ORDER while one of its halves is open, and where it has no place
abbrev pub free_by : Conn → List ℕ → ℕ → ℕ → Result (Option Place) Refusal → Grown
free_by c l n id (Err why) = refused l why
free_by c l n id (Ok None) = refused l Order
free_by c l n id (Ok (Some p)) = cond (eqb p.stream.phase 0 && eqb p.stream.sending 0) (freed c l n p.at (released c id)) (refused l Order)

unfoldable pub free_after : Conn → List ℕ → ℕ → ℕ → Grown
free_after c l n id = free_by c l n id (entered c l n id)

-- ---- the grant: new = desired − allocated, never below 0, and both allocated and maximum rise by it
-- the words with k fresh records more, of ids id, id + 4, ..
abbrev pub grown_by : ℕ → List ℕ → ℕ → ℕ → ℕ → List ℕ
grown_by w l n id zero = l
grown_by w l n id (suc k) = grown_by w (inserted l n (fresh w id)) (n + 1) (id + 4) k

abbrev pub granted : Counts → ℕ → ℕ → Counts
granted k desired new = record { next = k.next; max = k.max; rmax = k.rmax + new; ralloc = k.ralloc + new; rwant = desired; rnext = k.rnext }

-- the lowest id of the peer's in a direction that is not granted yet
abbrev pub first_id : Conn → ℕ → Counts → ℕ
first_id c dir k = 4 * k.rmax + 2 * dir + (1 - c.side)

unfoldable pub grant_after : Conn → List ℕ → ℕ → ℕ → ℕ → Counts → ℕ → Grown
grant_after c l n dir desired k new =
    moved new (n + new) (with_dir c dir (granted k desired new)) (grown_by c.swindow l n (first_id c dir k) new)

-- a maximum past 2^60 is RANGE, more places than the table has FULL
unfoldable pub wanted : Conn → List ℕ → ℕ → ℕ → ℕ → Counts → ℕ → Grown
wanted c l n dir desired k new =
    cond (ltb (2 ^ 60 - k.rmax) new) (refused l Range)
    (cond (ltb 256 (n + new) || ltb (length l) (7 * (n + new))) (refused l Full)
    (grant_after c l n dir desired k new))

unfoldable pub want_after : Conn → List ℕ → ℕ → ℕ → ℕ → Grown
want_after c l n dir desired =
    cond (ltb 1 dir || ltb (2 ^ 60) desired) (refused l Range)
    (cond (sound_b c l n) (wanted c l n dir desired (counts_of c dir) (desired - (counts_of c dir).ralloc)) (refused l Range))

-- ---- a stream of ours is opened; one that goes both ways has a receiving half, and takes a place
abbrev pub opened : Counts → Counts
opened k = record { next = k.next + 1; max = k.max; rmax = k.rmax; ralloc = k.ralloc; rwant = k.rwant; rnext = k.rnext }

abbrev pub next_id : Conn → ℕ → Counts → ℕ
next_id c dir k = 4 * k.next + 2 * dir + c.side

unfoldable pub open_in : Conn → List ℕ → ℕ → ℕ → Counts → Grown
open_in c l n dir k =
    cond (leb k.max k.next) (refused l Limit)
    (cond (eqb dir 1) (moved (next_id c dir k) n (with_dir c dir (opened k)) l)
    (cond (has_place l n)
    (moved (next_id c dir k) (n + 1) (with_dir c dir (opened k)) (inserted l n (fresh c.swindow (next_id c dir k))))
    (refused l Full)))

unfoldable pub open_after : Conn → List ℕ → ℕ → ℕ → Grown
open_after c l n dir = cond (ltb 1 dir) (refused l Range) (cond (sound_b c l n) (open_in c l n dir (counts_of c dir)) (refused l Range))

-- ---- 0-RTT is rejected: our streams go, their ends stay charged, and nothing of them is credited; the value is how many went
abbrev pub unopened : Counts → Counts
unopened k = record { next = 0; max = k.max; rmax = k.rmax; ralloc = k.ralloc; rwant = k.rwant; rnext = k.rnext }

abbrev pub rejected_conn : Conn → ℕ → Conn
rejected_conn c total =
    record { side = c.side; bi = unopened c.bi; uni = unopened c.uni; charged = c.charged; closed = c.closed + total; grant = c.grant; window = c.window; debt = c.debt; swindow = c.swindow }

abbrev pub rejected_by : Conn → ℕ → Left Stripped → Grown
rejected_by c n x = moved (n - x.out.count) x.out.count (rejected_conn c x.out.total) x.words

unfoldable pub reject_after : Conn → List ℕ → ℕ → Grown
reject_after c l n = cond (sound_b c l n) (rejected_by c n (stripped c.side l n)) (refused l Range)
