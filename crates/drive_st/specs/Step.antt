-- What an event of streams and bytes does: each is its library's call (docs/EVENTS.md), by the names of the codes. The words of the line are the numbers
-- `ns`, in its order; the books are the connection, the table's words `l` and its count `n`.
-- Assumes nothing.
use Rattle.std.specs.Prelude.{ℕ, cond, List, eqb, leb, Option, Some, None, Result, Ok, Err}
use Rattle.answers.specs.Answers.{OK, ORDER, number}
use Rattle.answers.specs.declared.Refusal.{Refusal}
use Rattle.codes.specs.Codes.{ST_SENT, ST_OPEN, ST_WANT, ST_MAXSTREAMS, ST_CREDIT, ST_ZREJ, ST_NEW}
use Rattle.said.specs.declared.Said.{Said}
use Rattle.said.specs.Said.{said_plain, said_number}
use Rattle.stream_conn.specs.declared.Conn.{Conn}
use Rattle.stream_conn.specs.declared.Done.{Done}
use Rattle.stream_conn.specs.Books.{new_done, credit_done, window_done, max_done}
use Rattle.streams.specs.Calls as calls
use Rattle.stream_places.specs.declared.Changed.{Changed}
use Rattle.stream_places.specs.Places.{Grown, conn_after, count_after, want_after, free_after, open_after, reject_after}
use Rattle.st_new.specs.New.{Start, startable, start_of}
use Rattle.st_call.specs.Call.{at, values_of, call_of}
use Rattle.drive_st.specs.declared.Books.{Books}
use Rattle.drive_st.specs.declared.Gave.{Gave}

-- what an event gave, and the lent words afterwards
pub record Stepped : Type 0 where
  pub out : Gave
  pub words : List ℕ

abbrev pub done : Gave → List ℕ → Stepped
done g l = record { out = g; words = l }

-- ---- what an event gave
-- the books after an event that named the stream `about`, if any
abbrev pub gave : Said → Option ℕ → Conn → ℕ → Gave
gave s about c n = record { said = s; about = about; kept = Some (record { conn = c; count = n }) }

-- an answer that leaves what was kept as it was
abbrev pub stayed : ℕ → Option Books → Gave
stayed a k = record { said = said_plain a; about = None; kept = k }

-- no books before the first st.new
abbrev pub no_books : Option Books
no_books = None

-- before the first event
abbrev pub begun : Gave
begun = stayed OK no_books

-- ---- st.new SIDE BI UNI WINDOW STREAM_WINDOW
abbrev pub plain_of : Result ℕ Refusal → Said
plain_of (Ok v) = said_plain OK
plain_of (Err why) = said_plain (number why)

-- what is granted at the start, or why it cannot be
unfoldable pub granted_by : Start → Stepped
granted_by s = done (gave (plain_of s.out.granted) None s.out.conn s.out.count) s.words

-- the connection on which it starts, or why there is none
abbrev pub fresh_of : Result Conn Refusal → List ℕ → Option Books → ℕ → ℕ → Stepped
fresh_of (Ok c) l k bi uni = granted_by (start_of c l bi uni)
fresh_of (Err why) l k bi uni = done (stayed (number why) k) l

unfoldable pub new_of : List ℕ → List ℕ → Option Books → Stepped
new_of ns l k = fresh_of (startable (new_done (at ns 0) (at ns 3) (at ns 4)) (at ns 1) (at ns 2)) l k (at ns 1) (at ns 2)

-- ---- the events that name a stream
-- a stream whose halves are both over gives its place back before the line is printed
abbrev pub freed_by : Said → ℕ → Conn → ℕ → Grown → Stepped
freed_by s id c n g = done (gave s (Some id) (conn_after c g.out) (count_after n g.out)) g.words

-- the call's answer on the connection c, and its words; a refusal leaves the books as they were
unfoldable pub settled_of : ℕ → Conn → Result Done Refusal → List ℕ → ℕ → ℕ → Stepped
settled_of code c (Err why) l n id = done (gave (values_of code (Err why)) (Some id) c n) l
settled_of code c (Ok d) l n id =
    cond d.free (freed_by (values_of code (Ok d)) id d.conn n (free_after d.conn l n id)) (done (gave (values_of code (Ok d)) (Some id) d.conn n) l)

unfoldable pub one_of : ℕ → List ℕ → Conn → List ℕ → ℕ → Stepped
one_of code ns c l n = settled_of code c (call_of code ns c l n).done (call_of code ns c l n).words n (at ns 0)

-- ---- the events of the connection
-- a call that moved places shows its value, 0 where it was refused; then the books are as they were
abbrev pub changed_gave : Conn → ℕ → Result Changed Refusal → Option ℕ → Gave
changed_gave c n (Ok x) about = gave (said_number OK x.value) about x.conn x.count
changed_gave c n (Err why) about = gave (said_number (number why) 0) about c n

-- st.open names the stream that it opened
abbrev pub id_of : Result Changed Refusal → Option ℕ
id_of (Ok x) = Some x.value
id_of (Err why) = None

unfoldable pub opened_by : Conn → ℕ → Grown → Stepped
opened_by c n g = done (changed_gave c n g.out (id_of g.out)) g.words

-- st.want and st.zrej show how many streams came, and how many went
unfoldable pub changed_by : Conn → ℕ → Grown → Stepped
changed_by c n g = done (changed_gave c n g.out None) g.words

-- the others are calls of stream_conn, and leave the table alone; the last is st.window
unfoldable pub flow_of : ℕ → Conn → ℕ → ℕ → Result Done Refusal
flow_of code c a b = cond (eqb code ST_MAXSTREAMS) (max_done c a b) (cond (eqb code ST_CREDIT) (credit_done c a) (window_done c a))

unfoldable pub flowed_by : ℕ → Conn → Result Done Refusal → ℕ → Gave
flowed_by code c r n = gave (values_of code r) None (calls.conn_after c r) n

unfoldable pub whole_of : ℕ → List ℕ → Conn → List ℕ → ℕ → Stepped
whole_of code ns c l n =
    cond (eqb code ST_OPEN) (opened_by c n (open_after c l n (at ns 0)))
    (cond (eqb code ST_WANT) (changed_by c n (want_after c l n (at ns 0) (at ns 1)))
    (cond (eqb code ST_ZREJ) (changed_by c n (reject_after c l n))
    (done (flowed_by code c (flow_of code c (at ns 0) (at ns 1)) n) l)))

-- ---- an event: st.new, then ORDER while there are no books, then the others
abbrev pub on_books : ℕ → List ℕ → List ℕ → Option Books → Stepped
on_books code ns l None = done (stayed ORDER None) l
on_books code ns l (Some b) = cond (leb code ST_SENT) (one_of code ns b.conn l b.count) (whole_of code ns b.conn l b.count)

unfoldable pub step_of : ℕ → List ℕ → List ℕ → Option Books → Stepped
step_of code ns l k = cond (eqb code ST_NEW) (new_of ns l k) (on_books code ns l k)
