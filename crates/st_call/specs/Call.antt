-- The call of an event that names a stream, and the values that an event of a connection shows (docs/EVENTS.md), by the names of the codes. The words of
-- the line are the numbers `ns`, in its order; the books are the connection, the table's words `l` and its count `n`.
-- Assumes nothing.
use Rattle.std.specs.Prelude.{ℕ, cond, List, eqb, ltb, get_or, Result, Ok, Err}
use Rattle.answers.specs.Answers.{OK, number}
use Rattle.answers.specs.declared.Refusal.{Refusal}
use Rattle.answers.specs.declared.Refusal.TheVariants.{Range}
use Rattle.codes.specs.Codes.{ST_DATA, ST_RESET, ST_STOP, ST_READ, ST_SEEN, ST_ANNOUNCE, ST_WINDOW}
use Rattle.said.specs.declared.Said.{Said}
use Rattle.said.specs.Said.{said_plain, said_number, said_two, said_three}
use Rattle.stream_conn.specs.declared.Conn.{Conn}
use Rattle.stream_conn.specs.declared.Done.{Done}
use Rattle.streams.specs.Calls.{After, refused, data_after, reset_after, stop_after, read_after, seen_after, announce_after, sent_after}

-- the number at place i of the line
abbrev pub at : List ℕ → ℕ → ℕ
at ns i = get_or ns i 0

-- ---- the values that an event shows
-- by its code: of an answer, a value, the bytes charged and the bytes credited
unfoldable pub shown_of : ℕ → ℕ → ℕ → ℕ → ℕ → Said
shown_of code answer value charge credit =
    cond (eqb code ST_DATA) (said_two answer charge credit)
    (cond (eqb code ST_RESET) (said_two answer charge credit)
    (cond (eqb code ST_STOP) (said_three answer charge credit value)
    (cond (eqb code ST_READ) (said_number answer credit)
    (cond (eqb code ST_SEEN) (said_number answer value)
    (cond (eqb code ST_ANNOUNCE) (said_number answer value)
    (cond (eqb code ST_WINDOW) (said_number answer value)
    (said_plain answer)))))))

-- an event that is refused shows its refusal, and zeros
unfoldable pub values_of : ℕ → Result Done Refusal → Said
values_of code (Ok d) = shown_of code OK d.value d.charge d.credit
values_of code (Err why) = shown_of code (number why) 0 0 0

-- ---- the events that name a stream
-- st.data ID OFFSET LEN FIN: FIN is 0 or 1
unfoldable pub data_of : List ℕ → Conn → List ℕ → ℕ → After
data_of ns c l n = cond (ltb 1 (at ns 3)) (refused l Range) (data_after c l n (at ns 0) (at ns 1) (at ns 2) (eqb (at ns 3) 1))

-- each is a call of streams; the last is st.sent
unfoldable pub call_of : ℕ → List ℕ → Conn → List ℕ → ℕ → After
call_of code ns c l n =
    cond (eqb code ST_DATA) (data_of ns c l n)
    (cond (eqb code ST_RESET) (reset_after c l n (at ns 0) (at ns 1))
    (cond (eqb code ST_STOP) (stop_after c l n (at ns 0))
    (cond (eqb code ST_READ) (read_after c l n (at ns 0) (at ns 1))
    (cond (eqb code ST_SEEN) (seen_after c l n (at ns 0))
    (cond (eqb code ST_ANNOUNCE) (announce_after c l n (at ns 0))
    (sent_after c l n (at ns 0)))))))
