-- What an event of the connection ids, the MTU search or the books of the streams does to what a connection keeps of them (docs/EVENTS.md): it is its
-- module's step on its part. The words of the line are the numbers `ns`, its bytes `bs`, of which the first word's end at `a` and all at `n`; `m` is the
-- lent memory. Assumes nothing.
use Rattle.std.specs.Prelude.{ℕ, cond, List, eqb, Option}
use Rattle.drive_cq.specs.declared.Gave as cq_declared
use Rattle.drive_cq.specs.Step as cq
use Rattle.drive_mt.specs.declared.Gave as mt_declared
use Rattle.drive_mt.specs.Step as mt
use Rattle.drive_st.specs.declared.Books as st_books
use Rattle.drive_st.specs.declared.Gave as st_declared
use Rattle.drive_st.specs.Step as st
use Rattle.ledger_lists.specs.Memory.{TABLE, MEMORY, part, put_part}
use Rattle.ledger_peers.specs.declared.Peers.{Peers}

-- each module's start
abbrev pub begun : Peers
begun = record { cids = cq.begin_of; mtud = mt.begin_of; streams = st.begun }

-- the same with another part
abbrev pub with_cids : Peers → cq_declared.Gave → Peers
with_cids s g = record { cids = g; mtud = s.mtud; streams = s.streams }

abbrev pub with_mtud : Peers → mt_declared.Gave → Peers
with_mtud s g = record { cids = s.cids; mtud = g; streams = s.streams }

abbrev pub with_streams : Peers → st_declared.Gave → Peers
with_streams s g = record { cids = s.cids; mtud = s.mtud; streams = g }

-- the books of the streams in their part of the memory
abbrev pub books_in : List ℕ → st.Stepped → st.Stepped
books_in m d = st.done d.out (put_part TABLE MEMORY m d.words)

unfoldable pub books_of : ℕ → List ℕ → Option st_books.Books → List ℕ → st.Stepped
books_of code ns k m = books_in m (st.step_of code ns (part TABLE MEMORY m) k)

-- what an event leaves: what is kept, and the memory
pub record Peered : Type 0 where
  pub out : Peers
  pub memory : List ℕ

abbrev pub peered : Peers → List ℕ → Peered
peered s m = record { out = s; memory = m }

abbrev pub streams_at : Peers → st.Stepped → Peered
streams_at s d = peered (with_streams s d.out) d.words

-- an event of the module k: 8 the connection ids, 9 the MTU search, any other the books of the streams
unfoldable pub step_of : ℕ → ℕ → ℕ → ℕ → List ℕ → List ℕ → Peers → List ℕ → Peered
step_of k code a n ns bs s m =
    cond (eqb k 8) (peered (with_cids s (cq.step_of code ns bs a n s.cids.kept)) m)
    (cond (eqb k 9) (peered (with_mtud s (mt.step_of code ns s.mtud.kept)) m)
    (streams_at s (books_of code ns s.streams.kept m)))
