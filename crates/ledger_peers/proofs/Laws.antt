-- One law for each return: what the calls before it promise is what the definition says. Assumes nothing.
use mathlib.Core.Path.{◌≡◌}
use mathlib.Core.List.{List}
use Prim.Native.Nat.{ℕ}
use Rattle.drive_cq.specs.declared.Gave as cq_declared
use Rattle.drive_cq.specs.Step as cq
use Rattle.drive_mt.specs.declared.Gave as mt_declared
use Rattle.drive_mt.specs.Step as mt
use Rattle.std.specs.Prelude.{Option}
use Rattle.drive_st.specs.declared.Books as st_books
use Rattle.drive_st.specs.declared.Gave as st_declared
use Rattle.drive_st.specs.Step as st
use Rattle.ledger_lists.specs.Memory.{TABLE, MEMORY, part, put_part}
use Rattle.ledger_peers.specs.Step.{begun, books_of}

-- ---- the start

pub begins : {g : cq_declared.Gave} {h : mt_declared.Gave} {k : st_declared.Gave} → g ≡ cq.begin_of → h ≡ mt.begin_of → k ≡ st.begun
    → record { cids = g; mtud = h; streams = k } ≡ begun
begins a b c = rw (a, b, c)

-- ---- the table's part of the memory

pub books_in_law : (code : ℕ) (ns : List ℕ) (k : Option st_books.Books) (m : List ℕ) {g : st_declared.Gave} {m' : List ℕ}
    → st.done g m' ≡ st.step_of code ns (part TABLE MEMORY m) k → st.done g (put_part TABLE MEMORY m m') ≡ books_of code ns k m
unfolding books_of
books_in_law code ns k m e = rw (← e)

pub ruleset laws = (begins, books_in_law)
