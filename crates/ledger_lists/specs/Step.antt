-- What an event of the duplicate window, the range set or the recorder does to what a connection keeps of them (docs/EVENTS.md): it is its module's step on
-- its part. The words of the line are the numbers `ns`, `n` of them; `m` is the lent memory, `l` the lent list. Assumes nothing.
use Rattle.std.specs.Prelude.{ℕ, cond, List, eqb, get_or}
use Rattle.drive_sets.specs.declared.Did.{Did}
use Rattle.drive_sets.specs.declared.Noted.{Noted}
use Rattle.drive_sets.specs.Sets as sets
use Rattle.drive_rs.specs.declared.Ranges.{Ranges}
use Rattle.drive_rs.specs.Step as rs
use Rattle.ledger_lists.specs.declared.Lists.{Lists}
use Rattle.ledger_lists.specs.Memory.{ACKS, TABLE, part, put_part}

-- each module's start
abbrev pub begun : Lists
begun = record { window = sets.began; ranges = rs.begun; acks = sets.none }

-- the same with another part
abbrev pub with_window : Lists → Noted → Lists
with_window s w = record { window = w; ranges = s.ranges; acks = s.acks }

abbrev pub with_ranges : Lists → Ranges → Lists
with_ranges s r = record { window = s.window; ranges = r; acks = s.acks }

abbrev pub with_acks : Lists → Did → Lists
with_acks s d = record { window = s.window; ranges = s.ranges; acks = d }

-- the recorder, of n ranges before, in its part of the memory
abbrev pub acks_in : List ℕ → sets.Done → sets.Done
acks_in m d = sets.done d.out (put_part ACKS TABLE m d.mem)

unfoldable pub acks_of : ℕ → ℕ → ℕ → List ℕ → sets.Done
acks_of code a n m = acks_in m (sets.record_of code a (part ACKS TABLE m) n)

-- what an event leaves: what is kept, the memory and the list
pub record Listed : Type 0 where
  pub out : Lists
  pub memory : List ℕ
  pub list : List ℕ

abbrev pub listed : Lists → List ℕ → List ℕ → Listed
listed s m l = record { out = s; memory = m; list = l }

abbrev pub ranges_in : Lists → rs.Both → Listed
ranges_in s d = listed (with_ranges s d.out) d.memory d.list

abbrev pub acks_at : Lists → List ℕ → sets.Done → Listed
acks_at s l d = listed (with_acks s d.out) d.mem l

-- an event of the module k: 4 the duplicate window, 5 the range set, any other the recorder
unfoldable pub step_of : ℕ → ℕ → ℕ → List ℕ → Lists → List ℕ → List ℕ → Listed
step_of k code n ns s m l =
    cond (eqb k 4) (listed (with_window s (sets.note_of code (get_or ns 0 0) s.window.dedup)) m l)
    (cond (eqb k 5) (ranges_in s (rs.step_of code n ns s.ranges m l))
    (acks_at s l (acks_of code (get_or ns 0 0) s.acks.count m)))
