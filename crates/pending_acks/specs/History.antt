-- What a history of calls comes to, as a set of numbers. A history is the events since the list was empty, the newest first. A call that is
-- refused is no event; a drop is one of its own, with the numbers that it took (01, Ack recording).
-- Assumes nothing.
use Rattle.std.specs.Prelude.{ℕ, ◌≤◌, ◌<◌, ◌≡◌, ◌⊎◌, List, [], ◌∷◌, Result, Ok, Err, Option, Some, None}
use Rattle.answers.specs.declared.Refusal.{Refusal}
use Rattle.range_edit.specs.declared.Changed.{Changed}
use Rattle.range_set.specs.declared.Span.{Span}
use Rattle.pending_acks.specs.declared.Recorded.{Recorded}

pub data Event : Type 0 where
  -- a number was recorded
  recorded : ℕ → Event
  -- all numbers up to and with this one were removed
  removed : ℕ → Event
  -- the numbers s..e were dropped
  dropped : ℕ → ℕ → Event

-- x was recorded, and neither removed nor dropped since
abbrev pub Holds : ℕ → List Event → Type 0
Holds x [] = ⊥
Holds x (recorded n ∷ h) = Holds x h ⊎ (x ≡ n)
Holds x (removed m ∷ h) = Holds x h × (m < x)
Holds x (dropped s e ∷ h) = Holds x h × ((x < s) ⊎ (e ≤ x))

-- x was recorded at some time
abbrev pub Received : ℕ → List Event → Type 0
Received x [] = ⊥
Received x (recorded n ∷ h) = Received x h ⊎ (x ≡ n)
Received x (removed m ∷ h) = Received x h
Received x (dropped s e ∷ h) = Received x h

-- what a call of `insert_one` with p that gave r adds to the history, and one of `subtract_below` with m: nothing where it was refused
abbrev pub with_drop : Option Span → List Event → List Event
with_drop (Some d) h = dropped d.start d.end ∷ h
with_drop None h = h

abbrev pub after_insert : ℕ → Result Recorded Refusal → List Event → List Event
after_insert p (Ok r) h = with_drop r.dropped (recorded p ∷ h)
after_insert p (Err why) h = h

abbrev pub after_below : ℕ → Result Changed Refusal → List Event → List Event
after_below m (Ok r) h = removed m ∷ h
after_below m (Err why) h = h

-- how many ranges the caller goes on with: a refusal leaves the caller's count
abbrev pub count_of_insert : Result Recorded Refusal → ℕ → ℕ
count_of_insert (Ok r) n = r.count
count_of_insert (Err why) n = n

abbrev pub count_of_below : Result Changed Refusal → ℕ → ℕ
count_of_below (Ok r) n = r.count
count_of_below (Err why) n = n
