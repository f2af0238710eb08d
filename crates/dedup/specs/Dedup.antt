-- The duplicate window as a set of numbers (01, Duplicate window; spaces.rs, Dedup: the highest number and 128 below it).
-- A number n is held as its mark, n + 129, so that the places of a young window that lie below 0 have marks too. As in spaces.rs they are
-- set like others when the window slides, and no number has such a mark. Assumes nothing.
use Rattle.std.specs.Prelude.{ℕ, ◌+◌, ◌-◌, ◌^◌, max, Bool, true, false, cond, ◌||◌, ◌&&◌, eqb, ltb, leb, Result, Ok, Err}
use Rattle.answers.specs.declared.Refusal.{Refusal}
use Rattle.answers.specs.declared.Refusal.TheVariants.{Range}
use Rattle.dedup.specs.Bits.{bit, pack}
use Rattle.dedup.specs.declared.Dedup.{Dedup}
use Rattle.dedup.specs.declared.Inserted.{Inserted}

-- whether the place p is set, counted down from the number below the highest
unfoldable pub place : ℕ → ℕ → ℕ → Bool
place low high p = cond (ltb p 64) (bit low p) (bit high (p - 64))

-- whether the mark k is recorded: it is the highest's, or its place is set
unfoldable pub recorded : Dedup → ℕ → Bool
recorded w k = eqb k (w.next + 128) || (ltb k (w.next + 128) && place w.low w.high (w.next + 127 - k))

-- the marks recorded once the number n is noted: those before, and its own
abbrev pub with_number : Dedup → ℕ → ℕ → Bool
with_number w n k = recorded w k || eqb k (n + 129)

-- whether the number n is too old for a window that stands at next: more than 128 below the highest, next - 1
abbrev pub too_old : ℕ → ℕ → Bool
too_old next n = leb (n + 130) next

-- whether the number n counts as seen: too old, or recorded
unfoldable pub seen : Dedup → ℕ → Bool
seen w n = too_old w.next n || recorded w (n + 129)

-- the window that stands at next and records the marks of which f says so
unfoldable pub holding : (ℕ → Bool) → ℕ → Dedup
holding f next = record { low = pack 64 (λ p. f (next + 127 - p)); high = pack 64 (λ p. f (next + 63 - p)); next = next }

-- a window is well formed: all its numbers are packet numbers, below 2 ^ 62 (01, Limits)
abbrev pub well_formed : Dedup → Bool
well_formed w = leb w.next (2 ^ 62)

abbrev pub fresh : Dedup
fresh = record { low = 0; high = 0; next = 0 }

-- a call that goes through: whether the number was seen, and the window after it
abbrev pub told : Bool → Dedup → Result Inserted Refusal
told s w = Ok (record { seen = s; dedup = w })

-- what noting n answers, and the window after it
unfoldable pub inserted : Dedup → ℕ → Result Inserted Refusal
inserted w n =
    cond (ltb n (2 ^ 62) && well_formed w)
    (cond (seen w n) (told true w) (told false (holding (with_number w n) (max w.next (n + 1)))))
    (Err Range)
