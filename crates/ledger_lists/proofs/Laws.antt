-- One law for each return: what the calls before it promise is what the definition says. Assumes nothing.
use mathlib.Core.Path.{◌≡◌}
use mathlib.Core.List.{List}
use Prim.Native.Nat.{ℕ}
use Rattle.drive_sets.specs.declared.Did.{Did}
use Rattle.drive_sets.specs.declared.Noted.{Noted}
use Rattle.drive_sets.specs.Sets as sets
use Rattle.drive_rs.specs.declared.Ranges.{Ranges}
use Rattle.drive_rs.specs.Step as rs
use Rattle.ledger_lists.specs.Memory.{ACKS, TABLE, part, put_part}
use Rattle.ledger_lists.specs.Step.{begun, acks_of}

-- ---- the start

pub begins : {w : Noted} {r : Ranges} {d : Did} → w ≡ sets.began → r ≡ rs.begun → d ≡ sets.none → record { window = w; ranges = r; acks = d } ≡ begun
begins a b c = rw (a, b, c)

-- ---- the recorder's part of the memory

pub acks_in_law : (code a n : ℕ) (m : List ℕ) {d : Did} {m' : List ℕ} → sets.done d m' ≡ sets.record_of code a (part ACKS TABLE m) n
    → sets.done d (put_part ACKS TABLE m m') ≡ acks_of code a n m
unfolding acks_of
acks_in_law code a n m e = rw (← e)

pub ruleset laws = (begins, acks_in_law)
