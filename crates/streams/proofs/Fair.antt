-- What a step may come to: no more is charged than there is room for, and no more is shut than was charged. By the cases of each step.
-- Assumes nothing.
use mathlib.Core.Bool.{Bool, ◌&&◌, ◌||◌}
use Prim.Native.Nat.{ℕ, ◌+◌, ◌-◌, ◌^◌, ◌≤◌, max}
use native.Mathlib.Omega.{arith}
use lib.Dec.{eqb, ltb, leb}
use borrow.Author.Tests.{ltb-false}
use Rattle.std.specs.Prelude.{Option, Ok}
use Rattle.stream_record.specs.declared.Stream.{Stream}
use Rattle.stream_record.specs.declared.Step.{Step}
use Rattle.stream_record.specs.Record.{kept, took, cut, was_reset, halted, read_on, seen_by, announced, sent_done}
use Rattle.stream_table.proofs.Tables.{by_cond}
use Rattle.streams.specs.Calls.{Fair}

-- ---- what a step may come to: no more is charged than there is room for, and no more is shut than was charged
abbrev pub FairStep : Stream → ℕ → Step → Type 0
FairStep s m p = (p.charge ≤ m) × (p.shut ≤ s.end + p.charge)

kept_fair : (s : Stream) (m e : ℕ) (fin : Bool) → s.end ≤ e → e - s.end ≤ m → FairStep s m (kept s e fin)
unfolding kept
kept_fair s m e fin h r =
    by_cond (FairStep s m) (eqb s.phase 4) _ _
    (λ _. by_cond (FairStep s m) fin _ _ (λ _. (omega arith, omega arith)) (λ _. (omega arith, omega arith)))
    (λ _. by_cond (FairStep s m) fin _ _ (λ _. (omega arith, omega arith)) (λ _. (omega arith, omega arith)))

pub took_fair : (s : Stream) (to : ℕ) (fin : Bool) (m : ℕ) → Fair s m (took s to fin m)
unfolding took
took_fair s to fin m =
    by_cond (Fair s m) (eqb s.phase 0 || eqb s.phase 3) _ _ (λ _. (omega arith, omega arith)) (λ _.
    by_cond (Fair s m) (leb (2 ^ 62) to) _ _ (λ _. (omega arith, omega arith)) (λ _.
    by_cond (Fair s m) (eqb s.phase 2 && ltb s.end to) _ _ (λ _. (omega arith, omega arith)) (λ _.
    by_cond (Fair s m) (fin && ltb to s.end) _ _ (λ _. (omega arith, omega arith)) (λ _.
    by_cond (Fair s m) (ltb s.limit to) _ _ (λ _. (omega arith, omega arith)) (λ _.
    by_cond (Fair s m) (ltb m (to - s.end)) _ _ (λ _. (omega arith, omega arith)) (λ h.
    kept_fair s m (max s.end to) fin (omega arith) (omega (arith, ltb-false m (to - s.end) h))))))))

cut_fair : (s : Stream) (final m : ℕ) → final - s.end ≤ m → Fair s m (Ok (cut s final))
unfolding cut
cut_fair s final m h =
    by_cond (λ (o : Option Step). Fair s m (Ok o)) (eqb s.phase 3) _ _ (λ _. (omega arith, omega arith)) (λ _.
    by_cond (λ (o : Option Step). Fair s m (Ok o)) (eqb s.phase 4) _ _ (λ _. (omega arith, omega arith)) (λ _. (omega arith, omega arith)))

pub reset_fair : (s : Stream) (final m : ℕ) → Fair s m (was_reset s final m)
unfolding was_reset
reset_fair s final m =
    by_cond (Fair s m) (eqb s.phase 0) _ _ (λ _. (omega arith, omega arith)) (λ _.
    by_cond (Fair s m) (ltb final s.end || ((eqb s.phase 2 || eqb s.phase 3) && ltb s.end final)) _ _ (λ _. (omega arith, omega arith)) (λ _.
    by_cond (Fair s m) (ltb s.limit final) _ _ (λ _. (omega arith, omega arith)) (λ _.
    by_cond (Fair s m) (ltb m (final - s.end)) _ _ (λ _. (omega arith, omega arith)) (λ h.
    cut_fair s final m (ltb-false m (final - s.end) h)))))

pub stop_fair : (s : Stream) (m : ℕ) → Fair s m (halted s)
unfolding halted
stop_fair s m =
    by_cond (Fair s m) (eqb s.phase 0 || eqb s.phase 4) _ _ (λ _. (omega arith, omega arith)) (λ _.
    by_cond (Fair s m) (eqb s.phase 1) _ _ (λ _. (omega arith, omega arith)) (λ _.
    by_cond (Fair s m) (eqb s.phase 2) _ _ (λ _. (omega arith, omega arith)) (λ _. (omega arith, omega arith))))

pub read_fair : (s : Stream) (n m : ℕ) → Fair s m (read_on s n)
unfolding read_on
read_fair s n m =
    by_cond (Fair s m) (eqb s.phase 0 || eqb s.phase 4) _ _ (λ _. (omega arith, omega arith)) (λ _.
    by_cond (Fair s m) (ltb (s.end - s.read) n) _ _ (λ _. (omega arith, omega arith)) (λ _. (omega arith, omega arith)))

pub seen_fair : (s : Stream) (m : ℕ) → Fair s m (seen_by s)
unfolding seen_by
seen_fair s m =
    by_cond (Fair s m) (eqb s.phase 0 || eqb s.phase 4) _ _ (λ _. (omega arith, omega arith)) (λ _.
    by_cond (Fair s m) (eqb s.phase 3) _ _ (λ _. (omega arith, omega arith)) (λ _.
    by_cond (Fair s m) (eqb s.phase 2 && eqb s.read s.end) _ _ (λ _. (omega arith, omega arith)) (λ _. (omega arith, omega arith))))

-- what `commit` asks
pub announce_fair : (s : Stream) (w m : ℕ) → Fair s m (announced s w)
unfolding announced
announce_fair s w m = by_cond (Fair s m) (eqb s.phase 1) _ _ (λ _. (omega arith, omega arith)) (λ _. (omega arith, omega arith))

pub sent_fair : (s : Stream) (m : ℕ) → Fair s m (sent_done s)
unfolding sent_done
sent_fair s m = by_cond (Fair s m) (eqb s.sending 1) _ _ (λ _. (omega arith, omega arith)) (λ _. (omega arith, omega arith))
