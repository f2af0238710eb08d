-- The worked examples of 01 for one stream, by computing the definitions; and that what was charged once is never charged again.
use mathlib.Core.Path.{◌≡◌, refl}
use mathlib.Core.Bool.{Bool, true, false, cond, ◌&&◌, ◌||◌}
use Prim.Native.Nat.{ℕ, ◌-◌, ◌^◌, ◌≤◌, max}
use native.Mathlib.Omega.{arith}
use lib.Dec.{eqb, ltb, leb}
use Rattle.stream_record.specs.declared.Stream.{Stream}
use Rattle.stream_record.specs.declared.Step.{Step}
use Rattle.std.specs.Prelude.{Option, None, Result, Ok, Err}
use Rattle.answers.specs.declared.Refusal.{Refusal}
use Rattle.answers.specs.declared.Refusal.TheVariants.{Flow, Final}
use Rattle.stream_record.specs.Record.{OPEN, SIZED, RESET, CLOSED, on_step, kept, took, cut, was_reset, halted, announced}

abbrev stream : ℕ → ℕ → ℕ → ℕ → Stream
stream e r m p = record { id = 2; end = e; read = r; limit = m; phase = p; sending = 0; class = 0 }

abbrev Came : Type 0
Came = Result (Option Step) Refusal

-- what an event charges, credits and hands back: nothing where it comes to no step
abbrev charge : Came → ℕ
charge r = on_step 0 (λ p. p.charge) r

abbrev credit : Came → ℕ
credit r = on_step 0 (λ p. p.credit) r

abbrev value : Came → ℕ
value r = on_step 0 (λ p. p.value) r

-- the stream after it: as it was where it comes to no step
abbrev after : Stream → Came → Stream
after s r = on_step s (λ p. p.stream) r

-- end 1,000, read 400, final 1,500: charge 500, credit 1,100
pub reset_charge : charge (was_reset (stream 1000 400 2000 OPEN) 1500 500) ≡ 500
unfolding was_reset cut
reset_charge = refl

pub reset_credit : credit (was_reset (stream 1000 400 2000 OPEN) 1500 500) ≡ 1100
unfolding was_reset cut
reset_credit = refl

-- stopped first: credit 600 at the stop, and 500 at the reset
pub stop_credit : credit (halted (stream 1000 400 2000 OPEN)) ≡ 600
unfolding halted
stop_credit = refl

pub stopped_credit : credit (was_reset (after (stream 1000 400 2000 OPEN) (halted (stream 1000 400 2000 OPEN))) 1500 500) ≡ 500
unfolding was_reset cut halted
stopped_credit = refl

-- one byte more than there is room for
pub reset_flow : was_reset (stream 1000 400 2000 OPEN) 1501 500 ≡ Err Flow
unfolding was_reset
reset_flow = refl

-- a stop after a reset credits nothing, and a reset after a reset changes nothing
pub stop_after_reset : credit (halted (after (stream 1000 400 2000 OPEN) (was_reset (stream 1000 400 2000 OPEN) 1500 500))) ≡ 0
unfolding was_reset cut halted
stop_after_reset = refl

pub reset_again : was_reset (after (stream 1000 400 2000 OPEN) (was_reset (stream 1000 400 2000 OPEN) 1500 500)) 1500 0 ≡ Ok None
unfolding was_reset cut
reset_again = refl

-- a FIN below the highest end, and data past a known final size
pub fin_below : took (stream 1 0 100 OPEN) 0 true 99 ≡ Err Final
unfolding took
fin_below = refl

pub past_final : took (stream 10 0 100 SIZED) 11 false 99 ≡ Err Final
unfolding took
past_final = refl

pub reset_below : was_reset (stream 10 0 100 OPEN) 9 99 ≡ Err Final
unfolding was_reset
reset_below = refl

-- an end above 2^62 − 1 is FLOW before anything else is looked at
pub end_high : took (stream 10 0 100 SIZED) 4611686018427387904 true 99 ≡ Err Flow
unfolding took
end_high = refl

-- a limit announced stops at what a frame can carry
pub limit_top : value (announced (stream 10 10 100 OPEN) 4611686018427387903) ≡ 4611686018427387903
unfolding announced
limit_top = refl

-- ---- for every stream
by_cond : {A : Type 0} (P : A → Type 0) (b : Bool) (x y : A) → P x → P y → P (cond b x y)
by_cond P true x y p q = p
by_cond P false x y p q = q

abbrev FreeStep : Step → Type 0
FreeStep p = p.charge ≡ 0

abbrev Free : Came → Type 0
Free r = charge r ≡ 0

kept_free : (s : Stream) (e : ℕ) (fin : Bool) → e ≤ s.end → FreeStep (kept s e fin)
unfolding kept
kept_free s e fin h =
    let z : e - s.end ≡ 0 = omega arith in
    by_cond FreeStep (eqb s.phase 4) _ _ (by_cond FreeStep fin _ _ z z) (by_cond FreeStep fin _ _ z z)

-- a retransmission, data that end at or below the highest end, charges nothing
pub again_free : (s : Stream) (to : ℕ) (fin : Bool) (room : ℕ) → to ≤ s.end → Free (took s to fin room)
unfolding took
again_free s to fin room h =
    by_cond Free (eqb s.phase 0 || eqb s.phase 3) _ _ refl
    (by_cond Free (leb (2 ^ 62) to) _ _ refl
    (by_cond Free (eqb s.phase 2 && ltb s.end to) _ _ refl
    (by_cond Free (fin && ltb to s.end) _ _ refl
    (by_cond Free (ltb s.limit to) _ _ refl
    (by_cond Free (ltb room (to - s.end)) _ _ refl
    (kept_free s (max s.end to) fin (omega arith)))))))

-- data for a stream that is closed or reset are OK, and charge and change nothing
pub closed_free : (s : Stream) (to : ℕ) (fin : Bool) (room : ℕ) → s.phase ≡ CLOSED → took s to fin room ≡ Ok None
unfolding took
closed_free s to fin room e = rw e

pub reset_free : (s : Stream) (to : ℕ) (fin : Bool) (room : ℕ) → s.phase ≡ RESET → took s to fin room ≡ Ok None
unfolding took
reset_free s to fin room e = rw e
