-- By numbers the answer of a start is what it is by refusals. Assumes nothing.
use mathlib.Core.Path.{◌≡◌, refl}
use mathlib.Core.Bool.{Bool, true, false, ◌||◌, cond}
use Prim.Native.Nat.{ℕ, ◌+◌, ◌^◌}
use lib.Dec.{ltb}
use Rattle.std.specs.Prelude.{Result, Ok, Err}
use Rattle.answers.specs.Answers.{OK, RANGE, FULL, number}
use Rattle.answers.specs.declared.Refusal.{Refusal}
use Rattle.answers.specs.declared.Refusal.TheVariants.{Short, Range, Malformed, Kind, Full, Order, Flow, Final, Limit, State, Room, Retired}
use Rattle.stream_conn.specs.declared.Conn.{Conn}
use Rattle.stream_conn.specs.declared.Done.{Done}
use Rattle.st_new.specs.New.{startable, start_answer}

-- the number that stands for what a call gave
abbrev pub numbered : {X : Type 0} → Result X Refusal → ℕ
numbered (Ok x) = OK
numbered (Err why) = number why

refused : (why : Refusal) (bi uni : ℕ) → start_answer (number why) bi uni ≡ number why
unfolding start_answer
refused Short bi uni = refl
refused Range bi uni = refl
refused Malformed bi uni = refl
refused Kind bi uni = refl
refused Full bi uni = refl
refused Order bi uni = refl
refused Flow bi uni = refl
refused Final bi uni = refl
refused Limit bi uni = refl
refused State bi uni = refl
refused Room bi uni = refl
refused Retired bi uni = refl

started : (a b c : Bool) (d : Conn)
    → cond a RANGE (cond b RANGE (cond c FULL OK)) ≡ numbered (cond {A = Result Conn Refusal} (a || b) (Err Range) (cond c (Err Full) (Ok d)))
started true b c d = refl
started false true c d = refl
started false false true d = refl
started false false false d = refl

pub answer_is : (made : Result Done Refusal) (bi uni : ℕ) → start_answer (numbered made) bi uni ≡ numbered (startable made bi uni)
unfolding start_answer startable
answer_is (Ok d) bi uni = started (ltb (2 ^ 60) bi) (ltb (2 ^ 60) uni) (ltb 256 (bi + uni)) d.conn
answer_is (Err why) bi uni = refused why bi uni
