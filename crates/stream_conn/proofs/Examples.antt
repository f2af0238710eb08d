-- The worked examples of 01 for the connection's own numbers, by computing the definitions.
use mathlib.Core.Path.{◌≡◌, refl}
use Prim.Native.Nat.{ℕ}
use Rattle.stream_conn.specs.declared.Conn.{Conn}
use Rattle.std.specs.Prelude.{Result, Ok, Err}
use Rattle.answers.specs.declared.Refusal.{Refusal}
use Rattle.answers.specs.declared.Refusal.TheVariants.{Range, Limit, State}
use Rattle.stream_conn.specs.declared.Done.{Done}
use Rattle.stream_conn.specs.Books.{no_counts, admitted, good_counts, good_conn, paid, windowed, new_done, credit_done, window_done, max_done}

abbrev with_debt : ℕ → ℕ → ℕ → Conn
with_debt g w d = record { side = 1; bi = no_counts; uni = no_counts; charged = 900; closed = 900; grant = g; window = w; debt = d; swindow = 1000 }

-- the connection after a call: as it was where the call was refused
abbrev after : Conn → Result Done Refusal → Conn
after c (Ok d) = d.conn
after c (Err why) = c

abbrev no_conn : Conn
no_conn = with_debt 0 0 0

abbrev fresh : ℕ → ℕ → ℕ → Conn
fresh side w sw = after no_conn (new_done side w sw)

-- credit pays the debt first: 30 with a debt of 20 raises the grant by 10
pub debt_first : (after (with_debt 1000 1000 20) (credit_done (with_debt 1000 1000 20) 30)).grant ≡ 1010
unfolding credit_done good_conn good_counts paid
debt_first = refl

pub debt_paid : (after (with_debt 1000 1000 20) (credit_done (with_debt 1000 1000 20) 30)).debt ≡ 0
unfolding credit_done good_conn good_counts paid
debt_paid = refl

pub debt_left : (after (with_debt 1000 1000 20) (credit_done (with_debt 1000 1000 20) 5)).debt ≡ 15
unfolding credit_done good_conn good_counts paid
debt_left = refl

abbrev narrow : ℕ → Conn
narrow w = after (fresh 1 100 100) (window_done (fresh 1 100 100) w)

-- window 100, then 40, then 100: the grant is 160, and 60 are owed
pub narrow_then_wide : (after (narrow 40) (window_done (narrow 40) 100)).grant ≡ 160
unfolding new_done window_done good_conn good_counts windowed
narrow_then_wide = refl

pub narrow_owed : (after (narrow 40) (window_done (narrow 40) 100)).debt ≡ 60
unfolding new_done window_done good_conn good_counts windowed
narrow_owed = refl

-- the grant stops at the largest number that MAX_DATA can carry
pub grant_top : (after (with_debt 4611686018427387903 1000 0) (credit_done (with_debt 4611686018427387903 1000 0) 1)).grant ≡ 4611686018427387903
unfolding credit_done good_conn good_counts paid
grant_top = refl

-- a side that is none, and a window past the limit
pub new_side : new_done 2 100 100 ≡ Err Range
unfolding new_done
new_side = refl

pub new_window : new_done 1 4611686018427387904 100 ≡ Err Range
unfolding new_done
new_window = refl

abbrev more : ℕ → Conn
more n = after (fresh 0 100 100) (max_done (fresh 0 100 100) 1 n)

-- a number of streams below the one allowed changes nothing
pub max_kept : (after (more 7) (max_done (more 7) 1 3)).uni.max ≡ 7
unfolding new_done max_done good_conn good_counts
max_kept = refl

-- a server: its own one-way stream 3 and its unopened stream 1 are STATE, the client's stream 2 that was not granted LIMIT
pub own_state : admitted (fresh 1 100 100) 3 ≡ Err State
unfolding new_done admitted
own_state = refl

pub own_unopened : admitted (fresh 1 100 100) 1 ≡ Err State
unfolding new_done admitted
own_unopened = refl

pub past_limit : admitted (fresh 1 100 100) 2 ≡ Err Limit
unfolding new_done admitted
past_limit = refl
