-- Worked examples, which compute. The queue is that of `new` with the id aa; the frame of the number n brings the id n with a token of sixteen n's.
-- Assumes nothing.
use mathlib.Core.Path.{◌≡◌, refl}
use mathlib.Core.Bool.{true}
use mathlib.Core.List.{◌∷◌}
use Prim.Native.Nat.{ℕ, ◌-◌, ◌^◌}
use lib.ListN.{replicate}
use Rattle.std.specs.Prelude.{Option, Some, None, Result, Ok, Err, is_ok}
use Rattle.answers.specs.declared.Refusal.{Refusal}
use Rattle.answers.specs.declared.Refusal.TheVariants.{Range, Malformed, Order, Limit, Retired as RetiredAlready}
use Rattle.cid_ring.specs.declared.Cid.{Cid}
use Rattle.cid_ring.specs.declared.Ring.{Ring}
use Rattle.cid_ring.specs.Cids.{under, held, ring_of, first, retired, put, fit, fits, sound, empty}
use Rattle.cid_queue.specs.declared.CidQueue.{CidQueue}
use Rattle.cid_queue.specs.declared.Retirement.{Retirement}
use Rattle.cid_queue.specs.declared.Retired.{Retired}
use Rattle.cid_queue.specs.Queue.{queue, initial, issued, parting, takes, accepted, inserted, switched_to, switched, made, nth, entry_of}
use Rattle.cid_queue.specs.History.{left, left_alone}

abbrev pub id_of : ℕ → Cid
id_of n = issued (n ∷ replicate 19 0) 1 (replicate 16 n)

-- what a step retired
abbrev pub gone : Result Retirement Refusal → Result (Option Retired) Refusal
gone (Ok r) = Ok r.retired
gone (Err why) = Err why

-- the numbers from..to, and the token of the id of the number n
abbrev pub part : ℕ → ℕ → ℕ → Result (Option Retired) Refusal
part from to n = Ok (Some (record { start = from; end = to; token = Some (replicate 16 n) }))

-- the queue that a `new` handed back; where it refused, one that holds nothing
abbrev pub begun : Result CidQueue Refusal → CidQueue
begun m = left_alone (queue empty) m

abbrev fresh : Ring
fresh = (begun (made (170 ∷ replicate 19 0) 1)).ring

abbrev frame : Ring → ℕ → ℕ → Result Retirement Refusal
frame q seq prior = inserted q seq prior (id_of seq)

abbrev after : Ring → ℕ → ℕ → Ring
after q seq prior = (left (queue q) (frame q seq prior)).ring

-- an id of one byte is taken
pub begins : is_ok (made (170 ∷ replicate 19 0) 1) ≡ true
unfolding made
begins = refl

-- 4 is the last number that has a place, 5 the first that has none; a retire-prior-to moves both, and is not above its number
pub edges : (is_ok (frame fresh 4 0) ≡ true) × (frame fresh 5 0 ≡ Err Limit) × (is_ok (frame fresh 5 1) ≡ true) × (frame fresh 6 1 ≡ Err Limit) × (frame fresh 1 2 ≡ Err Malformed)
unfolding inserted takes sound fit fits held under made put empty ring_of accepted parting first retired switched switched_to entry_of nth
edges = (refl, refl, refl, refl, refl)

-- 4 is held when 5 retires 0: 4 is the active one, its token is handed back, and 0..4 are to be retired, 1 to 3 among them, which never came
pub gap : (gone (frame (after fresh 4 0) 5 1) ≡ part 0 4 4) × ((after (after fresh 4 0) 5 1).offset ≡ 4)
unfolding inserted takes sound fit fits held under made put empty ring_of accepted parting first retired switched switched_to entry_of nth
gap = (refl, refl)

-- and then 2, retired before it comes, is refused
pub late : frame (after (after fresh 4 0) 5 1) 2 0 ≡ Err RetiredAlready
unfolding inserted takes sound fit fits held under made put empty ring_of accepted parting first retired switched switched_to entry_of nth
late = refl

-- a leap retires five numbers at most
pub leap : (gone (frame fresh 104 100) ≡ part 0 5 104) × ((after fresh 104 100).offset ≡ 104)
unfolding inserted takes sound fit fits held under made put empty ring_of accepted parting first retired switched switched_to entry_of nth
leap = (refl, refl)

-- the active number sent again: its id is replaced
pub again : (gone (frame fresh 0 0) ≡ Ok None) × (under (after fresh 0 0) 0 ≡ Some (id_of 0))
unfolding inserted takes sound fit fits held under made put empty ring_of accepted parting first retired switched switched_to entry_of nth
again = (refl, refl)

-- the switch to the next number held, and none where there is no other
pub switches : (gone (switched (after fresh 4 0)) ≡ part 0 4 4) × (switched fresh ≡ Err Order)
unfolding inserted takes sound fit fits held under made put empty ring_of accepted parting first retired switched switched_to entry_of nth
switches = (refl, refl)

-- the greatest number is taken, and becomes the active one; the next is no number
pub greatest : (gone (frame fresh (2 ^ 62 - 1) (2 ^ 62 - 1)) ≡ part 0 5 (2 ^ 62 - 1)) × ((after fresh (2 ^ 62 - 1) (2 ^ 62 - 1)).offset ≡ 2 ^ 62 - 1) × (frame (after fresh (2 ^ 62 - 1) (2 ^ 62 - 1)) (2 ^ 62) 0 ≡ Err Range)
unfolding inserted takes sound fit fits held under made put empty ring_of accepted parting first retired switched switched_to entry_of nth
greatest = (refl, refl, refl)

-- the ids held are told in order: 0, then 4, and no third
pub told : (entry_of (after fresh 4 0) 0 ≡ Ok (record { seq = 0; cid = initial (170 ∷ replicate 19 0) 1 })) × (entry_of (after fresh 4 0) 1 ≡ Ok (record { seq = 4; cid = id_of 4 })) × (entry_of (after fresh 4 0) 2 ≡ Err Order)
unfolding inserted takes sound fit fits held under made put empty ring_of accepted parting first retired switched switched_to entry_of nth
told = (refl, refl, refl)
