-- What reading an ACK frame answers (01, ACK frame; RFC 9000, section 19.3): the fields in byte order, each fault at the field whose value shows it.
-- That exactly the frames of specs/Grammar.antt are accepted is proofs/Exact.antt.
-- Assumes nothing.
use Rattle.std.specs.Prelude.{ℕ, zero, suc, ◌+◌, ◌-◌, ◌/◌, ◌<◌, ◌≤◌, ◌^◌, List, [], ◌∷◌, reverse, Result, Ok, Err, Bool, true, false, cond, length, take, drop, ltb, leb, eqb}
use Rattle.answers.specs.declared.Refusal.{Refusal}
use Rattle.answers.specs.declared.Refusal.TheVariants.{Malformed, Kind, Full}
use Rattle.varint.specs.Varint.{read_varint, size_of}
use Rattle.varint.specs.declared.Decoded.{Decoded}
use Rattle.range_list.specs.Ranges.{Range, flat, over}
use Rattle.ack_frame.specs.declared.Int.{Int}
use Rattle.ack_frame.specs.declared.Below.{Below}
use Rattle.ack_frame.specs.declared.Head.{Head}
use Rattle.ack_frame.specs.declared.Ack.{Ack}

-- What follows what was found; a refusal ends it.
abbrev pub on_ok : {A B : Type 0} → Result A Refusal → (A → Result B Refusal) → Result B Refusal
on_ok (Ok x) k = k x
on_ok (Err w) k = Err w

-- The integer at `at`, and where its bytes end; SHORT, as of a varint, where the input ends inside it.
abbrev pub is : ℕ → ℕ → Result Int Refusal
is v a = Ok (record { value = v; next = a })

abbrev pub int_of : ℕ → Result Decoded Refusal → Result Int Refusal
int_of at r = on_ok r (λ d. is d.value (at + d.len))

unfoldable pub int_at : List ℕ → ℕ → Result Int Refusal
int_at f at = int_of at (read_varint (drop at f))

-- What a reader goes on with: the value is below 2 ^ 62, and the next position is past `at` and within the frame.
abbrev pub int_sound : List ℕ → ℕ → Result Int Refusal → Type 0
int_sound f at (Ok i) = (i.value < 2 ^ 62) × ((at < i.next) × (i.next ≤ length f))
int_sound f at (Err w) = Unit

-- The type: an integer in its shortest form (section 12.4), and 2.
unfoldable pub kind_at : List ℕ → Result ℕ Refusal
kind_at f =
    on_ok (int_at f 0)
    (λ kind. cond (eqb kind.next (size_of kind.value)) (cond (eqb kind.value 2) (Ok kind.next) (Err Kind)) (Err Malformed))

abbrev pub kind_sound : List ℕ → Result ℕ Refusal → Type 0
kind_sound f (Ok a) = a ≤ length f
kind_sound f (Err w) = Unit

-- A gap and a length at `at`, below a range whose smallest number is low.
abbrev pub range : ℕ → ℕ → ℕ → Result Below Refusal
range a lo hi = Ok (record { next = a; lo = lo; hi = hi })

unfoldable pub step_at : List ℕ → ℕ → ℕ → Result Below Refusal
step_at f at low =
    on_ok (int_at f at)
    (λ gap. cond (ltb low (gap.value + 2)) (Err Malformed)
    (on_ok (int_at f gap.next)
    (λ len. cond (ltb (low - (gap.value + 2)) len.value) (Err Malformed) (range len.next (low - (gap.value + 2) - len.value) (low - (gap.value + 2) + 1)))))

abbrev pub step_sound : List ℕ → ℕ → Result Below Refusal → Type 0
step_sound f low (Ok b) = (b.next ≤ length f) × ((b.lo < b.hi) × (b.hi < low))
step_sound f low (Err w) = Unit

-- n pairs from `at` on, below low, where room more ranges fit: FULL at the first whole and legal one that does not.
unfoldable pub walk_of : List ℕ → ℕ → ℕ → ℕ → ℕ → Result ℕ Refusal
walk_of f zero at low room = Ok at
walk_of f (suc n) at low room = on_ok (step_at f at low) (λ b. cond (ltb 0 room) (walk_of f n b.next b.lo (room - 1)) (Err Full))

abbrev pub walk_sound : List ℕ → Result ℕ Refusal → Type 0
walk_sound f (Ok e) = e ≤ length f
walk_sound f (Err w) = Unit

-- What follows a pair that was found; z where there is none.
abbrev pub on_step : {A : Type 0} → Result Below Refusal → (Below → A) → A → A
on_step (Ok b) k z = k b
on_step (Err w) k z = z

-- n pairs from `at` on are whole and legal.
unfoldable pub legal : List ℕ → ℕ → ℕ → ℕ → Bool
legal f zero at low = true
legal f (suc n) at low = on_step (step_at f at low) (λ b. legal f n b.next b.lo) false

-- Their ranges, the highest first.
unfoldable pub below : List ℕ → ℕ → ℕ → ℕ → List Range
below f zero at low = []
below f (suc n) at low = on_step (step_at f at low) (λ b. record { lo = b.lo; hi = b.hi } ∷ below f n b.next b.lo) []

-- The four fields behind the type: the largest number, the delay, how many pairs follow, and the first range's length.
abbrev pub known : ℕ → ℕ → ℕ → ℕ → ℕ → Result Head Refusal
known at largest delay count low = Ok (record { at = at; largest = largest; delay = delay; count = count; low = low })

unfoldable pub fields_at : List ℕ → ℕ → Result Head Refusal
fields_at f at =
    on_ok (int_at f at)
    (λ largest. on_ok (int_at f largest.next)
    (λ delay. on_ok (int_at f delay.next)
    (λ count. on_ok (int_at f count.next)
    (λ first. cond (ltb largest.value first.value) (Err Malformed)
    (known first.next largest.value delay.value count.value (largest.value - first.value))))))

unfoldable pub head_of : List ℕ → Result Head Refusal
head_of f = on_ok (kind_at f) (fields_at f)

abbrev pub head_sound : List ℕ → Result Head Refusal → Type 0
head_sound f (Ok h) = (h.at ≤ length f) × ((h.largest < 2 ^ 62) × ((h.count < 2 ^ 62) × (h.low ≤ h.largest)))
head_sound f (Err w) = Unit

-- An outcome of reading: the answer, and what the list then holds.
pub record Done : Type 0 where
  pub out : Result Ack Refusal
  pub mem : List ℕ

abbrev pub done : Result Ack Refusal → List ℕ → Done
done r m = record { out = r; mem = m }

-- What follows what was found, and what follows a refusal.
abbrev pub on_found : {A : Type 0} → Result A Refusal → (A → Done) → (Refusal → Done) → Done
on_found (Ok x) k z = k x
on_found (Err w) k z = z w

abbrev pub accepted : ℕ → ℕ → ℕ → ℕ → Ack
accepted count largest delay taken = record { count = count; largest = largest; delay = delay; taken = taken }

-- All of the frame's ranges, the highest first.
abbrev pub found : List ℕ → ℕ → ℕ → ℕ → ℕ → List Range
found f count at low largest = record { lo = low; hi = largest + 1 } ∷ below f count at low

-- The frame into the list l, two numbers a range: the head, the first range into a free place, the pairs; the ranges ascending at the start
-- of l, and behind them what stood there.
unfoldable pub read_ack : List ℕ → List ℕ → Done
read_ack f l =
    on_found (head_of f)
    (λ h. cond (ltb 0 (length l / 2))
    (on_found (walk_of f h.count h.at h.low (length l / 2 - 1))
    (λ e. done (Ok (accepted (h.count + 1) h.largest h.delay e)) (over (flat (reverse (found f h.count h.at h.low h.largest))) l))
    (λ w. done (Err w) l))
    (done (Err Full) l))
    (λ w. done (Err w) l)

-- The part that the frame took, by what was answered of it; nothing where that is more than there is.
unfoldable pub taken_of : List ℕ → Ack → List ℕ
taken_of f a = cond (leb a.taken (length f)) (take a.taken f) []
