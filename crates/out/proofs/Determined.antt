-- Nothing is asked of a caller, and where a text has room the promise fixes the outcome: the place and the whole buffer. Where it has
-- none the outcome turns on a write, which no contract can foretell. Assumes nothing.
use mathlib.Core.Path.{◌≡◌, refl, sym, ◌∙◌}
use Prim.Native.Nat.{ℕ, ◌<◌}
use mathlib.Core.Bool.{Bool, true, false}
use Rattle.std.specs.Prelude.{Result, Ok, Err}
use Rattle.std.specs.Result.{IsOk}
use Rattle.answers.specs.declared.Refusal.{Refusal}
use Rattle.answers.proofs.Promise.{Open, Fixed}
use Rattle.print.specs.Print.{decimal, hexed, range as Print·range, put_at}
use Rattle.out.proofs.Out.flush as flush
use Rattle.out.proofs.Out.text as text
use Rattle.out.proofs.Out.number as number
use Rattle.out.proofs.Out.range as range
use Rattle.out.proofs.Out.hex as hex
use Rattle.out.proofs.OutWrite.write_str as write_str

same_place : {a b : ℕ} → ◌≡◌ {A = Result ℕ Refusal} (Ok a) (Ok b) → a ≡ b
same_place e = cc

pub flush_open : Open flush.Kinds.ps flush.Kinds.r flush.Reads.Pre
flush_open κs a = tt

-- a place past the buffer: nothing is written, and all is as it was
pub flush_fixed : Fixed flush.Kinds.ps flush.Kinds.r (λ κs a x e. (65536 < a.0.now.at) × flush.Reads.Post κs a x e)
flush_fixed κs a x y v w p q =
    let s = p.0 in
    (refl, λ i. (record { buf = (p.1.bytes ∙ sym q.1.bytes) i; at = (p.1.past s ∙ sym (q.1.past s)) i }, tt))

pub text_open : Open text.Kinds.ps text.Kinds.r text.Reads.Pre
text_open κs a = tt

pub text_fixed : Fixed text.Kinds.ps text.Kinds.r (λ κs a x e. (IsOk (put_at a.0.now.buf a.0.now.at a.1.0.now).out) × text.Reads.Post κs a x e)
text_fixed κs a x y v w p q =
    let s = p.0 in
    (refl, λ i. (record { buf = (p.1.room.bytes s ∙ sym (q.1.room.bytes s)) i; at = (same_place (sym (p.1.room.place s) ∙ q.1.room.place s)) i }, (tt, tt)))

pub number_open : Open number.Kinds.ps number.Kinds.r number.Reads.Pre
number_open κs a = tt

pub number_fixed : Fixed number.Kinds.ps number.Kinds.r (λ κs a x e. (IsOk (put_at a.0.now.buf a.0.now.at (decimal a.1.0)).out) × number.Reads.Post κs a x e)
number_fixed κs a x y v w p q =
    let s = p.0 in
    (refl, λ i. (record { buf = (p.1.room.bytes s ∙ sym (q.1.room.bytes s)) i; at = (same_place (sym (p.1.room.place s) ∙ q.1.room.place s)) i }, (tt, tt)))

pub range_open : Open range.Kinds.ps range.Kinds.r range.Reads.Pre
range_open κs a = tt

pub range_fixed : Fixed range.Kinds.ps range.Kinds.r (λ κs a x e. (IsOk (put_at a.0.now.buf a.0.now.at (Print·range a.1.0 a.1.1.0)).out) × range.Reads.Post κs a x e)
range_fixed κs a x y v w p q =
    let s = p.0 in
    (refl, λ i. (record { buf = (p.1.room.bytes s ∙ sym (q.1.room.bytes s)) i; at = (same_place (sym (p.1.room.place s) ∙ q.1.room.place s)) i }, (tt, (tt, tt))))

pub hex_open : Open hex.Kinds.ps hex.Kinds.r hex.Reads.Pre
hex_open κs a = tt

pub hex_fixed : Fixed hex.Kinds.ps hex.Kinds.r (λ κs a x e. (IsOk (put_at a.0.now.buf a.0.now.at (hexed a.1.0.now)).out) × hex.Reads.Post κs a x e)
hex_fixed κs a x y v w p q =
    let s = p.0 in
    (refl, λ i. (record { buf = (p.1.bytes s ∙ sym (q.1.bytes s)) i; at = (same_place (sym (p.1.place s) ∙ q.1.place s)) i }, (tt, tt)))

same_done : {E : Type 0} (x y : Result (Unit {0}) E) → IsOk x → IsOk y → x ≡ y
same_done (Ok a) (Ok b) e f = refl
same_done (Err a) y e f = absurd (let z : ◌≡◌ {A = Bool} false true = e in cc)
same_done (Ok a) (Err b) e f = absurd (let z : ◌≡◌ {A = Bool} false true = f in cc)

pub write_str_open : Open write_str.Kinds.ps write_str.Kinds.r write_str.Reads.Pre
write_str_open κs a = tt

pub write_str_fixed : Fixed write_str.Kinds.ps write_str.Kinds.r (λ κs a x e. (IsOk (put_at a.0.now.buf a.0.now.at a.1.0.now).out) × write_str.Reads.Post κs a x e)
write_str_fixed κs a x y v w p q =
    let s = p.0 in
    let m = p.1.0 p.1.1 in
    let n = q.1.0 q.1.1 in
    (same_done x y p.1.1 q.1.1, λ i. (record { buf = (m.room.bytes s ∙ sym (n.room.bytes s)) i; at = (same_place (sym (m.room.place s) ∙ n.room.place s)) i }, (tt, tt)))
