-- Each public promise asks nothing of its caller and fixes its outcome: each is an equation; of the part handed back it fixes the bytes.
use mathlib.Core.Path.{refl, sym, ap, ◌∙◌}
use mathlib.Core.List.{List}
use Prim.Native.Nat.{ℕ}
use Rattle.answers.proofs.Promise.{Whole, Open, FixedBy}
use Rattle.ack_frame.proofs.read as read
use Rattle.ack_frame.proofs.taken as taken

pub read_whole : Whole read.Kinds.ps read.Kinds.r read.Reads.Pre read.Reads.Post
read_whole = (λ κs a. tt, λ κs a x y v w p q. let e = p.0 ∙ sym q.0 in (ap (λ d. d.out) e, λ i. (tt, ((ap (λ d. d.mem) e) i, tt))))

pub taken_open : Open taken.Kinds.ps taken.Kinds.r taken.Reads.Pre
taken_open κs a = tt

pub taken_whole : FixedBy taken.Kinds.ps taken.Kinds.r (List ℕ) (λ κs x. x.now) taken.Reads.Post
taken_whole κs a x y v w p q = (p ∙ sym q, refl)
