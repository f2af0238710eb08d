-- Each public promise asks nothing of its caller and fixes its outcome: each is an equation.
use mathlib.Core.Path.{refl, sym, ap, ◌∙◌}
use Rattle.answers.proofs.Promise.{Whole}
use Rattle.varint.proofs.read as read
use Rattle.varint.proofs.read_at as read_at
use Rattle.varint.proofs.size as size
use Rattle.varint.proofs.write as write

pub read_whole : Whole read.Kinds.ps read.Kinds.r read.Reads.Pre read.Reads.Post
read_whole = (λ κs a. tt, λ κs a x y v w p q. (p.0 ∙ sym q.0, refl))

pub read_at_whole : Whole read_at.Kinds.ps read_at.Kinds.r read_at.Reads.Pre read_at.Reads.Post
read_at_whole = (λ κs a. tt, λ κs a x y v w p q. (p.0 ∙ sym q.0, refl))

pub size_whole : Whole size.Kinds.ps size.Kinds.r size.Reads.Pre size.Reads.Post
size_whole = (λ κs a. tt, λ κs a x y v w p q. (p ∙ sym q, refl))

pub write_whole : Whole write.Kinds.ps write.Kinds.r write.Reads.Pre write.Reads.Post
write_whole = (λ κs a. tt, λ κs a x y v w p q. let e = p ∙ sym q in (ap (λ d. d.out) e, λ i. ((ap (λ d. d.mem) e) i, v.1)))
