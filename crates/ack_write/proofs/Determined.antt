-- The public promise asks nothing of its caller and fixes its outcome: it is an equation.
use mathlib.Core.Path.{sym, ap, ◌∙◌}
use Rattle.answers.proofs.Promise.{Whole}
use Rattle.ack_write.proofs.write as write

pub write_whole : Whole write.Kinds.ps write.Kinds.r write.Reads.Pre write.Reads.Post
write_whole = (λ κs a. tt, λ κs a x y v w p q. let e = p ∙ sym q in (ap (λ d. d.out) e, λ i. ((ap (λ d. d.mem) e) i, v.1)))
