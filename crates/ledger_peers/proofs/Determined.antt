-- Each public promise fixes its outcome: the record and the lent memory. Assumes nothing.
use mathlib.Core.Path.{refl, sym, ap, ◌∙◌}
use Rattle.answers.proofs.Promise.{Whole}
use Rattle.ledger_peers.proofs.begin as begin
use Rattle.ledger_peers.proofs.step as step

pub begin_whole : Whole begin.Kinds.ps begin.Kinds.r begin.Reads.Pre begin.Reads.Post
begin_whole = (λ κs a. tt, λ κs a x y v w p q. (p ∙ sym q, refl))

pub step_whole : Whole step.Kinds.ps step.Kinds.r step.Reads.Pre step.Reads.Post
step_whole =
    (λ κs a. tt, λ κs a x y v w p q. let e = p ∙ sym q in (ap (λ d. d.out) e, λ i. (tt, (tt, (tt, (tt, (tt, (tt, (tt, ((ap (λ d. d.memory) e) i, tt))))))))))
