-- Each public promise fixes its outcome: the state and all lent memory. Assumes nothing.
use mathlib.Core.Path.{refl, sym, ap, ◌∙◌}
use Rattle.answers.proofs.Promise.{Whole}
use Rattle.ledger.proofs.begin as begin
use Rattle.ledger.proofs.step as step

pub begin_whole : Whole begin.Kinds.ps begin.Kinds.r begin.Reads.Pre begin.Reads.Post
begin_whole = (λ κs a. tt, λ κs a x y v w p q. (p ∙ sym q, refl))

pub step_whole : Whole step.Kinds.ps step.Kinds.r step.Reads.Pre step.Reads.Post
step_whole =
    (λ κs a. tt, λ κs a x y v w p q. let e = p ∙ sym q in (ap (λ d. d.state) e, λ i. (tt, (tt, (tt, ((ap (λ d. d.scratch) e) i, (tt, ((ap (λ d. d.memory) e) i, ((ap (λ d. d.list) e) i, tt)))))))))
