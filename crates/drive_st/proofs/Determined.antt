-- Each promise is one equation for what an event gave and the lent words, so two outcomes that meet it are equal. Assumes nothing.
use mathlib.Core.Path.{refl, sym, ap, ◌∙◌}
use Rattle.answers.proofs.Promise.{Whole}
use Rattle.drive_st.proofs.begin as begin
use Rattle.drive_st.proofs.step as step

pub begin_whole : Whole begin.Kinds.ps begin.Kinds.r begin.Reads.Pre begin.Reads.Post
begin_whole = (λ κs a. tt, λ κs a x y v w p q. (p ∙ sym q, refl))

pub step_whole : Whole step.Kinds.ps step.Kinds.r step.Reads.Pre step.Reads.Post
step_whole = (λ κs a. tt, λ κs a x y v w p q. let e = p ∙ sym q in (ap (λ d. d.out) e, λ i. (tt, (tt, ((ap (λ d. d.words) e) i, v.1.1.1)))))
