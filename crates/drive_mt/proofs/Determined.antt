-- Each public promise fixes its outcome, and asks nothing: it is an equation of the result. Assumes nothing.
use mathlib.Core.Path.{refl, sym, ◌∙◌}
use Rattle.answers.proofs.Promise.{Whole}
use Rattle.drive_mt.proofs.begin as begin
use Rattle.drive_mt.proofs.step as step

pub begin_whole : Whole begin.Kinds.ps begin.Kinds.r begin.Reads.Pre begin.Reads.Post
begin_whole = (λ κs a. tt, λ κs a x y v w p q. (p ∙ sym q, refl))

pub step_whole : Whole step.Kinds.ps step.Kinds.r step.Reads.Pre step.Reads.Post
step_whole = (λ κs a. tt, λ κs a x y v w p q. (p ∙ sym q, refl))
