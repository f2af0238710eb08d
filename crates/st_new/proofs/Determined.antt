-- Each promise is one equation for what is handed back and the lent words, so two outcomes that meet it are equal. Assumes nothing.
use mathlib.Core.Path.{refl, sym, ap, ◌∙◌}
use Rattle.answers.proofs.Promise.{Whole}
use Rattle.st_new.proofs.startable as startable
use Rattle.st_new.proofs.start as start
use Rattle.st_new.proofs.start_answer as start_answer

pub startable_whole : Whole startable.Kinds.ps startable.Kinds.r startable.Reads.Pre startable.Reads.Post
startable_whole = (λ κs a. tt, λ κs a x y v w p q. (p ∙ sym q, refl))

pub start_whole : Whole start.Kinds.ps start.Kinds.r start.Reads.Pre start.Reads.Post
start_whole = (λ κs a. tt, λ κs a x y v w p q. let e = p ∙ sym q in (ap (λ d. d.out) e, λ i. (tt, ((ap (λ d. d.words) e) i, v.1.1))))

pub start_answer_whole : Whole start_answer.Kinds.ps start_answer.Kinds.r start_answer.Reads.Pre start_answer.Reads.Post
start_answer_whole = (λ κs a. tt, λ κs a x y v w p q. (p ∙ sym q, refl))
