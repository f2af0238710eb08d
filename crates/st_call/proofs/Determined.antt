-- Each promise is one equation for what is handed back and the lent words, so two outcomes that meet it are equal. Assumes nothing.
use mathlib.Core.Path.{refl, sym, ap, ◌∙◌}
use Rattle.answers.proofs.Promise.{Whole}
use Rattle.st_call.proofs.shown as shown
use Rattle.st_call.proofs.values as values
use Rattle.st_call.proofs.call as call

pub shown_whole : Whole shown.Kinds.ps shown.Kinds.r shown.Reads.Pre shown.Reads.Post
shown_whole = (λ κs a. tt, λ κs a x y v w p q. (p ∙ sym q, refl))

pub values_whole : Whole values.Kinds.ps values.Kinds.r values.Reads.Pre values.Reads.Post
values_whole = (λ κs a. tt, λ κs a x y v w p q. (p ∙ sym q, refl))

pub call_whole : Whole call.Kinds.ps call.Kinds.r call.Reads.Pre call.Reads.Post
call_whole = (λ κs a. tt, λ κs a x y v w p q. let e = p ∙ sym q in (ap (λ d. d.done) e, λ i. (tt, (tt, (tt, ((ap (λ d. d.words) e) i, v.1.1.1.1))))))
