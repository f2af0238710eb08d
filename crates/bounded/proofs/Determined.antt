-- Each promise is one equation for the result, so two results that meet it are equal.
use mathlib.Core.Path.{refl, sym, ◌∙◌}
use Rattle.answers.proofs.Promise.{Whole}
use Rattle.bounded.proofs.less as less
use Rattle.bounded.proofs.least as least
use Rattle.bounded.proofs.most as most
use Rattle.bounded.proofs.within as within

pub less_whole : Whole less.Kinds.ps less.Kinds.r less.Reads.Pre less.Reads.Post
less_whole = (λ κs a. tt, λ κs a x y v w p q. (p ∙ sym q, refl))

pub least_whole : Whole least.Kinds.ps least.Kinds.r least.Reads.Pre least.Reads.Post
least_whole = (λ κs a. tt, λ κs a x y v w p q. (p ∙ sym q, refl))

pub most_whole : Whole most.Kinds.ps most.Kinds.r most.Reads.Pre most.Reads.Post
most_whole = (λ κs a. tt, λ κs a x y v w p q. (p ∙ sym q, refl))

pub within_whole : Whole within.Kinds.ps within.Kinds.r within.Reads.Pre within.Reads.Post
within_whole = (λ κs a. tt, λ κs a x y v w p q. (p ∙ sym q, refl))
