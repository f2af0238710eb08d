-- Each public promise asks nothing of its caller and fixes its outcome: each is an equation.
use mathlib.Core.Path.{refl, sym, ◌∙◌}
use Rattle.answers.proofs.Promise.{Whole}
use Rattle.constant_time.proofs.eq as eq
use Rattle.constant_time.proofs.eq16 as eq16

pub eq_whole : Whole eq.Kinds.ps eq.Kinds.r eq.Reads.Pre eq.Reads.Post
eq_whole = (λ κs a. tt, λ κs a x y v w p q. (p ∙ sym q, refl))

pub eq16_whole : Whole eq16.Kinds.ps eq16.Kinds.r eq16.Reads.Pre eq16.Reads.Post
eq16_whole = (λ κs a. tt, λ κs a x y v w p q. (p ∙ sym q, refl))
