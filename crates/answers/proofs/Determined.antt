-- Two outcomes that both meet a promise are the same, and nothing is asked of a caller.
use mathlib.Core.Path.{refl, sym, ◌∙◌}
use Rattle.answers.proofs.Promise.{Whole}
use Rattle.answers.proofs.U8FromRefusal.from as number

pub number_whole : Whole number.Kinds.ps number.Kinds.r number.Reads.Pre number.Reads.Post
number_whole = (λ κs a. tt, λ κs a x y v w p q. (p ∙ sym q, refl))
