-- Each promise is one equation for the result and asks nothing of the caller, so two results that meet it are equal. Assumes nothing.
use mathlib.Core.Path.{refl, sym, ◌∙◌}
use Rattle.answers.proofs.Promise.{Whole}
use Rattle.said.proofs.plain as plain
use Rattle.said.proofs.number as number
use Rattle.said.proofs.two as two
use Rattle.said.proofs.three as three
use Rattle.said.proofs.bit as bit

pub plain_whole : Whole plain.Kinds.ps plain.Kinds.r plain.Reads.Pre plain.Reads.Post
plain_whole = (λ κs a. tt, λ κs a x y v w p q. (p ∙ sym q, refl))

pub number_whole : Whole number.Kinds.ps number.Kinds.r number.Reads.Pre number.Reads.Post
number_whole = (λ κs a. tt, λ κs a x y v w p q. (p ∙ sym q, refl))

pub two_whole : Whole two.Kinds.ps two.Kinds.r two.Reads.Pre two.Reads.Post
two_whole = (λ κs a. tt, λ κs a x y v w p q. (p ∙ sym q, refl))

pub three_whole : Whole three.Kinds.ps three.Kinds.r three.Reads.Pre three.Reads.Post
three_whole = (λ κs a. tt, λ κs a x y v w p q. (p ∙ sym q, refl))

pub bit_whole : Whole bit.Kinds.ps bit.Kinds.r bit.Reads.Pre bit.Reads.Post
bit_whole = (λ κs a. tt, λ κs a x y v w p q. (p ∙ sym q, refl))
