-- Each public promise fixes its outcome, since it is an equation of the answer and of the whole buffer. Assumes nothing.
use mathlib.Core.Path.{sym, ap, ◌∙◌}
use Rattle.answers.proofs.Promise.{Whole}
use Rattle.print.proofs.text as text
use Rattle.print.proofs.number as number
use Rattle.print.proofs.range as range
use Rattle.print.proofs.hex as hex

pub text_whole : Whole text.Kinds.ps text.Kinds.r text.Reads.Pre text.Reads.Post
text_whole = (λ κs a. tt, λ κs a x y v w p q. let e = p ∙ sym q in (ap (λ d. d.out) e, λ i. ((ap (λ d. d.mem) e) i, v.1)))

pub number_whole : Whole number.Kinds.ps number.Kinds.r number.Reads.Pre number.Reads.Post
number_whole = (λ κs a. tt, λ κs a x y v w p q. let e = p ∙ sym q in (ap (λ d. d.out) e, λ i. ((ap (λ d. d.mem) e) i, v.1)))

pub range_whole : Whole range.Kinds.ps range.Kinds.r range.Reads.Pre range.Reads.Post
range_whole = (λ κs a. tt, λ κs a x y v w p q. let e = p ∙ sym q in (ap (λ d. d.out) e, λ i. ((ap (λ d. d.mem) e) i, v.1)))

pub hex_whole : Whole hex.Kinds.ps hex.Kinds.r hex.Reads.Pre hex.Reads.Post
hex_whole = (λ κs a. tt, λ κs a x y v w p q. let e = p ∙ sym q in (ap (λ d. d.out) e, λ i. ((ap (λ d. d.mem) e) i, v.1)))
