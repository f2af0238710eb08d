-- The public promise fixes its outcome, since it is an equation of the answer and of both lent lists. Assumes nothing.
use mathlib.Core.Path.{sym, ap, ◌∙◌}
use Rattle.answers.proofs.Promise.{Whole}
use Rattle.events.proofs.parse as parse

pub parse_whole : Whole parse.Kinds.ps parse.Kinds.r parse.Reads.Pre parse.Reads.Post
parse_whole =
    (λ κs a. tt, λ κs a x y v w p q. let e = p ∙ sym q in (ap (λ d. d.out) e, λ i. (tt, ((ap (λ d. d.numbers) e) i, ((ap (λ d. d.bytes) e) i, tt)))))
