-- Two outcomes that meet an inner function's promise, of arguments that its callers keep in good form, are the same: the result and the lent lists.
-- Assumes nothing.
use mathlib.Core.Path.{sym, ap, ◌∙◌}
use Rattle.answers.proofs.Promise.{Fixed}
use Rattle.range_many.proofs.merge as merge

pub merge_fixed : Fixed merge.Kinds.ps merge.Kinds.r merge.Reads.Post
merge_fixed = λ κs a x y v w p q. let e = p ∙ sym q in (ap (λ d. d.out) e, λ i. ((ap (λ d. d.mem) e) i, v.1))
