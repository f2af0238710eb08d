-- Two outcomes that meet an inner function's promise, of arguments that its callers keep in good form, are the same: the result and the lent lists.
-- Assumes nothing.
use mathlib.Core.Path.{refl, sym, ap, ◌∙◌}
use Rattle.answers.proofs.Promise.{Fixed}
use Rattle.range_edit.proofs.passed as passed
use Rattle.range_edit.proofs.grow as grow
use Rattle.range_edit.proofs.covered as covered
use Rattle.range_edit.proofs.put as put
use Rattle.range_edit.proofs.cut_at as cut_at
use Rattle.range_edit.proofs.take_out as take_out
use Rattle.range_edit.proofs.put_reporting as put_reporting

pub passed_fixed : Fixed passed.Kinds.ps passed.Kinds.r passed.Reads.Post
passed_fixed = λ κs a x y v w p q. (p ∙ sym q, refl)

pub grow_fixed : Fixed grow.Kinds.ps grow.Kinds.r grow.Reads.Post
grow_fixed = λ κs a x y v w p q. (p ∙ sym q, refl)

pub covered_fixed : Fixed covered.Kinds.ps covered.Kinds.r covered.Reads.Post
covered_fixed = λ κs a x y v w p q. (p ∙ sym q, refl)

pub put_fixed : Fixed put.Kinds.ps put.Kinds.r put.Reads.Post
put_fixed = λ κs a x y v w p q. let e = p ∙ sym q in (ap (λ d. d.out) e, λ i. ((ap (λ d. d.mem) e) i, v.1))

pub cut_at_fixed : Fixed cut_at.Kinds.ps cut_at.Kinds.r cut_at.Reads.Post
cut_at_fixed = λ κs a x y v w p q. (p ∙ sym q, refl)

pub take_out_fixed : Fixed take_out.Kinds.ps take_out.Kinds.r take_out.Reads.Post
take_out_fixed = λ κs a x y v w p q. let e = p ∙ sym q in (ap (λ d. d.out) e, λ i. ((ap (λ d. d.mem) e) i, v.1))

pub put_reporting_fixed : Fixed put_reporting.Kinds.ps put_reporting.Kinds.r put_reporting.Reads.Post
put_reporting_fixed = λ κs a x y v w p q. let e = p ∙ sym q in (ap (λ d. d.out) e, λ i. ((ap (λ d. d.mem) e) i, (tt, (tt, (tt, ((ap (λ d. d.parts) e) i, tt))))))
