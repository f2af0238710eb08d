-- Two outcomes that both meet a public function's promise are the same, as each promise is an equation of answer and memory; and none asks
-- anything of its caller.
use mathlib.Core.Path.{sym, ap, ◌∙◌}
use Rattle.answers.proofs.Promise.{Whole}
use Rattle.pending_acks.proofs.insert_one as insert_one_law
use Rattle.pending_acks.proofs.subtract_below as subtract_below_law

pub insert_one_whole : Whole insert_one_law.Kinds.ps insert_one_law.Kinds.r insert_one_law.Reads.Pre insert_one_law.Reads.Post
insert_one_whole = (λ κs a. tt, λ κs a x y v w p q. let e = p ∙ sym q in (ap (λ d. d.out) e, λ i. ((ap (λ d. d.mem) e) i, v.1)))

pub subtract_below_whole : Whole subtract_below_law.Kinds.ps subtract_below_law.Kinds.r subtract_below_law.Reads.Pre subtract_below_law.Reads.Post
subtract_below_whole = (λ κs a. tt, λ κs a x y v w p q. let e = p ∙ sym q in (ap (λ d. d.out) e, λ i. ((ap (λ d. d.mem) e) i, v.1)))
