-- Two outcomes that both meet a public function's promise are the same, and no public function asks anything of its caller: each promise is one equation.
use mathlib.Core.Path.{refl, sym, ap, ◌∙◌}
use Rattle.answers.proofs.Promise.{Whole}
use Rattle.packet_number.proofs.new as new
use Rattle.packet_number.proofs.encode as encode
use Rattle.packet_number.proofs.expand as expand

pub new_whole : Whole new.Kinds.ps new.Kinds.r new.Reads.Pre new.Reads.Post
new_whole = (λ κs a. tt, λ κs a x y v w p q. (p ∙ sym q, refl))

pub encode_whole : Whole encode.Kinds.ps encode.Kinds.r encode.Reads.Pre encode.Reads.Post
encode_whole = (λ κs a. tt, λ κs a x y v w p q. let e = p ∙ sym q in (ap (λ d. d.out) e, λ i. ((ap (λ d. d.mem) e) i, v.1)))

pub expand_whole : Whole expand.Kinds.ps expand.Kinds.r expand.Reads.Pre expand.Reads.Post
expand_whole = (λ κs a. tt, λ κs a x y v w p q. (p ∙ sym q, refl))
