-- Each promise fixes its outcome, the buffer or the number, so two outcomes that meet it are the same. Assumes nothing.
use mathlib.Core.Path.{refl, sym, ◌∙◌}
use Rattle.answers.proofs.Promise.{Whole}
use Rattle.big_endian.proofs.put as put
use Rattle.big_endian.proofs.get as get

pub put_whole : Whole put.Kinds.ps put.Kinds.r put.Reads.Pre put.Reads.Post
put_whole = (λ κs a. tt, λ κs a x y v w p q. (refl, λ i. ((p ∙ sym q) i, v.1)))

pub get_whole : Whole get.Kinds.ps get.Kinds.r get.Reads.Pre get.Reads.Post
get_whole = (λ κs a. tt, λ κs a x y v w p q. (p ∙ sym q, refl))
