-- Each public promise fixes its outcome, and asks nothing: it is an equation of the result.
use mathlib.Core.Path.{refl, sym, ◌∙◌}
use Rattle.answers.proofs.Promise.{Whole}
use Rattle.mtu_search.proofs.SearchState.new as new
use Rattle.mtu_search.proofs.SearchState.good as good
use Rattle.mtu_search.proofs.SearchState.poll as poll
use Rattle.mtu_search.proofs.SearchState.on_acked as on_acked
use Rattle.mtu_search.proofs.SearchState.on_lost as on_lost

pub new_whole : Whole new.Kinds.ps new.Kinds.r new.Reads.Pre new.Reads.Post
new_whole = (λ κs a. tt, λ κs a x y v w p q. (p ∙ sym q, refl))

pub good_whole : Whole good.Kinds.ps good.Kinds.r good.Reads.Pre good.Reads.Post
good_whole = (λ κs a. tt, λ κs a x y v w p q. (p ∙ sym q, refl))

pub poll_whole : Whole poll.Kinds.ps poll.Kinds.r poll.Reads.Pre poll.Reads.Post
poll_whole = (λ κs a. tt, λ κs a x y v w p q. (p ∙ sym q, refl))

pub on_acked_whole : Whole on_acked.Kinds.ps on_acked.Kinds.r on_acked.Reads.Pre on_acked.Reads.Post
on_acked_whole = (λ κs a. tt, λ κs a x y v w p q. (p ∙ sym q, refl))

pub on_lost_whole : Whole on_lost.Kinds.ps on_lost.Kinds.r on_lost.Reads.Pre on_lost.Reads.Post
on_lost_whole = (λ κs a. tt, λ κs a x y v w p q. (p ∙ sym q, refl))
