-- Two outcomes that both meet a public function's promise are the same, as each promise is an equation; and none asks anything of its caller.
-- So `insert` leaves nothing open of the window that it hands back, its private words included.
use mathlib.Core.Path.{refl, sym, ◌∙◌}
use Rattle.answers.proofs.Promise.{Whole}
use Rattle.dedup.proofs.Dedup.new as new
use Rattle.dedup.proofs.Dedup.next as next
use Rattle.dedup.proofs.Dedup.insert as insert

pub new_whole : Whole new.Kinds.ps new.Kinds.r new.Reads.Pre new.Reads.Post
new_whole = (λ κs a. tt, λ κs a x y v w p q. (p ∙ sym q, refl))

pub next_whole : Whole next.Kinds.ps next.Kinds.r next.Reads.Pre next.Reads.Post
next_whole = (λ κs a. tt, λ κs a x y v w p q. (p ∙ sym q, refl))

pub insert_whole : Whole insert.Kinds.ps insert.Kinds.r insert.Reads.Pre insert.Reads.Post
insert_whole = (λ κs a. tt, λ κs a x y v w p q. (p ∙ sym q, refl))
