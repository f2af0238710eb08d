-- Two outcomes that both meet a public function's promise are the same, and no public function asks anything of its caller.
use mathlib.Core.Path.{refl, sym, ◌∙◌}
use Rattle.answers.proofs.Promise.{Whole}
use Rattle.cid_queue.proofs.CidQueue.new as new
use Rattle.cid_queue.proofs.CidQueue.insert as insert
use Rattle.cid_queue.proofs.CidQueue.next as next
use Rattle.cid_queue.proofs.CidQueue.update_initial_cid as update_initial_cid
use Rattle.cid_queue.proofs.CidQueue.active as active
use Rattle.cid_queue.proofs.CidQueue.active_seq as active_seq_law
use Rattle.cid_queue.proofs.CidQueue.is_reset as is_reset
use Rattle.cid_queue.proofs.CidQueue.entry as entry

pub new_whole : Whole new.Kinds.ps new.Kinds.r new.Reads.Pre new.Reads.Post
new_whole = (λ κs a. tt, λ κs a x y v w p q. (p ∙ sym q, refl))

pub insert_whole : Whole insert.Kinds.ps insert.Kinds.r insert.Reads.Pre insert.Reads.Post
insert_whole = (λ κs a. tt, λ κs a x y v w p q. (p ∙ sym q, refl))

pub next_whole : Whole next.Kinds.ps next.Kinds.r next.Reads.Pre next.Reads.Post
next_whole = (λ κs a. tt, λ κs a x y v w p q. (p ∙ sym q, refl))

pub update_initial_cid_whole : Whole update_initial_cid.Kinds.ps update_initial_cid.Kinds.r update_initial_cid.Reads.Pre update_initial_cid.Reads.Post
update_initial_cid_whole = (λ κs a. tt, λ κs a x y v w p q. (p ∙ sym q, refl))

pub active_whole : Whole active.Kinds.ps active.Kinds.r active.Reads.Pre active.Reads.Post
active_whole = (λ κs a. tt, λ κs a x y v w p q. (p ∙ sym q, refl))

pub active_seq_whole : Whole active_seq_law.Kinds.ps active_seq_law.Kinds.r active_seq_law.Reads.Pre active_seq_law.Reads.Post
active_seq_whole = (λ κs a. tt, λ κs a x y v w p q. (p ∙ sym q, refl))

pub is_reset_whole : Whole is_reset.Kinds.ps is_reset.Kinds.r is_reset.Reads.Pre is_reset.Reads.Post
is_reset_whole = (λ κs a. tt, λ κs a x y v w p q. (p ∙ sym q, refl))

pub entry_whole : Whole entry.Kinds.ps entry.Kinds.r entry.Reads.Pre entry.Reads.Post
entry_whole = (λ κs a. tt, λ κs a x y v w p q. (p ∙ sym q, refl))
