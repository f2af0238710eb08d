-- Two outcomes that both meet a public function's promise are the same, and no public function asks anything of its caller.
use mathlib.Core.Path.{refl, sym, ◌∙◌}
use Rattle.answers.proofs.Promise.{Whole}
use Rattle.cid_ring.proofs.Ring.empty as empty
use Rattle.cid_ring.proofs.Ring.slot as slot
use Rattle.cid_ring.proofs.Ring.first as first
use Rattle.cid_ring.proofs.Ring.put as put
use Rattle.cid_ring.proofs.Ring.retire as retire
use Rattle.cid_ring.proofs.Ring.sound as sound

pub empty_whole : Whole empty.Kinds.ps empty.Kinds.r empty.Reads.Pre empty.Reads.Post
empty_whole = (λ κs a. tt, λ κs a x y v w p q. (p ∙ sym q, refl))

pub slot_whole : Whole slot.Kinds.ps slot.Kinds.r slot.Reads.Pre slot.Reads.Post
slot_whole = (λ κs a. tt, λ κs a x y v w p q. (p ∙ sym q, refl))

pub first_whole : Whole first.Kinds.ps first.Kinds.r first.Reads.Pre first.Reads.Post
first_whole = (λ κs a. tt, λ κs a x y v w p q. (p ∙ sym q, refl))

pub put_whole : Whole put.Kinds.ps put.Kinds.r put.Reads.Pre put.Reads.Post
put_whole = (λ κs a. tt, λ κs a x y v w p q. (p ∙ sym q, refl))

pub retire_whole : Whole retire.Kinds.ps retire.Kinds.r retire.Reads.Pre retire.Reads.Post
retire_whole = (λ κs a. tt, λ κs a x y v w p q. (p ∙ sym q, refl))

pub sound_whole : Whole sound.Kinds.ps sound.Kinds.r sound.Reads.Pre sound.Reads.Post
sound_whole = (λ κs a. tt, λ κs a x y v w p q. (p ∙ sym q, refl))
