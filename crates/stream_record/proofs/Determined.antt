-- Each promise is one equation for the step, so two results that meet it are equal.
use mathlib.Core.Path.{refl, sym, ◌∙◌}
use Rattle.answers.proofs.Promise.{Whole}
use Rattle.stream_record.proofs.Stream.new as new
use Rattle.stream_record.proofs.Stream.data as took
use Rattle.stream_record.proofs.Stream.reset as reset
use Rattle.stream_record.proofs.Stream.stop as stop
use Rattle.stream_record.proofs.Stream.read as read
use Rattle.stream_record.proofs.Stream.seen as seen
use Rattle.stream_record.proofs.Stream.announce as announce
use Rattle.stream_record.proofs.Stream.sent as sent

pub new_whole : Whole new.Kinds.ps new.Kinds.r new.Reads.Pre new.Reads.Post
new_whole = (λ κs a. tt, λ κs a x y v w p q. (p ∙ sym q, refl))

pub data_whole : Whole took.Kinds.ps took.Kinds.r took.Reads.Pre took.Reads.Post
data_whole = (λ κs a. tt, λ κs a x y v w p q. (p ∙ sym q, refl))

pub reset_whole : Whole reset.Kinds.ps reset.Kinds.r reset.Reads.Pre reset.Reads.Post
reset_whole = (λ κs a. tt, λ κs a x y v w p q. (p ∙ sym q, refl))

pub stop_whole : Whole stop.Kinds.ps stop.Kinds.r stop.Reads.Pre stop.Reads.Post
stop_whole = (λ κs a. tt, λ κs a x y v w p q. (p ∙ sym q, refl))

pub read_whole : Whole read.Kinds.ps read.Kinds.r read.Reads.Pre read.Reads.Post
read_whole = (λ κs a. tt, λ κs a x y v w p q. (p ∙ sym q, refl))

pub seen_whole : Whole seen.Kinds.ps seen.Kinds.r seen.Reads.Pre seen.Reads.Post
seen_whole = (λ κs a. tt, λ κs a x y v w p q. (p ∙ sym q, refl))

pub announce_whole : Whole announce.Kinds.ps announce.Kinds.r announce.Reads.Pre announce.Reads.Post
announce_whole = (λ κs a. tt, λ κs a x y v w p q. (p ∙ sym q, refl))

pub sent_whole : Whole sent.Kinds.ps sent.Kinds.r sent.Reads.Pre sent.Reads.Post
sent_whole = (λ κs a. tt, λ κs a x y v w p q. (p ∙ sym q, refl))
