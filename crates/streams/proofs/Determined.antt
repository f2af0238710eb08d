-- Each promise is one equation for the outcome and the lent words, so two outcomes that meet it are equal.
use mathlib.Core.Path.{refl, sym, ap, ◌∙◌}
use Rattle.answers.proofs.Promise.{Whole}
use Rattle.streams.proofs.data as took
use Rattle.streams.proofs.reset as reset
use Rattle.streams.proofs.stop as stop
use Rattle.streams.proofs.read as read
use Rattle.streams.proofs.seen as seen
use Rattle.streams.proofs.announce as announce
use Rattle.streams.proofs.sent as sent
use Rattle.streams.proofs.look as look

pub data_whole : Whole took.Kinds.ps took.Kinds.r took.Reads.Pre took.Reads.Post
data_whole = (λ κs a. tt, λ κs a x y v w p q. let e = p ∙ sym q in (ap (λ d. d.done) e, λ i. (tt, ((ap (λ d. d.words) e) i, v.1.1))))

pub reset_whole : Whole reset.Kinds.ps reset.Kinds.r reset.Reads.Pre reset.Reads.Post
reset_whole = (λ κs a. tt, λ κs a x y v w p q. let e = p ∙ sym q in (ap (λ d. d.done) e, λ i. (tt, ((ap (λ d. d.words) e) i, v.1.1))))

pub stop_whole : Whole stop.Kinds.ps stop.Kinds.r stop.Reads.Pre stop.Reads.Post
stop_whole = (λ κs a. tt, λ κs a x y v w p q. let e = p ∙ sym q in (ap (λ d. d.done) e, λ i. (tt, ((ap (λ d. d.words) e) i, v.1.1))))

pub read_whole : Whole read.Kinds.ps read.Kinds.r read.Reads.Pre read.Reads.Post
read_whole = (λ κs a. tt, λ κs a x y v w p q. let e = p ∙ sym q in (ap (λ d. d.done) e, λ i. (tt, ((ap (λ d. d.words) e) i, v.1.1))))

pub seen_whole : Whole seen.Kinds.ps seen.Kinds.r seen.Reads.Pre seen.Reads.Post
seen_whole = (λ κs a. tt, λ κs a x y v w p q. let e = p ∙ sym q in (ap (λ d. d.done) e, λ i. (tt, ((ap (λ d. d.words) e) i, v.1.1))))

pub announce_whole : Whole announce.Kinds.ps announce.Kinds.r announce.Reads.Pre announce.Reads.Post
announce_whole = (λ κs a. tt, λ κs a x y v w p q. let e = p ∙ sym q in (ap (λ d. d.done) e, λ i. (tt, ((ap (λ d. d.words) e) i, v.1.1))))

pub sent_whole : Whole sent.Kinds.ps sent.Kinds.r sent.Reads.Pre sent.Reads.Post
sent_whole = (λ κs a. tt, λ κs a x y v w p q. let e = p ∙ sym q in (ap (λ d. d.done) e, λ i. (tt, ((ap (λ d. d.words) e) i, v.1.1))))

pub look_whole : Whole look.Kinds.ps look.Kinds.r look.Reads.Pre look.Reads.Post
look_whole = (λ κs a. tt, λ κs a x y v w p q. (p ∙ sym q, refl))
