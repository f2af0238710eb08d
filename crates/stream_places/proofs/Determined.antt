-- Each promise is one equation for the outcome and the lent words, so two outcomes that meet it are equal.
use mathlib.Core.Path.{sym, ap, ◌∙◌}
use Rattle.answers.proofs.Promise.{Whole}
use Rattle.stream_places.proofs.free as free
use Rattle.stream_places.proofs.want as want
use Rattle.stream_places.proofs.open as opens
use Rattle.stream_places.proofs.rejected as rejected

pub free_whole : Whole free.Kinds.ps free.Kinds.r free.Reads.Pre free.Reads.Post
free_whole = (λ κs a. tt, λ κs a x y v w p q. let e = p ∙ sym q in (ap (λ d. d.out) e, λ i. (tt, ((ap (λ d. d.words) e) i, v.1.1))))

pub want_whole : Whole want.Kinds.ps want.Kinds.r want.Reads.Pre want.Reads.Post
want_whole = (λ κs a. tt, λ κs a x y v w p q. let e = p ∙ sym q in (ap (λ d. d.out) e, λ i. (tt, ((ap (λ d. d.words) e) i, v.1.1))))

pub open_whole : Whole opens.Kinds.ps opens.Kinds.r opens.Reads.Pre opens.Reads.Post
open_whole = (λ κs a. tt, λ κs a x y v w p q. let e = p ∙ sym q in (ap (λ d. d.out) e, λ i. (tt, ((ap (λ d. d.words) e) i, v.1.1))))

pub rejected_whole : Whole rejected.Kinds.ps rejected.Kinds.r rejected.Reads.Pre rejected.Reads.Post
rejected_whole = (λ κs a. tt, λ κs a x y v w p q. let e = p ∙ sym q in (ap (λ d. d.out) e, λ i. (tt, ((ap (λ d. d.words) e) i, v.1.1))))
