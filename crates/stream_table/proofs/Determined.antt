-- Each promise is one equation for the result and the lent words, so two outcomes that meet it are equal.
use mathlib.Core.Path.{refl, sym, ap, ◌∙◌}
use Rattle.answers.proofs.Promise.{Whole}
use Rattle.stream_table.proofs.count_one as count_one
use Rattle.stream_table.proofs.good as good
use Rattle.stream_table.proofs.sound as sound
use Rattle.stream_table.proofs.enter as enter
use Rattle.stream_table.proofs.has as has
use Rattle.stream_table.proofs.put as put
use Rattle.stream_table.proofs.insert as insert
use Rattle.stream_table.proofs.remove as remove
use Rattle.stream_table.proofs.strip as strip

pub count_one_whole : Whole count_one.Kinds.ps count_one.Kinds.r count_one.Reads.Pre count_one.Reads.Post
count_one_whole = (λ κs a. tt, λ κs a x y v w p q. (p ∙ sym q, refl))

pub good_whole : Whole good.Kinds.ps good.Kinds.r good.Reads.Pre good.Reads.Post
good_whole = (λ κs a. tt, λ κs a x y v w p q. (p ∙ sym q, refl))

pub sound_whole : Whole sound.Kinds.ps sound.Kinds.r sound.Reads.Pre sound.Reads.Post
sound_whole = (λ κs a. tt, λ κs a x y v w p q. (p ∙ sym q, refl))

pub enter_whole : Whole enter.Kinds.ps enter.Kinds.r enter.Reads.Pre enter.Reads.Post
enter_whole = (λ κs a. tt, λ κs a x y v w p q. (p ∙ sym q, refl))

pub has_whole : Whole has.Kinds.ps has.Kinds.r has.Reads.Pre has.Reads.Post
has_whole = (λ κs a. tt, λ κs a x y v w p q. (p ∙ sym q, refl))

pub put_whole : Whole put.Kinds.ps put.Kinds.r put.Reads.Pre put.Reads.Post
put_whole = (λ κs a. tt, λ κs a x y v w p q. (refl, λ i. ((p ∙ sym q) i, v.1)))

pub insert_whole : Whole insert.Kinds.ps insert.Kinds.r insert.Reads.Pre insert.Reads.Post
insert_whole = (λ κs a. tt, λ κs a x y v w p q. (refl, λ i. ((p ∙ sym q) i, v.1)))

pub remove_whole : Whole remove.Kinds.ps remove.Kinds.r remove.Reads.Pre remove.Reads.Post
remove_whole = (λ κs a. tt, λ κs a x y v w p q. (refl, λ i. ((p ∙ sym q) i, v.1)))

pub strip_whole : Whole strip.Kinds.ps strip.Kinds.r strip.Reads.Pre strip.Reads.Post
strip_whole = (λ κs a. tt, λ κs a x y v w p q. let e = p ∙ sym q in (ap (λ d. d.out) e, λ i. (tt, ((ap (λ d. d.words) e) i, v.1.1))))
