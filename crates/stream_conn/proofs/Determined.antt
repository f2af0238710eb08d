-- Each promise is one equation for the result, so two results that meet it are equal.
use mathlib.Core.Path.{refl, sym, ◌∙◌}
use Rattle.answers.proofs.Promise.{Whole}
use Rattle.stream_conn.proofs.Conn.counts as counts
use Rattle.stream_conn.proofs.Conn.with as with
use Rattle.stream_conn.proofs.Conn.admit as admit
use Rattle.stream_conn.proofs.Conn.good as good
use Rattle.stream_conn.proofs.Conn.pay as pay
use Rattle.stream_conn.proofs.Conn.raise as raise
use Rattle.stream_conn.proofs.Conn.release as release
use Rattle.stream_conn.proofs.Conn.unchanged as unchanged
use Rattle.stream_conn.proofs.new as new
use Rattle.stream_conn.proofs.credit as credit
use Rattle.stream_conn.proofs.window as window
use Rattle.stream_conn.proofs.max_streams as max_streams

pub counts_whole : Whole counts.Kinds.ps counts.Kinds.r counts.Reads.Pre counts.Reads.Post
counts_whole = (λ κs a. tt, λ κs a x y v w p q. (p ∙ sym q, refl))

pub with_whole : Whole with.Kinds.ps with.Kinds.r with.Reads.Pre with.Reads.Post
with_whole = (λ κs a. tt, λ κs a x y v w p q. (p ∙ sym q, refl))

pub admit_whole : Whole admit.Kinds.ps admit.Kinds.r admit.Reads.Pre admit.Reads.Post
admit_whole = (λ κs a. tt, λ κs a x y v w p q. (p ∙ sym q, refl))

pub good_whole : Whole good.Kinds.ps good.Kinds.r good.Reads.Pre good.Reads.Post
good_whole = (λ κs a. tt, λ κs a x y v w p q. (p ∙ sym q, refl))

pub pay_whole : Whole pay.Kinds.ps pay.Kinds.r pay.Reads.Pre pay.Reads.Post
pay_whole = (λ κs a. tt, λ κs a x y v w p q. (p ∙ sym q, refl))

pub raise_whole : Whole raise.Kinds.ps raise.Kinds.r raise.Reads.Pre raise.Reads.Post
raise_whole = (λ κs a. tt, λ κs a x y v w p q. (p ∙ sym q, refl))

pub release_whole : Whole release.Kinds.ps release.Kinds.r release.Reads.Pre release.Reads.Post
release_whole = (λ κs a. tt, λ κs a x y v w p q. (p ∙ sym q, refl))

pub unchanged_whole : Whole unchanged.Kinds.ps unchanged.Kinds.r unchanged.Reads.Pre unchanged.Reads.Post
unchanged_whole = (λ κs a. tt, λ κs a x y v w p q. (p ∙ sym q, refl))

pub new_whole : Whole new.Kinds.ps new.Kinds.r new.Reads.Pre new.Reads.Post
new_whole = (λ κs a. tt, λ κs a x y v w p q. (p ∙ sym q, refl))

pub credit_whole : Whole credit.Kinds.ps credit.Kinds.r credit.Reads.Pre credit.Reads.Post
credit_whole = (λ κs a. tt, λ κs a x y v w p q. (p ∙ sym q, refl))

pub window_whole : Whole window.Kinds.ps window.Kinds.r window.Reads.Pre window.Reads.Post
window_whole = (λ κs a. tt, λ κs a x y v w p q. (p ∙ sym q, refl))

pub max_streams_whole : Whole max_streams.Kinds.ps max_streams.Kinds.r max_streams.Reads.Pre max_streams.Reads.Post
max_streams_whole = (λ κs a. tt, λ κs a x y v w p q. (p ∙ sym q, refl))
