-- Each public promise fixes its outcome, and asks nothing: it is an equation of the result.
use mathlib.Core.Path.{refl, sym, ◌∙◌}
use Rattle.answers.proofs.Promise.{Whole}
use Rattle.black_hole.proofs.BlackHoleDetector.new as new
use Rattle.black_hole.proofs.BlackHoleDetector.good as good
use Rattle.black_hole.proofs.BlackHoleDetector.on_probe_acked as on_probe_acked
use Rattle.black_hole.proofs.BlackHoleDetector.on_non_probe_acked as on_non_probe_acked
use Rattle.black_hole.proofs.BlackHoleDetector.on_non_probe_lost as on_non_probe_lost
use Rattle.black_hole.proofs.BlackHoleDetector.black_hole_detected as black_hole_detected

pub new_whole : Whole new.Kinds.ps new.Kinds.r new.Reads.Pre new.Reads.Post
new_whole = (λ κs a. tt, λ κs a x y v w p q. (p ∙ sym q, refl))

pub good_whole : Whole good.Kinds.ps good.Kinds.r good.Reads.Pre good.Reads.Post
good_whole = (λ κs a. tt, λ κs a x y v w p q. (p ∙ sym q, refl))

pub on_probe_acked_whole : Whole on_probe_acked.Kinds.ps on_probe_acked.Kinds.r on_probe_acked.Reads.Pre on_probe_acked.Reads.Post
on_probe_acked_whole = (λ κs a. tt, λ κs a x y v w p q. (p ∙ sym q, refl))

pub on_non_probe_acked_whole : Whole on_non_probe_acked.Kinds.ps on_non_probe_acked.Kinds.r on_non_probe_acked.Reads.Pre on_non_probe_acked.Reads.Post
on_non_probe_acked_whole = (λ κs a. tt, λ κs a x y v w p q. (p ∙ sym q, refl))

pub on_non_probe_lost_whole : Whole on_non_probe_lost.Kinds.ps on_non_probe_lost.Kinds.r on_non_probe_lost.Reads.Pre on_non_probe_lost.Reads.Post
on_non_probe_lost_whole = (λ κs a. tt, λ κs a x y v w p q. (p ∙ sym q, refl))

pub black_hole_detected_whole : Whole black_hole_detected.Kinds.ps black_hole_detected.Kinds.r black_hole_detected.Reads.Pre black_hole_detected.Reads.Post
black_hole_detected_whole = (λ κs a. tt, λ κs a x y v w p q. (p ∙ sym q, refl))
