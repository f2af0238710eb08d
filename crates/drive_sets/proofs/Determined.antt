-- Two outcomes that both meet a public function's promise are the same, as each promise is an equation of answer and lent memory; and none asks
-- anything of its caller. Assumes nothing.
use mathlib.Core.Path.{refl, sym, ap, ◌∙◌}
use Rattle.answers.proofs.Promise.{Whole}
use Rattle.drive_sets.proofs.begin as begin
use Rattle.drive_sets.proofs.note as note
use Rattle.drive_sets.proofs.empty as empty
use Rattle.drive_sets.proofs.refused as refused
use Rattle.drive_sets.proofs.record as record_event
use Rattle.drive_sets.proofs.set as set
use Rattle.drive_sets.proofs.renew as renew

pub begin_whole : Whole begin.Kinds.ps begin.Kinds.r begin.Reads.Pre begin.Reads.Post
begin_whole = (λ κs a. tt, λ κs a x y v w p q. (p ∙ sym q, refl))

pub note_whole : Whole note.Kinds.ps note.Kinds.r note.Reads.Pre note.Reads.Post
note_whole = (λ κs a. tt, λ κs a x y v w p q. (p ∙ sym q, refl))

pub empty_whole : Whole empty.Kinds.ps empty.Kinds.r empty.Reads.Pre empty.Reads.Post
empty_whole = (λ κs a. tt, λ κs a x y v w p q. (p ∙ sym q, refl))

pub refused_whole : Whole refused.Kinds.ps refused.Kinds.r refused.Reads.Pre refused.Reads.Post
refused_whole = (λ κs a. tt, λ κs a x y v w p q. (p ∙ sym q, refl))

pub record_whole : Whole record_event.Kinds.ps record_event.Kinds.r record_event.Reads.Pre record_event.Reads.Post
record_whole = (λ κs a. tt, λ κs a x y v w p q. let e = p ∙ sym q in (ap (λ d. d.out) e, λ i. (tt, (tt, ((ap (λ d. d.mem) e) i, (tt, tt))))))

pub set_whole : Whole set.Kinds.ps set.Kinds.r set.Reads.Pre set.Reads.Post
set_whole = (
  λ κs a. tt,
  λ κs a x y v w p q. let e = p ∙ sym q in (ap (λ d. d.out) e, λ i. (tt, (tt, (tt, ((ap (λ d. d.mem) e) i, (tt, ((ap (λ d. d.second) e) i, tt))))))),
)

pub renew_whole : Whole renew.Kinds.ps renew.Kinds.r renew.Reads.Pre renew.Reads.Post
renew_whole = (
  λ κs a. tt,
  λ κs a x y v w p q. let e = p ∙ sym q in (ap (λ d. d.out) e, λ i. (tt, (tt, ((ap (λ d. d.mem) e) i, (tt, ((ap (λ d. d.second) e) i, tt)))))),
)
