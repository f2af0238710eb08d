-- Each public promise fixes its outcome, since it is an equation of all that is handed back and of the lent buffer. Assumes nothing.
use mathlib.Core.Path.{refl, sym, ap, ◌∙◌}
use mathlib.Core.List.{List}
use Prim.Native.Nat.{ℕ}
use Rattle.answers.proofs.Promise.{Whole, Open, FixedBy}
use Rattle.text.proofs.word_at as word_at
use Rattle.text.proofs.is_end as is_end_law
use Rattle.text.proofs.without_note as without_note
use Rattle.text.proofs.same as same
use Rattle.text.proofs.decimal as decimal
use Rattle.text.proofs.number_at as number_at
use Rattle.text.proofs.unhex as unhex
use Rattle.text.proofs.bytes_at as bytes_at

pub word_at_whole : Whole word_at.Kinds.ps word_at.Kinds.r word_at.Reads.Pre word_at.Reads.Post
word_at_whole = (λ κs a. tt, λ κs a x y v w p q. (p.0 ∙ sym q.0, refl))

pub is_end_whole : Whole is_end_law.Kinds.ps is_end_law.Kinds.r is_end_law.Reads.Pre is_end_law.Reads.Post
is_end_whole = (λ κs a. tt, λ κs a x y v w p q. (p ∙ sym q, refl))

-- the part of the line that is handed back, as the list that it is
pub without_note_whole : FixedBy without_note.Kinds.ps without_note.Kinds.r (List ℕ) (λ κs x. x.now) without_note.Reads.Post
without_note_whole κs a x y v w p q = (p ∙ sym q, refl)

pub without_note_open : Open without_note.Kinds.ps without_note.Kinds.r without_note.Reads.Pre
without_note_open κs a = tt

pub same_whole : Whole same.Kinds.ps same.Kinds.r same.Reads.Pre same.Reads.Post
same_whole = (λ κs a. tt, λ κs a x y v w p q. (p ∙ sym q, refl))

pub decimal_whole : Whole decimal.Kinds.ps decimal.Kinds.r decimal.Reads.Pre decimal.Reads.Post
decimal_whole = (λ κs a. tt, λ κs a x y v w p q. (p ∙ sym q, refl))

pub number_at_whole : Whole number_at.Kinds.ps number_at.Kinds.r number_at.Reads.Pre number_at.Reads.Post
number_at_whole = (λ κs a. tt, λ κs a x y v w p q. (p ∙ sym q, refl))

pub unhex_whole : Whole unhex.Kinds.ps unhex.Kinds.r unhex.Reads.Pre unhex.Reads.Post
unhex_whole =
    (λ κs a. tt, λ κs a x y v w p q. let e = p ∙ sym q in (ap (λ d. d.out) e, λ i. (tt, ((ap (λ d. d.mem) e) i, (tt, tt)))))

pub bytes_at_whole : Whole bytes_at.Kinds.ps bytes_at.Kinds.r bytes_at.Reads.Pre bytes_at.Reads.Post
bytes_at_whole =
    (λ κs a. tt, λ κs a x y v w p q. let e = p ∙ sym q in (ap (λ d. d.out) e, λ i. (tt, (tt, ((ap (λ d. d.mem) e) i, (tt, tt))))))
