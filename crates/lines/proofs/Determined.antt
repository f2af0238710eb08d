-- The public promises fix their outcomes: that of `begin`; that of `line`, as the bytes that the part has; and that of `next`, at any source, where what
-- is held says what comes next. What a read brings they leave open. Assumes nothing.
use mathlib.Core.Path.{◌≡◌, refl, sym, ◌∙◌}
use mathlib.Core.List.{List, []}
use mathlib.Core.Bool.{true}
use Prim.Native.Nat.{ℕ}
use mir.Syntax.{Dict}
use contract.Lifetimes.{Lfts}
use contract.BorrowLft.{◌⊑◌, ⊑_static}
use borrow.Fn.Kinds.{Dens}
use denote.RattleType.{RattleType}
use denote.Param.Laws.{Laws}
use Rattle.std.specs.declared.io.traits.Read.{Ghosts}
use Rattle.std.specs.contracts.rt.Stdin as Stdin
use Rattle.std.specs.contracts.fs.File as File
use Rattle.answers.proofs.Promise.{Whole, Open, Fixed, FixedBy}
use Rattle.lines.specs.Lines.{settles, fitted}
use Rattle.lines.proofs.begin as begin
use Rattle.lines.proofs.next as next
use Rattle.lines.proofs.line as line

pub begin_whole : Whole begin.Kinds.ps begin.Kinds.r begin.Reads.Pre begin.Reads.Post
begin_whole = (λ κs a. tt, λ κs a x y v w p q. (p.0 ∙ sym q.0, refl))

pub line_open : Open line.Kinds.ps line.Kinds.r line.Reads.Pre
line_open κs a = tt

pub line_fixed : FixedBy line.Kinds.ps line.Kinds.r (List ℕ) (λ κs x. x.now) line.Reads.Post
line_fixed κs a x y v w p q = (p ∙ sym q, refl)

-- R is the type of the source, with its laws, what it says of the bytes that it has left, and its `read`
module _ (R : RattleType) (laws : Laws R) (reads : Ghosts R.Denot) (dict : Dict) where
  -- no more is asked than the type `&mut R` itself asks: that what a source borrows outlives the borrow of the source
  pub next_asks_no_more : (κs : Lfts 3) (a : Dens κs (next.Kinds.ps R laws)) → κs.1.1.0 ⊑ R.lives → next.Reads.Pre R laws reads dict κs a
  next_asks_no_more κs a h = h

  -- and nothing of a source that borrows nothing
  pub next_open : R.lives ≡ [] → Open (next.Kinds.ps R laws) (next.Kinds.r R laws) (next.Reads.Pre R laws reads dict)
  next_open e κs a = let h : κs.1.1.0 ⊑ R.lives = rw e (⊑_static κs.1.1.0) in h

  pub next_fixed : Fixed (next.Kinds.ps R laws) (next.Kinds.r R laws) (λ κs a x e. (settles a.1.0.now (fitted a.1.1.0) ≡ true) × next.Reads.Post R laws reads dict κs a x e)
  next_fixed κs a x y v w p q =
      let s = p.0 in
      (p.1.0.feed s ∙ sym (q.1.0.feed s), λ i. ((p.1.1.1 s ∙ sym (q.1.1.1 s)) i, ((p.1.0.same s ∙ sym (q.1.0.same s)) i, (tt, tt))))

-- nothing is asked of a call on standard input or on a file, the sources of the programs
pub next_open_stdin : (laws : Laws Stdin.the_row) (reads : Ghosts Stdin.the_row.Denot) (dict : Dict)
    → Open (next.Kinds.ps Stdin.the_row laws) (next.Kinds.r Stdin.the_row laws) (next.Reads.Pre Stdin.the_row laws reads dict)
next_open_stdin laws reads dict = next_open Stdin.the_row laws reads dict refl

pub next_open_file : (laws : Laws File.the_row) (reads : Ghosts File.the_row.Denot) (dict : Dict)
    → Open (next.Kinds.ps File.the_row laws) (next.Kinds.r File.the_row laws) (next.Reads.Pre File.the_row laws reads dict)
next_open_file laws reads dict = next_open File.the_row laws reads dict refl
