-- `merge` meets its contract: the size is known before anything is written, and after the squeeze the ranges only become more.
use Rattle.range_many.proofs.Laws.{ties_most, merge_none, merge_full, merge_ready, merge_done}
use mathlib.Core.Path.{◌≡◌, sym, ◌∙◌}
use mathlib.Core.Bool.{false}
use Rattle.range_list.specs.Ranges.{read}
use Rattle.range_many.specs.Many.{idle_all}
use native.Mathlib.Omega.{arith}
use Rattle.range_list.proofs.Sound.{Formed, formed}
use Rattle.range_many.proofs.merge.Goals as goal
use Rattle.range_many.proofs.merge.Goals.{Else-idle_all, Start}

formed-at : (c : Start) → Formed c.args.list.now c.args.count
formed-at c = formed c.args.list.now c.args.count c.requires.0

other_at : (c : Start) → Formed c.args.other.now c.args.n
other_at c = formed c.args.other.now c.args.n c.requires.1

busy : (c : Else-idle_all)
    → false ≡ idle_all c.args.way (read c.args.list.now 0 c.args.count) (read c.args.other.now 0 c.args.n)
busy c = sym c.if-idle_all.false ∙ c.idle_all.ensures

pub returns-then-idle_all : goal.returns-then-idle_all
returns-then-idle_all c =
    merge_none _ _ _ _ _ (formed-at (goal.at.returns-then-idle_all c).Start) (other_at (goal.at.returns-then-idle_all c).Start) (sym c.if-idle_all.true ∙ c.idle_all.ensures)

pub overflow_add-size : goal.overflow_add-size
overflow_add-size c = let w = formed-at (goal.at.overflow_add-size c).Start in let v = other_at (goal.at.overflow_add-size c).Start in omega arith

pub overflow_sub-size : goal.overflow_sub-size
overflow_sub-size c =
    let a = c.args in
    omega (arith, c.fewer_all.ensures, ties_most a.way a.list.now a.count a.other.now a.n (formed-at (goal.at.overflow_sub-size c).Start) (other_at (goal.at.overflow_sub-size c).Start))

pub returns-then-list-size : goal.returns-then-list-size
returns-then-list-size c =
    merge_full _ _ _ _ _ (formed-at (goal.at.returns-then-list-size c).Start) (other_at (goal.at.returns-then-list-size c).Start) (busy (goal.at.returns-then-list-size c).Else-idle_all) _ c.fewer_all.ensures c.if-list-size.true

pub edit_all-requires : goal.edit_all-requires
edit_all-requires c =
    merge_ready _ _ _ _ _ (formed-at (goal.at.edit_all-requires c).Start) (other_at (goal.at.edit_all-requires c).Start) (busy (goal.at.edit_all-requires c).Else-idle_all) _ c.fewer_all.ensures (omega arith) _ _ c.squeeze-k.ensures

pub returns : goal.returns
returns c =
    merge_done _ _ _ _ _ (formed-at (goal.at.returns c).Start) (other_at (goal.at.returns c).Start) (busy (goal.at.returns c).Else-idle_all) _ c.fewer_all.ensures (omega arith) _ _ c.squeeze-k.ensures _ c.edit_all.ensures
