-- `put` meets its contract: the place and what touches are found, and an insert is the splice there.
-- what is known after each call
use mathlib.Core.Path.{sym, ◌∙◌}
use native.Mathlib.Omega.{arith}
use Rattle.range_list.proofs.Sound.{Formed, formed}
use Rattle.range_edit.proofs.Insert.{Passed, passed, Reached, reached, puts_none, puts_full, puts_one}
use Rattle.range_edit.proofs.put.Goals as goal
use Rattle.range_edit.proofs.put.Goals.{After-grow-hi, After-passed-lo, Start}

formed-at : (c : Start) → Formed c.args.list.now c.args.count
formed-at c = formed c.args.list.now c.args.count c.requires.2

passed-at : (c : After-passed-lo) → Passed c.args.list.now c.args.count c.args.s c.passed-lo.result
passed-at c = passed _ _ _ _ c.passed-lo.ensures

reached-at : (c : After-grow-hi)
    → Reached c.args.list.now c.args.count c.args.s c.args.e c.passed-lo.result c.grow-hi.result
reached-at c = reached _ _ _ _ _ _ (formed c.args.list.now c.args.count c.requires.2) (passed _ _ _ _ c.passed-lo.ensures) c.grow-hi.ensures

pub passed-lo-requires : goal.passed-lo-requires
passed-lo-requires c = c.requires.2

pub covered-requires : goal.covered-requires
covered-requires c = ((passed-at (goal.at.covered-requires c).After-passed-lo).low, (formed-at (goal.at.covered-requires c).Start).room)

pub returns-then-covered : goal.returns-then-covered
returns-then-covered c =
    puts_none _ _ _ _ c.requires.0 (formed-at (goal.at.returns-then-covered c).Start) _ (passed-at (goal.at.returns-then-covered c).After-passed-lo) (sym c.if-covered.true ∙ c.covered.ensures)

pub grow-hi-requires : goal.grow-hi-requires
grow-hi-requires c = ((passed-at (goal.at.grow-hi-requires c).After-passed-lo).low, (formed-at (goal.at.grow-hi-requires c).Start).room)

pub overflow_add-n : goal.overflow_add-n
overflow_add-n c = let p = passed-at (goal.at.overflow_add-n c).After-passed-lo in let w = formed-at (goal.at.overflow_add-n c).Start in omega arith

pub overflow_sub-n : goal.overflow_sub-n
overflow_sub-n c = (reached-at (goal.at.overflow_sub-n c).After-grow-hi).within

pub overflow_add-n-2 : goal.overflow_add-n-2
overflow_add-n-2 c =
    let p = passed-at (goal.at.overflow_add-n-2 c).After-passed-lo in let w = formed-at (goal.at.overflow_add-n-2 c).Start in let r = reached-at (goal.at.overflow_add-n-2 c).After-grow-hi in omega arith

pub returns-then-list-n : goal.returns-then-list-n
returns-then-list-n c =
    puts_full _ _ _ _ c.requires.0 (formed-at (goal.at.returns-then-list-n c).Start) _ (passed-at (goal.at.returns-then-list-n c).After-passed-lo) (sym c.if-covered.false ∙ c.covered.ensures) c.grow-hi.result (reached-at (goal.at.returns-then-list-n c).After-grow-hi) c.if-list-n.true

pub splice_one-requires : goal.splice_one-requires
splice_one-requires c =
    let r = reached-at (goal.at.splice_one-requires c).After-grow-hi in
    (r.above, r.within, (formed-at (goal.at.splice_one-requires c).Start).room, c.if-list-n.false)

pub returns : goal.returns
returns c =
    puts_one _ _ _ _ c.requires.0 (formed-at (goal.at.returns c).Start) _ (passed-at (goal.at.returns c).After-passed-lo) (sym c.if-covered.false ∙ c.covered.ensures) c.grow-hi.result (reached-at (goal.at.returns c).After-grow-hi) _ c.settled.ensures _ c.if-list-n.false c.splice_one.ensures
