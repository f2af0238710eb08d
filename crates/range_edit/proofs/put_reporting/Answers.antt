-- `put_reporting` meets its contract: both lists are planned before either is written.
-- what is known after each call
use Prim.Native.Nat.{◌+◌}
use native.Mathlib.Omega.{arith}
use Rattle.range_list.proofs.Sound.{Formed, formed}
use Rattle.range_edit.proofs.Insert.{Passed, passed}
use Rattle.range_edit.proofs.Within.{Lying, lying, Plan, plan, reports_full, reports_full_parts, reports_put}
use Rattle.range_edit.proofs.put_reporting.Goals as goal
use Rattle.range_edit.proofs.put_reporting.Goals.{After-cut_at, After-grow-hi, After-passed-first, After-passed-lo, Start}

formed-at : (c : Start) → Formed c.args.list.now c.args.count
formed-at c = formed c.args.list.now c.args.count c.requires.2

first-at : (c : After-passed-first) → Passed c.args.list.now c.args.count (c.args.s + 1) c.passed-first.result
first-at c = passed _ _ _ _ c.passed-first.ensures

lo_at : (c : After-passed-lo) → Passed c.args.list.now c.args.count c.args.s c.passed-lo.result
lo_at c = passed _ _ _ _ c.passed-lo.ensures

lying-at : (c : After-cut_at)
    → Lying c.args.list.now c.args.count c.args.s c.args.e c.passed-first.result c.cut_at.result
lying-at c = lying _ _ _ _ _ _ c.requires.0 (formed c.args.list.now c.args.count c.requires.2) (passed _ _ _ _ c.passed-first.ensures) c.cut_at.ensures

plan-at : (c : After-grow-hi)
    → Plan c.args.list.now c.args.count c.args.s c.args.e
    c.passed-first.result c.cut_at.result c.passed-lo.result c.grow-hi.result c.args.out.now
plan-at c =
    plan _ _ _ _ _ _ _ _ _ c.requires.0 (formed c.args.list.now c.args.count c.requires.2) (passed _ _ _ _ c.passed-first.ensures) c.cut_at.ensures (passed _ _ _ _ c.passed-lo.ensures) c.grow-hi.ensures

pub passed-first-requires : goal.passed-first-requires
passed-first-requires c = c.requires.2

pub cut_at-requires : goal.cut_at-requires
cut_at-requires c = ((first-at (goal.at.cut_at-requires c).After-passed-first).low, (formed-at (goal.at.cut_at-requires c).Start).room)

pub overflow_sub-parts : goal.overflow_sub-parts
overflow_sub-parts c = (lying-at (goal.at.overflow_sub-parts c).After-cut_at).above

pub passed-lo-requires : goal.passed-lo-requires
passed-lo-requires c = c.requires.2

pub grow-hi-requires : goal.grow-hi-requires
grow-hi-requires c = ((lo_at (goal.at.grow-hi-requires c).After-passed-lo).low, (formed-at (goal.at.grow-hi-requires c).Start).room)

pub overflow_add-n : goal.overflow_add-n
overflow_add-n c = let p = plan-at (goal.at.overflow_add-n c).After-grow-hi in omega arith

pub overflow_sub-n : goal.overflow_sub-n
overflow_sub-n c = (plan-at (goal.at.overflow_sub-n c).After-grow-hi).upto

pub overflow_add-n-2 : goal.overflow_add-n-2
overflow_add-n-2 c = let p = plan-at (goal.at.overflow_add-n-2 c).After-grow-hi in omega arith

pub returns-then-list-n : goal.returns-then-list-n
returns-then-list-n c = reports_full _ _ _ _ _ _ _ _ _ (plan-at (goal.at.returns-then-list-n c).After-grow-hi) c.if-list-n.true

pub returns-then-out-parts : goal.returns-then-out-parts
returns-then-out-parts c = reports_full_parts _ _ _ _ _ _ _ _ _ (plan-at (goal.at.returns-then-out-parts c).After-grow-hi) c.if-list-n.false c.if-out-parts.true

pub clip-requires : goal.clip-requires
clip-requires c = let p = plan-at (goal.at.clip-requires c).After-grow-hi in omega arith

pub splice_one-requires : goal.splice_one-requires
splice_one-requires c = let p = plan-at (goal.at.splice_one-requires c).After-grow-hi in (p.above, p.upto, p.room, c.if-list-n.false)

pub returns : goal.returns
returns c =
    reports_put _ _ _ _ _ _ _ _ _ (plan-at (goal.at.returns c).After-grow-hi) c.if-list-n.false c.if-out-parts.false _ _ c.splice_one.ensures c.clip.ensures
