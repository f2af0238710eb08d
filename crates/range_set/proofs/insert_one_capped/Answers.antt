-- `insert_one_capped` meets its contract: an insert that fits the limit is plain, and any other is one range more, at its place.
use Rattle.range_set.proofs.AtLimit.{Taken, is_taken, cap_bad, cap_plain, cap_lowest, cap_drop}
use mathlib.Core.Path.{sym, ◌∙◌}
use native.Mathlib.Omega.{arith}
use Rattle.std.specs.Prelude.{Ok, Err}
use Rattle.std.proofs.lemmas.Result.{err_from_is_err_and}
use Rattle.range_list.proofs.Sound.{Formed, formed}
use Rattle.range_edit.proofs.Insert.{Passed, passed}
use Rattle.range_set.proofs.insert_one_capped.Goals as goal
use Rattle.range_set.proofs.insert_one_capped.Goals.{After-passed-at, Else-not-takes}

taken_at : (c : Else-not-takes) → Taken c.args.list.now c.args.count c.args.x c.args.limit
taken_at c = is_taken _ _ _ _ (sym c.takes.ensures ∙ c.if-not-takes.false)

formed-at : (c : Else-not-takes) → Formed c.args.list.now c.args.count
formed-at c = formed _ _ (is_taken _ _ _ _ (sym c.takes.ensures ∙ c.if-not-takes.false)).formed

passed-at : (c : After-passed-at)
    → Passed c.args.list.now c.args.count c.args.x c.passed-at.result
passed-at c = passed _ _ _ _ c.passed-at.ensures

pub returns-then-not-takes : goal.returns-then-not-takes
returns-then-not-takes c = cap_bad _ _ _ _ (sym c.takes.ensures ∙ c.if-not-takes.true)

pub crowded-requires : goal.crowded-requires
crowded-requires c = let v = taken_at (goal.at.crowded-requires c).Else-not-takes in (v.number, v.within, v.formed)

pub overflow_add-x : goal.overflow_add-x
overflow_add-x c = let v = taken_at (goal.at.overflow_add-x c).Else-not-takes in omega arith

pub put-requires : goal.put-requires
put-requires c = let v = taken_at (goal.at.put-requires c).Else-not-takes in (omega arith, omega arith, v.formed)

pub returns-then-not-crowded : goal.returns-then-not-crowded
returns-then-not-crowded c =
    cap_plain _ _ _ _ (taken_at (goal.at.returns-then-not-crowded c).Else-not-takes).taken (sym c.crowded.ensures ∙ c.if-not-crowded.true) (Ok c.in_ok-r.r) _ c.in_ok-r.ensures

pub returns-in_err-r : goal.returns-in_err-r
returns-in_err-r c =
    let p = err_from_is_err_and c.from_residual.result c.from_residual.ensures.1 in
    rw (p.1, p.2)
    (cap_plain _ _ _ _ (taken_at (goal.at.returns-in_err-r c).Else-not-takes).taken (sym c.crowded.ensures ∙ c.if-not-crowded.true) (Err c.in_err-r.field-0.0) _ c.in_err-r.ensures)

pub passed-at-requires : goal.passed-at-requires
passed-at-requires c = (taken_at (goal.at.passed-at-requires c).Else-not-takes).formed

pub overflow_add-x-then-at-eq0 : goal.overflow_add-x-then-at-eq0
overflow_add-x-then-at-eq0 c = let v = taken_at (goal.at.overflow_add-x-then-at-eq0 c).Else-not-takes in omega arith

pub returns-then-at-eq0 : goal.returns-then-at-eq0
returns-then-at-eq0 c =
    cap_lowest _ _ _ _ (taken_at (goal.at.returns-then-at-eq0 c).Else-not-takes) (sym c.crowded.ensures ∙ c.if-not-crowded.false) _ c.passed-at.ensures c.if-at-eq0.true _ c.dropping.ensures

pub bounds-list-0 : goal.bounds-list-0
bounds-list-0 c = let p = passed-at (goal.at.bounds-list-0 c).After-passed-at in let w = formed-at (goal.at.bounds-list-0 c).Else-not-takes in omega arith

pub bounds-list-1 : goal.bounds-list-1
bounds-list-1 c = let p = passed-at (goal.at.bounds-list-1 c).After-passed-at in let w = formed-at (goal.at.bounds-list-1 c).Else-not-takes in omega arith

pub splice_none-requires : goal.splice_none-requires
splice_none-requires c =
    let p = passed-at (goal.at.splice_none-requires c).After-passed-at in let w = formed-at (goal.at.splice_none-requires c).Else-not-takes in (omega arith, omega arith, w.room)

pub overflow_sub-count : goal.overflow_sub-count
overflow_sub-count c = let p = passed-at (goal.at.overflow_sub-count c).After-passed-at in omega arith

pub overflow_add-x-2 : goal.overflow_add-x-2
overflow_add-x-2 c = let v = taken_at (goal.at.overflow_add-x-2 c).Else-not-takes in omega arith

pub splice_one-requires : goal.splice_one-requires
splice_one-requires c =
    let p = passed-at (goal.at.splice_one-requires c).After-passed-at in
    let w = formed-at (goal.at.splice_one-requires c).Else-not-takes in
    let k = c.splice_none.auto.list in
    (omega arith, omega arith, omega arith, omega arith)

pub returns : goal.returns
returns c =
    cap_drop _ _ _ _ (taken_at (goal.at.returns c).Else-not-takes) (sym c.crowded.ensures ∙ c.if-not-crowded.false) _ c.passed-at.ensures (omega arith) (passed-at (goal.at.returns c).After-passed-at).low _ c.dropping-2.ensures _ _ c.splice_none.ensures c.splice_one.ensures
