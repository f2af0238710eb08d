-- `edit_all` meets its contract: the ranges still to come make of the list what all make of the first, and each list is written over the first.
use Rattle.range_many.proofs.Laws.{go_start, go_turn, go_end, range_at_law}
use native.Mathlib.Omega.{arith}
use Rattle.range_list.proofs.Sound.{Formed, formed}
use Rattle.range_many.proofs.edit_all.Goals as goal
use Rattle.range_many.proofs.edit_all.Goals.{Start}

other_at : (c : Start) → Formed c.args.other.now c.args.n
other_at c = formed c.args.other.now c.args.n c.requires.other

pub loop-j-init : goal.loop-j-init
loop-j-init c = go_start _ _ _ _ _ c.requires

pub overflow_mul-j : goal.overflow_mul-j
overflow_mul-j c = let w = other_at (goal.at.overflow_mul-j c).Start in omega arith

pub offset_bounds-other-j : goal.offset_bounds-other-j
offset_bounds-other-j c = let w = other_at (goal.at.offset_bounds-other-j c).Start in omega arith

pub bounds-other-j : goal.bounds-other-j
bounds-other-j c = let w = other_at (goal.at.bounds-other-j c).Start in omega arith

pub overflow_mul-j-in-loop-j : goal.overflow_mul-j-in-loop-j
overflow_mul-j-in-loop-j c = let w = other_at (goal.at.overflow_mul-j-in-loop-j c).Start in omega arith

pub overflow_add-j : goal.overflow_add-j
overflow_add-j c = let w = other_at (goal.at.overflow_add-j c).Start in omega arith

pub offset_bounds-other-j-in-loop-j : goal.offset_bounds-other-j-in-loop-j
offset_bounds-other-j-in-loop-j c = let w = other_at (goal.at.offset_bounds-other-j-in-loop-j c).Start in omega arith

pub bounds-other-j-in-loop-j : goal.bounds-other-j-in-loop-j
bounds-other-j-in-loop-j c = let w = other_at (goal.at.bounds-other-j-in-loop-j c).Start in omega arith

pub edit-requires : goal.edit-requires
edit-requires c =
    let p = range_at_law _ _ (other_at (goal.at.edit-requires c).Start) c.loop-j.j (omega arith) in
    (p.some, p.upto, c.loop-j.invariant.formed)

pub unwrap-k-requires : goal.unwrap-k-requires
unwrap-k-requires c = (go_turn _ _ _ _ _ c.requires _ _ _ c.loop-j.invariant (omega arith) c.edit.result _ c.edit.ensures).fits

pub loop-j-preserved : goal.loop-j-preserved
loop-j-preserved c = (go_turn _ _ _ _ _ c.requires _ _ _ c.loop-j.invariant (omega arith) c.edit.result _ c.edit.ensures).goes c.unwrap-k.result c.unwrap-k.ensures

pub shape_of-list : goal.shape_of-list
shape_of-list c = c.loop-j.invariant.len

pub returns : goal.returns
returns c = go_end _ _ _ _ _ c.requires _ _ _ c.loop-j.invariant (omega arith)
