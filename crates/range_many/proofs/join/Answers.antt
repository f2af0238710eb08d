-- `join` meets its contract: what is written and what is left to join make the whole.
use Rattle.range_many.proofs.Laws.{join_start, join_none, join_hi, join_lo, join_turn, join_end, gap_at}
use mathlib.Core.Path.{refl}
use lib.ListN.{length-set}
use Rattle.range_list.specs.Ranges.{read}
use native.Mathlib.Omega.{arith}
use Rattle.range_list.proofs.Sound.{Formed, formed}
use Rattle.range_many.proofs.join.Goals as goal
use Rattle.range_many.proofs.join.Goals.{Start}

formed-at : (c : Start) → Formed c.args.list.now c.args.count
formed-at c = formed c.args.list.now c.args.count c.requires.0

pub returns-then-count-eq0 : goal.returns-then-count-eq0
returns-then-count-eq0 c = let a = c.args in join_none a.list.now a.count (read a.other.now 0 a.n) c.if-count-eq0.true

pub bounds-list-0 : goal.bounds-list-0
bounds-list-0 c = let w = formed-at (goal.at.bounds-list-0 c).Start in omega arith

pub loop-i-init : goal.loop-i-init
loop-i-init c = let a = c.args in join_start a.list.now a.count (read a.other.now 0 a.n) (omega arith)

pub join_one-g-requires : goal.join_one-g-requires
join_one-g-requires c =
    let p = c.loop-i.invariant in
    let w = formed-at (goal.at.join_one-g-requires c).Start in
    let q = gap_at _ _ w c.loop-i.i (omega arith) (omega arith) in
    (p.low, omega arith, omega (arith, q, join_lo _ _ _ _ _ _ _ p, join_hi _ _ _ _ _ _ _ p), c.requires.1)

pub loop-i-preserved : goal.loop-i-preserved
loop-i-preserved c =
    join_turn _ _ _ _ _ _ _ c.loop-i.invariant (omega arith) (formed-at (goal.at.loop-i-preserved c).Start).room c.join_one-g.result _ c.join_one-g.ensures

pub overflow_mul-hi : goal.overflow_mul-hi
overflow_mul-hi c = let w = formed-at (goal.at.overflow_mul-hi c).Start in omega arith

pub offset_bounds-list-count : goal.offset_bounds-list-count
offset_bounds-list-count c = let w = formed-at (goal.at.offset_bounds-list-count c).Start in omega arith

pub bounds-list-count : goal.bounds-list-count
bounds-list-count c = let w = formed-at (goal.at.bounds-list-count c).Start in let p = c.loop-i.invariant in omega arith

pub overflow_mul-list : goal.overflow_mul-list
overflow_mul-list c = let w = formed-at (goal.at.overflow_mul-list c).Start in let p = c.loop-i.invariant in omega arith

pub offset_bounds-list-k : goal.offset_bounds-list-k
offset_bounds-list-k c = let w = formed-at (goal.at.offset_bounds-list-k c).Start in let p = c.loop-i.invariant in omega arith

pub bounds-list-k : goal.bounds-list-k
bounds-list-k c = let w = formed-at (goal.at.bounds-list-k c).Start in let p = c.loop-i.invariant in omega arith

pub overflow_mul-list-2 : goal.overflow_mul-list-2
overflow_mul-list-2 c = let w = formed-at (goal.at.overflow_mul-list-2 c).Start in let p = c.loop-i.invariant in omega arith

pub overflow_add-list : goal.overflow_add-list
overflow_add-list c = let w = formed-at (goal.at.overflow_add-list c).Start in let p = c.loop-i.invariant in omega arith

pub offset_bounds-list-k-2 : goal.offset_bounds-list-k-2
offset_bounds-list-k-2 c = let w = formed-at (goal.at.offset_bounds-list-k-2 c).Start in let p = c.loop-i.invariant in omega arith

pub bounds-list-k-2 : goal.bounds-list-k-2
bounds-list-k-2 c = let w = formed-at (goal.at.bounds-list-k-2 c).Start in let p = c.loop-i.invariant in simp length-set (omega arith)

pub overflow_add-result : goal.overflow_add-result
overflow_add-result c = let w = formed-at (goal.at.overflow_add-result c).Start in let p = c.loop-i.invariant in omega arith

pub shape_of-list : goal.shape_of-list
shape_of-list c = let p = c.loop-i.invariant in simp length-set p.len

pub returns : goal.returns
returns c = join_end _ _ _ _ _ _ _ c.loop-i.invariant (omega arith) (formed-at (goal.at.returns c).Start).room _ refl
