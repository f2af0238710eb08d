-- `fewer_all` meets its contract: the sum so far and that of the ranges still to come are the whole.
use Rattle.range_many.proofs.Laws.{range_at_law, ties_on, ties_end, ties_most}
use mathlib.Core.Path.{ap, ◌∙◌}
use Prim.Native.Nat.{ℕ}
use Rattle.range_list.specs.Ranges.{read}
use Rattle.range_many.specs.Many.{ties}
use native.Mathlib.Omega.{arith}
use Rattle.range_list.proofs.Sound.{Formed, formed}
use native.Mathlib.Nat.{sub-zero, zero-add}
use Rattle.range_many.proofs.fewer_all.Goals as goal
use Rattle.range_many.proofs.fewer_all.Goals.{Start}

formed-at : (c : Start) → Formed c.args.list.now c.args.count
formed-at c = formed c.args.list.now c.args.count c.requires.0

other_at : (c : Start) → Formed c.args.other.now c.args.n
other_at c = formed c.args.other.now c.args.n c.requires.1

pub loop-j-init : goal.loop-j-init
loop-j-init c =
    let a = c.args in
    (zero-add _ ∙ ap (λ (k : ℕ). ties a.way (read a.list.now 0 a.count) (read a.other.now 0 k)) (sub-zero a.n))

pub overflow_mul-j : goal.overflow_mul-j
overflow_mul-j c = let w = other_at (goal.at.overflow_mul-j c).Start in omega arith

pub offset_bounds-other-j : goal.offset_bounds-other-j
offset_bounds-other-j c = let w = other_at (goal.at.offset_bounds-other-j c).Start in omega arith

pub bounds-other-j : goal.bounds-other-j
bounds-other-j c = let w = other_at (goal.at.bounds-other-j c).Start in omega arith

pub overflow_mul-j-in-loop-j : goal.overflow_mul-j-in-loop-j
overflow_mul-j-in-loop-j c = let w = other_at (goal.at.overflow_mul-j-in-loop-j c).Start in omega arith

pub overflow_add-j : goal.overflow_add-j
overflow_add-j c = let w = other_at (goal.at.overflow_add-j c).Start in omega arith

pub offset_bounds-other-j-in-loop-j : goal.offset_bounds-other-j-in-loop-j
offset_bounds-other-j-in-loop-j c = let w = other_at (goal.at.offset_bounds-other-j-in-loop-j c).Start in omega arith

pub bounds-other-j-in-loop-j : goal.bounds-other-j-in-loop-j
bounds-other-j-in-loop-j c = let w = other_at (goal.at.bounds-other-j-in-loop-j c).Start in omega arith

pub fewer_one-sum-requires : goal.fewer_one-sum-requires
fewer_one-sum-requires c =
    let p = range_at_law _ _ (other_at (goal.at.fewer_one-sum-requires c).Start) c.loop-j.j (omega arith) in
    (p.some, p.upto, c.requires.0)

pub overflow_add-sum : goal.overflow_add-sum
overflow_add-sum c =
    let a = c.args in
    let w = formed-at (goal.at.overflow_add-sum c).Start in
    let v = other_at (goal.at.overflow_add-sum c).Start in
    omega (arith, c.loop-j.invariant, c.fewer_one-sum.ensures, ties_on a.way (read a.list.now 0 a.count) a.other.now c.loop-j.j a.n (omega arith), ties_most a.way a.list.now a.count a.other.now a.n w v)

pub loop-j-preserved : goal.loop-j-preserved
loop-j-preserved c =
    let a = c.args in
    (omega (arith, c.loop-j.invariant, c.fewer_one-sum.ensures, ties_on a.way (read a.list.now 0 a.count) a.other.now c.loop-j.j a.n (omega arith)))

pub returns : goal.returns
returns c =
    let a = c.args in
    omega (arith, c.loop-j.invariant, ties_end a.way (read a.list.now 0 a.count) a.other.now c.loop-j.j a.n (omega arith))
