-- `idle_all` meets its contract: the ranges still to test are idle exactly where all are.
use Rattle.range_many.proofs.Laws.{range_at_law, idle_stop, idle_on, idle_end}
use mathlib.Core.Path.{sym, ap, ◌∙◌}
use Prim.Native.Nat.{ℕ}
use Rattle.range_list.specs.Ranges.{read}
use Rattle.range_many.specs.Many.{idle_all}
use native.Mathlib.Omega.{arith}
use Rattle.range_list.proofs.Sound.{Formed, formed}
use native.Mathlib.Nat.{sub-zero}
use Rattle.range_many.proofs.idle_all.Goals as goal
use Rattle.range_many.proofs.idle_all.Goals.{Start}

formed-at : (c : Start) → Formed c.args.list.now c.args.count
formed-at c = formed c.args.list.now c.args.count c.requires.0

other_at : (c : Start) → Formed c.args.other.now c.args.n
other_at c = formed c.args.other.now c.args.n c.requires.1

pub loop-j-init : goal.loop-j-init
loop-j-init c =
    let a = c.args in
    (ap (λ (k : ℕ). idle_all a.way (read a.list.now 0 a.count) (read a.other.now 0 k)) (sub-zero a.n))

pub overflow_mul-j : goal.overflow_mul-j
overflow_mul-j c = let w = other_at (goal.at.overflow_mul-j c).Start in omega arith

pub offset_bounds-other-j : goal.offset_bounds-other-j
offset_bounds-other-j c = let w = other_at (goal.at.offset_bounds-other-j c).Start in omega arith

pub bounds-other-j : goal.bounds-other-j
bounds-other-j c = let w = other_at (goal.at.bounds-other-j c).Start in omega arith

pub overflow_mul-j-in-loop-j : goal.overflow_mul-j-in-loop-j
overflow_mul-j-in-loop-j c = let w = other_at (goal.at.overflow_mul-j-in-loop-j c).Start in omega arith

pub overflow_add-j : goal.overflow_add-j
overflow_add-j c = let w = other_at (goal.at.overflow_add-j c).Start in omega arith

pub offset_bounds-other-j-in-loop-j : goal.offset_bounds-other-j-in-loop-j
offset_bounds-other-j-in-loop-j c = let w = other_at (goal.at.offset_bounds-other-j-in-loop-j c).Start in omega arith

pub bounds-other-j-in-loop-j : goal.bounds-other-j-in-loop-j
bounds-other-j-in-loop-j c = let w = other_at (goal.at.bounds-other-j-in-loop-j c).Start in omega arith

pub idle_one-requires : goal.idle_one-requires
idle_one-requires c =
    let p = range_at_law _ _ (other_at (goal.at.idle_one-requires c).Start) c.loop-j.j (omega arith) in
    (p.some, p.upto, c.requires.0)

pub returns-then-not-idle_one : goal.returns-then-not-idle_one
returns-then-not-idle_one c =
    let a = c.args in
    idle_stop a.way (read a.list.now 0 a.count) a.other.now c.loop-j.j a.n (omega arith) (sym c.if-not-idle_one.true ∙ c.idle_one.ensures) ∙ c.loop-j.invariant

pub loop-j-preserved : goal.loop-j-preserved
loop-j-preserved c =
    let a = c.args in
    (idle_on a.way (read a.list.now 0 a.count) a.other.now c.loop-j.j a.n (omega arith) (sym c.if-not-idle_one.false ∙ c.idle_one.ensures) ∙ c.loop-j.invariant)

pub returns : goal.returns
returns c =
    let a = c.args in
    idle_end a.way (read a.list.now 0 a.count) a.other.now c.loop-j.j a.n (omega arith) ∙ c.loop-j.invariant
