-- The numbers below `at` are vacated, one a turn; the numbers from `to` on have the places that are left.
use borrow.Author.Rules.{rules}
use mathlib.Core.Path.{◌≡◌, ap, ◌∙◌}
use mathlib.Core.List.{List}
use Prim.Native.Nat.{ℕ}
use native.Mathlib.Omega.{arith}
use Rattle.std.specs.Prelude.{Option}
use Rattle.cid_ring.specs.declared.Cid.{Cid}
use Rattle.cid_ring.specs.declared.Ring.{Ring}
use Rattle.cid_ring.proofs.Places.{five, past, below, below_none, below_more, below_all, retired_none}
use Rattle.cid_ring.proofs.Ring.retire.Goals as goal

abbrev closed : List (Option Cid) → ℕ → Ring
closed l a = record { slots = l; offset = a }

pub returns-then-to-self : goal.returns-then-to-self
returns-then-to-self c = search (rules, five, retired_none)

pub loop-at-init : goal.loop-at-init
loop-at-init c = (omega arith, omega arith, below_none c.args.self (search (rules, five)))

pub loop-at-preserved : goal.loop-at-preserved
loop-at-preserved c =
    let q = c.args.self in
    let n = c.loop-at.at in
    (omega arith, omega arith, rw (c.loop-at.invariant.2, c.place.ensures) (below_more q n (omega arith) (omega arith)))

pub returns : goal.returns
returns c =
    let q = c.args.self in
    let to = c.args.to in
    let e : c.loop-at.at ≡ past q to = omega arith in
    let f : c.loop-at.slots ≡ below q (past q to) = c.loop-at.invariant.2 ∙ ap (below q) e in
    ap (λ (l : List (Option Cid)). closed l to) f ∙ below_all q to (omega arith)
