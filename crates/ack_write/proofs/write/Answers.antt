-- Each return is one case of the definition; count - 1 ranges lie below the highest.
-- what the tests have shown
use native.Mathlib.Omega.{arith}
use Prim.Native.Nat.{ℕ, ◌+◌, ◌-◌}
use mathlib.Core.Path.{◌≡◌, ap, sym, ◌∙◌, subst}
use mathlib.Core.Bool.{true}
use mathlib.Core.List.{List, reverse}
use lib.ListN.{length}
use Rattle.range_list.specs.Ranges.{read, well_formed}
use Rattle.ack_frame.specs.Grammar.{frame_of}
use Rattle.ack_write.specs.Write.{put}
use Rattle.ack_write.proofs.Laws.{yes_is_true, none_set, late, ill, no_room, all_put}
use mathlib.Core.Bool.{not}
use Rattle.ack_write.proofs.write.Goals as goal
use Rattle.ack_write.proofs.write.Goals.{Else-not-well_formed}

record Passed (l : List ℕ) (count : ℕ) : Type 0 where
  again : count - 1 + 1 ≡ count
  formed : well_formed l count ≡ true
  below : well_formed l (count - 1 + 1) ≡ true

passed : (c : Else-not-well_formed) → let a = c.args in Passed a.list.now a.count
passed c =
    let a = c.args in
    let e : a.count - 1 + 1 ≡ a.count = omega arith in
    let w : well_formed a.list.now a.count ≡ true = sym c.well_formed-2.ensures ∙ yes_is_true c.well_formed-2.result (ap not c.if-not-well_formed.false) in
    record { again = e; formed = w; below = subst (λ (k : ℕ). well_formed a.list.now k ≡ true) (sym e) w }

pub returns-then-count-eq0 : goal.returns-then-count-eq0
returns-then-count-eq0 c = let a = c.args in none_set a.out.now a.list.now a.count a.delay c.if-count-eq0.true

pub returns-then-delay-ge-LIMIT : goal.returns-then-delay-ge-LIMIT
returns-then-delay-ge-LIMIT c = let a = c.args in late a.out.now a.list.now a.count a.delay (omega arith) c.if-delay-ge-LIMIT.true

pub returns-then-not-well_formed : goal.returns-then-not-well_formed
returns-then-not-well_formed c =
    let a = c.args in ill a.out.now a.list.now a.count a.delay (omega arith) (omega arith) c.well_formed-2.ensures (ap not c.if-not-well_formed.true)

pub frame_size-len-requires : goal.frame_size-len-requires
frame_size-len-requires c = ((passed (goal.at.frame_size-len-requires c).Else-not-well_formed).below, omega arith)

pub returns-then-out-len : goal.returns-then-out-len
returns-then-out-len c =
    let a = c.args in
    let p = passed (goal.at.returns-then-out-len c).Else-not-well_formed in
    let e = ap (λ (k : ℕ). length (frame_of (reverse (read a.list.now 0 k)) a.delay)) p.again in
    let f = c.frame_size-len.ensures in
    no_room a.out.now a.list.now a.count a.delay (omega arith) (omega arith) p.formed (omega arith)

pub put_frame-requires : goal.put_frame-requires
put_frame-requires c = let f = c.frame_size-len.ensures in ((passed (goal.at.put_frame-requires c).Else-not-well_formed).below, (omega arith, omega arith))

pub returns : goal.returns
returns c =
    let a = c.args in
    let p = passed (goal.at.returns c).Else-not-well_formed in
    let e = ap (λ (k : ℕ). length (frame_of (reverse (read a.list.now 0 k)) a.delay)) p.again in
    let f = c.frame_size-len.ensures in
    let q = c.put_frame.ensures ∙ ap (λ (k : ℕ). put a.out.now 0 (frame_of (reverse (read a.list.now 0 k)) a.delay)) p.again in
    all_put a.out.now a.list.now a.count a.delay (omega arith) (omega arith) p.formed (omega arith) (f ∙ e) q
