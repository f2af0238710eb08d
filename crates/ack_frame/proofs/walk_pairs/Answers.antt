-- What is left to walk comes to the same as the whole.
use Rattle.std.proofs.lemmas.Result.{err_from_is_err_and}
use native.Mathlib.Omega.{arith}
use mathlib.Core.Path.{◌≡◌, sym, ◌∙◌}
use Prim.Native.Nat.{◌-◌, ◌+◌}
use Rattle.ack_frame.specs.Read.{walk_of}
use Rattle.ack_frame.proofs.Laws.{walk_stop, walk_full, walk_on}
use Rattle.ack_frame.proofs.walk_pairs.Goals as goal

pub returns-in_err-below : goal.returns-in_err-below
returns-in_err-below c =
    let a = c.args in
    let l = c.loop-n in
    let p = err_from_is_err_and c.from_residual.result c.from_residual.ensures.1 in
    record {
      value = rw (p.1, p.2) (sym (walk_stop a.frame.now l.at l.low (a.room - l.n) (a.count - l.n) (omega arith) (sym c.in_err-below.ensures.value)) ∙ l.invariant.left);
      sound = rw p.1 tt;
    }

pub returns-then-n-room : goal.returns-then-n-room
returns-then-n-room c =
    let a = c.args in
    let l = c.loop-n in
    record {
      value = sym (walk_full a.frame.now l.at l.low (a.room - l.n) (a.count - l.n) (omega arith) (sym c.in_ok-below.ensures.value) (omega arith)) ∙ l.invariant.left;
      sound = tt;
    }

pub loop-n-preserved : goal.loop-n-preserved
loop-n-preserved c =
    let a = c.args in
    let l = c.loop-n in
    let e : a.count - (l.n + 1) ≡ a.count - l.n - 1 = omega arith in
    let f : a.room - (l.n + 1) ≡ a.room - l.n - 1 = omega arith in
    record {
      at_in = omega (arith, c.in_ok-below.ensures.sound);
      low_in = omega (arith, c.in_ok-below.ensures.sound);
      fits = omega (arith, c.if-n-room.false);
      left = rw (e, f) (sym (walk_on a.frame.now l.at l.low (a.room - l.n) (a.count - l.n) (omega arith) (sym c.in_ok-below.ensures.value) (omega (arith, c.if-n-room.false))) ∙ l.invariant.left);
    }

pub returns : goal.returns
unfolding walk_of
returns c =
    let l = c.loop-n in
    let e : c.args.count - l.n ≡ 0 = omega arith in
    record { value = rw e at l.invariant.left; sound = l.invariant.at_in }
