-- `choose` meets its contract: its tests and sums are A.3's own, and all sums stay far below 2 ^ 64.
use mathlib.Core.Path.{◌≡◌}
use mathlib.Core.Bool.{false}
use Rattle.packet_number.specs.PacketNumber.{candidate, too_low}
use Rattle.packet_number.proofs.Laws.{low_here, low_not, low_past, high_here, high_not, high_zero, choice_up, choice_down, choice_stays}
use Rattle.packet_number.proofs.choose.Goals as goal
use Rattle.packet_number.proofs.choose.Goals.{else-candidate-half-via-then-candidate-half+else-candidate-win-lt-LIMIT, else-candidate-half-via-else-candidate-half, else-expected-half-via-then-expected-half+else-win-candidate, else-expected-half-via-else-expected-half}

pub returns-then-candidate-win-lt-LIMIT : goal.returns-then-candidate-win-lt-LIMIT
returns-then-candidate-win-lt-LIMIT c =
    let a = c.args in
    let k = candidate a.expected a.win a.truncated in
    choice_up a.expected a.win a.truncated (low_here a.expected a.win k c.if-candidate-half.true c.if-candidate-win-lt-LIMIT.true)

pub returns-then-win-candidate : goal.returns-then-win-candidate
returns-then-win-candidate c =
    let a = c.args in
    let k = candidate a.expected a.win a.truncated in
    let low : too_low a.expected a.win k ≡ false = elim c.else-candidate-half.branch [
      | else-candidate-half-via-then-candidate-half+else-candidate-win-lt-LIMIT w ↦ low_past a.expected a.win k w.if-candidate-half.true w.if-candidate-win-lt-LIMIT.false
      | else-candidate-half-via-else-candidate-half w ↦ low_not a.expected a.win k w.if-candidate-half.false
    ] in
    choice_down a.expected a.win a.truncated low (high_here a.expected a.win k c.if-expected-half.true c.if-win-candidate.true)

pub returns : goal.returns
returns c =
    let a = c.args in
    let k = candidate a.expected a.win a.truncated in
    let low : too_low a.expected a.win k ≡ false = elim c.else-candidate-half.branch [
      | else-candidate-half-via-then-candidate-half+else-candidate-win-lt-LIMIT w ↦ low_past a.expected a.win k w.if-candidate-half.true w.if-candidate-win-lt-LIMIT.false
      | else-candidate-half-via-else-candidate-half w ↦ low_not a.expected a.win k w.if-candidate-half.false
    ] in
    elim c.else-expected-half.branch [
      | else-expected-half-via-then-expected-half+else-win-candidate w ↦ choice_stays a.expected a.win a.truncated low (high_zero a.expected a.win k w.if-expected-half.true w.if-win-candidate.false)
      | else-expected-half-via-else-expected-half w ↦ choice_stays a.expected a.win a.truncated low (high_not a.expected a.win k w.if-expected-half.false)
    ]
