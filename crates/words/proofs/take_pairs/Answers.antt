-- `words::take_pairs` meets its contract. Each return rewrites with the tests that led there and with what the calls before it promise. Assumes nothing.
use Rattle.words.proofs.Laws.{pairs_less, pairs_odd, pairs_even}
use Rattle.words.proofs.take_pairs.Goals as goal
use Rattle.words.proofs.take_pairs.Goals.{then-d-c-via-then-d-c, then-d-c-via-else-d-c+then-d-c-ne0}

pub returns-then-d-c : goal.returns-then-d-c
returns-then-d-c c =
    elim c.then-d-c.branch [
      | then-d-c-via-then-d-c w ↦ pairs_less _ _ _ c.take_rest-d.ensures w.if-d-c.true c.fail.ensures
      | then-d-c-via-else-d-c+then-d-c-ne0 w ↦ pairs_odd _ _ _ c.take_rest-d.ensures w.if-d-c.false w.if-d-c-ne0.true c.fail.ensures
    ]

pub returns : goal.returns
returns c = pairs_even _ _ _ c.take_rest-d.ensures c.if-d-c.false c.if-d-c-ne0.false
