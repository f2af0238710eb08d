-- `events::module_of` meets its contract. Each return is a law of Laws.antt, from the tests that led there. Assumes nothing.
use Rattle.events.proofs.Laws.{module_short, module_no_point, module_named}
use Rattle.events.proofs.module_of.Goals as goal
use Rattle.events.proofs.module_of.Goals.{then-word-lt4-via-then-word-lt4, then-word-lt4-via-else-word-lt4+then-word-ne46}

pub returns-then-word-lt4-clause-value : goal.returns-then-word-lt4-clause-value
returns-then-word-lt4-clause-value c =
    elim c.then-word-lt4.branch [
      | then-word-lt4-via-then-word-lt4 w ↦ module_short _ w.if-word-lt4.true
      | then-word-lt4-via-else-word-lt4+then-word-ne46 w ↦ module_no_point _ w.if-word-lt4.false w.if-word-ne46.true
    ]

pub returns-clause-value : goal.returns-clause-value
returns-clause-value c = module_named _ c.if-word-lt4.false c.if-word-ne46.false c.named.ensures
