-- `events::finish` meets its contract. Each return rewrites with the tests that led there and with what the calls before it promise. Assumes nothing.
use Rattle.events.proofs.Laws.{finish_unfit, finish_end, finish_more}
use Rattle.events.proofs.finish.Goals as goal
use Rattle.events.proofs.finish.Goals.{else-c-via-then-c+else-is_end, else-c-via-else-c}

pub returns-then-is_end : goal.returns-then-is_end
returns-then-is_end c = finish_end _ _ _ c.if-c.true c.is_end.ensures c.if-is_end.true

pub returns : goal.returns
returns c =
    elim c.else-c.branch [
      | else-c-via-then-c+else-is_end w ↦ finish_more _ _ _ w.if-c.true w.is_end.ensures w.if-is_end.false
      | else-c-via-else-c w ↦ finish_unfit _ _ _ w.if-c.false
    ]
