-- `events::event_in` meets its contract. Each return rewrites with the tests that led there and with what the calls before it promise. Assumes nothing.
use Rattle.events.proofs.Laws.{event_unknown, event_known}
use Rattle.events.proofs.event_in.Goals as goal

pub returns-in_default : goal.returns-in_default
returns-in_default c = event_unknown _ _ _ _ _ _ c.grammar-grammar.ensures c.find.ensures.value c.in_default.is

pub returns : goal.returns
returns c = event_known _ _ _ _ _ _ c.grammar-grammar.ensures c.find.ensures.value c.in-Some.is c.base.ensures.value c.take-c.ensures c.finish.ensures
