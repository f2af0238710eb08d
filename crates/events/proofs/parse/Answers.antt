-- `events::parse` meets its contract. Each return rewrites with the tests that led there and with what the calls before it promise. Assumes nothing.
use Rattle.events.proofs.Laws.{no_module, in_module_law}
use Rattle.events.proofs.parse.Goals as goal

pub returns-in_default : goal.returns-in_default
returns-in_default c = no_module _ _ _ c.word_at-w.ensures.value c.module_of.ensures.value c.in_default.is

pub returns : goal.returns
returns c = in_module_law _ _ _ c.word_at-w.ensures.value c.module_of.ensures.value c.in-Some.is c.event_in.ensures
