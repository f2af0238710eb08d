-- A step at a place fits the books because the event is fair; the rest is by what `enter` and the event give.
use Rattle.std.proofs.Common.{rules}
use Rattle.streams.specs.Calls.{on_stream}
use Rattle.streams.proofs.Laws.{step_fits}
use Rattle.streams.proofs.on_stream.Goals as goal

pub returns-in_err-place : goal.returns-in_err-place
unfolding on_stream
returns-in_err-place g c = λ f h. search rules

pub returns-in_default : goal.returns-in_default
unfolding on_stream
returns-in_default g c = λ f h. search rules

pub returns-in_err-step : goal.returns-in_err-step
unfolding on_stream
returns-in_err-step g c = λ f h. let e = h _ _ c.event.ensures in search rules

pub returns-in_default-2 : goal.returns-in_default-2
unfolding on_stream
returns-in_default-2 g c = λ f h. let e = h _ _ c.event.ensures in search rules

pub commit-requires : goal.commit-requires
commit-requires g c = step_fits _ _ _ _ c.enter.ensures c.in_ok-place.was c.in-Some.is c.in_ok-step.was c.in-Some-2.is (c.requires.fair _ _ c.event.ensures)

pub returns : goal.returns
unfolding on_stream
returns g c = λ f h. let e = h _ _ c.event.ensures in search rules
