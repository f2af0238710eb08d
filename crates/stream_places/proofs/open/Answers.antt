-- Good form bounds the ids; a place that there is keeps the count within the table.
use Rattle.stream_places.proofs.Opens.{opens, open_in_place}
use Rattle.stream_places.specs.Places.{open_after, open_in}
use borrow.Author.Rules.{rules}
use mathlib.Core.Path.{ap}
use mathlib.Core.Bool.{not}
use Rattle.stream_places.proofs.open.Goals as goal

pub overflow_mul-id : goal.overflow_mul-id
overflow_mul-id c = search (rules, opens)

pub overflow_add-id : goal.overflow_add-id
overflow_add-id c = search (rules, opens)

pub overflow_add-id-2 : goal.overflow_add-id-2
overflow_add-id-2 c = search (rules, opens)

pub overflow_add-count : goal.overflow_add-count
overflow_add-count c = search (rules, opens)

pub returns : goal.returns
unfolding open_after open_in
returns c =
    search (rules, open_in_place c.args.table.now c.args.count c.new.result c.has.ensures (ap not c.if-not-has.false) c.insert.ensures)
