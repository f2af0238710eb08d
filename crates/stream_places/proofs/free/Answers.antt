-- A place is one of the table's, so it can be given back.
use Rattle.stream_places.proofs.Frees.{free_fits}
use borrow.Author.Rules.{rules}
use Rattle.stream_places.proofs.free.Goals as goal

pub give_back-requires : goal.give_back-requires
give_back-requires c = search (rules, free_fits)
