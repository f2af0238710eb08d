-- `drive_rs::renew` meets its contract. Each return is a law of Laws.antt, from what the calls before it promise. Assumes nothing.
use mathlib.Core.Path.{sym}
use lib.Seq.{length-take-le}
use Rattle.drive_rs.proofs.Laws.{laws}
use borrow.Author.Rules.{rules}
use Rattle.drive_rs.proofs.renew.Goals as goal

pub slice_bounds-renew-end-2 : goal.slice_bounds-renew-end-2
slice_bounds-renew-end-2 c = sym (length-take-le _ _ (search rules))

pub returns : goal.returns
returns c = search (rules, laws)
