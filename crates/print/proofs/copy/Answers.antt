-- `print::copy` meets its contract. The part is the one that is copied over. Assumes nothing.
use native.Mathlib.Omega.{arith}
use borrow.Author.Rules.{rules}
use Rattle.print.proofs.Laws.{copied}
use Rattle.print.proofs.copy.Goals as goal

pub returns : goal.returns
returns c =
    let a = c.args in
    rw c.copy_from_slice.ensures.after (copied a.out.now a.s.now a.at _ (omega arith) (search rules))
