-- `shift` meets its contract: a move to where the part stands is none.
use mathlib.Core.Path.{◌≡◌, sym}
use native.Mathlib.Omega.{arith}
use Rattle.range_list.proofs.Laws.{paste_same}
use Rattle.range_list.proofs.shift.Goals as goal

pub returns-else-from-to : goal.returns-else-from-to
returns-else-from-to c =
    let a = c.args in
    let e : a.to ≡ a.from = omega arith in
    rw e (sym (paste_same a.list.now a.from a.n))
