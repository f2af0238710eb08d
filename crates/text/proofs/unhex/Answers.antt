-- `text::unhex` meets its contract. Each return rewrites with the tests that led there. Assumes nothing.
use mathlib.Core.Path.{sym, ◌∙◌}
use native.Mathlib.Omega.{arith}
use Rattle.text.proofs.Laws.{unhex_laws}
use borrow.Author.Rules.{rules}
use Rattle.text.proofs.unhex.Goals as goal

pub returns-then-not-is_hex : goal.returns-then-not-is_hex
returns-then-not-is_hex c = search (rules, unhex_laws)

pub returns-then-out-at : goal.returns-then-out-at
returns-then-out-at c = search (rules, unhex_laws)

pub fill-requires : goal.fill-requires
fill-requires c =
    let e = c.is_hex.ensures in
    record { s_value = sym e ∙ c.if-not-is_hex.false; s_in_bounds = omega arith }

pub returns : goal.returns
returns c = search (rules, unhex_laws)
