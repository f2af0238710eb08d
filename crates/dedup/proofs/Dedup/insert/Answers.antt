-- Each return is one law of `inserts`: the law of its tests and of what its callees promise.
use Rattle.dedup.proofs.Laws.{inserts}
use borrow.Author.Rules.{rules}
use native.Mathlib.Omega.{arith}
use Rattle.dedup.proofs.Dedup.insert.Goals as goal

pub returns-then-packet-ge-LIMIT : goal.returns-then-packet-ge-LIMIT
returns-then-packet-ge-LIMIT c = grind (arith, inserts)

pub returns-then-packet-self : goal.returns-then-packet-self
returns-then-packet-self c = search (rules, inserts)

pub returns-then-back-eq0 : goal.returns-then-back-eq0
returns-then-back-eq0 c = grind (arith, inserts)

pub returns : goal.returns
returns c = search (rules, inserts)
