-- `text::decimal` meets its contract. Past the largest number nothing is one. Assumes nothing.
use Rattle.text.proofs.Laws.{number_over}
use borrow.Author.Rules.{rules}
use Rattle.text.proofs.decimal.Goals as goal

pub returns-in_err-checked_mul : goal.returns-in_err-checked_mul
returns-in_err-checked_mul c = let e = number_over c.args.s.now c.loop-b.b-index c.loop-b.value (search rules) (search rules) in cc
