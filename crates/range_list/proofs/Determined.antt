-- The promise of the check fixes its answer. The splices are inner functions, of arguments that their callers keep in bounds: of each, two outcomes
-- that meet its promise leave the same list.
-- Assumes nothing.
use mathlib.Core.Path.{refl, sym, ◌∙◌}
use Rattle.answers.proofs.Promise.{Whole, Fixed}
use Rattle.range_list.proofs.well_formed as well_formed_law
use Rattle.range_list.proofs.splice_none as splice_none
use Rattle.range_list.proofs.splice_one as splice_one
use Rattle.range_list.proofs.splice_two as splice_two

pub well_formed_whole : Whole well_formed_law.Kinds.ps well_formed_law.Kinds.r well_formed_law.Reads.Pre well_formed_law.Reads.Post
well_formed_whole = (λ κs a. tt, λ κs a x y v w p q. (p ∙ sym q, refl))

pub splice_none_fixed : Fixed splice_none.Kinds.ps splice_none.Kinds.r splice_none.Reads.Post
splice_none_fixed = λ κs a x y v w p q. (refl, λ i. ((p ∙ sym q) i, v.1))

pub splice_one_fixed : Fixed splice_one.Kinds.ps splice_one.Kinds.r splice_one.Reads.Post
splice_one_fixed = λ κs a x y v w p q. (refl, λ i. ((p ∙ sym q) i, v.1))

pub splice_two_fixed : Fixed splice_two.Kinds.ps splice_two.Kinds.r splice_two.Reads.Post
splice_two_fixed = λ κs a x y v w p q. (refl, λ i. ((p ∙ sym q) i, v.1))
