-- `words::one_of_numbers` meets its contract. Each return rewrites with the tests that led there and with what the calls before it promise. Assumes nothing.
use Rattle.words.specs.Words.{numbers_taken}
use Rattle.words.proofs.Laws.{numbers_is, numbers_none}
use borrow.Author.Rules.{rules}
use Rattle.words.proofs.one_of_numbers.Goals as goal

pub returns-in-110 : goal.returns-in-110
unfolding numbers_taken
returns-in-110 c = numbers_is _ _ _ _ 110 c.in-110.is c.take_number.ensures

pub returns-in-111 : goal.returns-in-111
unfolding numbers_taken
returns-in-111 c = numbers_is _ _ _ _ 111 c.in-111.is c.take_option.ensures

pub returns-in-100 : goal.returns-in-100
unfolding numbers_taken
returns-in-100 c = numbers_is _ _ _ _ 100 c.in-100.is c.take_name.ensures

pub returns-in-115 : goal.returns-in-115
unfolding numbers_taken
returns-in-115 c = numbers_is _ _ _ _ 115 c.in-115.is c.take_name-in-115.ensures

pub returns-in-42 : goal.returns-in-42
unfolding numbers_taken
returns-in-42 c = numbers_is _ _ _ _ 42 c.in-42.is c.take_pairs.ensures

pub returns-in_default : goal.returns-in_default
returns-in_default c = search (rules, numbers_none)
