-- `keys::mask::shifted` meets its contract.
use Rattle.keys.proofs.Shifts.{first_fits, second_fits, shifted_words, shifted_word}
use borrow.Author.Rules.{rules}
use Rattle.keys.proofs.mask.shifted.Goals as goal

pub returns-then-bits-eq64 : goal.returns-then-bits-eq64
returns-then-bits-eq64 c = shifted_word c.args.number.0 c.args.number.1 c.args.bits c.args.below (search rules) c.requires c.if-bits-eq64.true

pub overflow_add-result : goal.overflow_add-result
overflow_add-result c = record { fits = first_fits c.args.number.0 c.args.number.1 c.args.bits c.args.below (search rules) c.requires }

pub overflow_add-result-2 : goal.overflow_add-result-2
overflow_add-result-2 c = record { fits = second_fits c.args.number.0 c.args.number.1 c.args.bits c.args.below (search rules) c.requires }

pub returns : goal.returns
returns c = shifted_words c.args.number.0 c.args.number.1 c.args.bits c.args.below (search rules) c.requires
