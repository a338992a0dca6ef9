-- `keys::packing::shifted_down` meets its contract.
use Rattle.keys.proofs.Shifts.{down_second_fits, down_words, down_word}
use borrow.Author.Rules.{rules}
use Rattle.keys.proofs.packing.shifted_down.Goals as goal

pub returns-then-bits-eq64 : goal.returns-then-bits-eq64
returns-then-bits-eq64 c = down_word c.args.number.0 c.args.number.1 c.args.bits (search rules) (search rules) c.requires.1 c.if-bits-eq64.true

pub overflow_add-result : goal.overflow_add-result
overflow_add-result c = record { fits = down_second_fits c.args.number.0 c.args.number.1 c.args.bits (search rules) (search rules) c.requires.1 }

pub returns : goal.returns
returns c = down_words c.args.number.0 c.args.number.1 c.args.bits (search rules) (search rules) c.requires.1
