-- `keys::table::bits` meets its contract.
use mathlib.Core.Path.{refl}
use Rattle.keys.specs.Table.{code_bits}
use borrow.Author.Rules.{rules}
use Rattle.keys.proofs.table.bits.Goals as goal

pub returns : goal.returns
unfolding code_bits
returns c = (refl, search rules)
