-- `keys::table::is_part` meets its contract.
use mathlib.Core.Path.{sym, ◌∙◌}
use native.Mathlib.Omega.{arith}
use borrow.Author.Tests.{lt-leb}
use Rattle.std.proofs.lemmas.Bool.Decides.{nat_tests}
use Rattle.keys.proofs.Tables.{no_sort, by_bits}
use Rattle.keys.proofs.table.is_part.Goals as goal

pub returns-in-8 : goal.returns-in-8
returns-in-8 c = sym (by_bits c.args.code c.bits.result c.if-code-le2.true c.bits.ensures.0 ∙ grind (arith, nat_tests))

pub returns-in_default : goal.returns-in_default
returns-in_default c = sym (by_bits c.args.code c.bits.result c.if-code-le2.true c.bits.ensures.0 ∙ grind (arith, nat_tests))

pub returns-else-code-le2 : goal.returns-else-code-le2
returns-else-code-le2 c =
    let n = c.args.code in
    lt-leb _ 2 c.if-code-le2.false ∙ sym (no_sort n c.if-code-le2.false)
