-- `keys::packing::part_fits` meets its contract.
use mathlib.Core.Path.{sym, ◌∙◌}
use borrow.Author.Tests.{lt-ltb}
use Rattle.keys.proofs.Packed.{wide_fits, narrow_fits}
use borrow.Author.Rules.{rules}
use Rattle.keys.proofs.packing.part_fits.Goals as goal

pub returns-then-b-gt63 : goal.returns-then-b-gt63
returns-then-b-gt63 c =
    let a = c.args in
    let b = c.bits-b in
    lt-ltb 63 b.result c.if-b-gt63.true ∙ sym (wide_fits a.code a.part b.result b.ensures.0 c.if-b-gt63.true (search rules))

pub returns-else-b-gt63 : goal.returns-else-b-gt63
returns-else-b-gt63 c =
    let a = c.args in
    let b = c.bits-b in
    narrow_fits a.code a.part b.result b.ensures.0 c.if-b-gt63.false
