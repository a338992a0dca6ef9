-- `keys::table::later_fit` meets its contract.
use mathlib.Core.Path.{sym, ap, ◌∙◌}
use mathlib.Core.Bool.{true≢false}
use mathlib.Core.Logic.{◌≢◌}
use borrow.Author.Tests.{ne_eqb}
use Rattle.keys.specs.Table.{is_part}
use Rattle.keys.proofs.Tables.{part_none}
use Rattle.keys.proofs.table.later_fit.Goals as goal

pub returns-then-is_part : goal.returns-then-is_part
returns-then-is_part c =
    let third = c.args.third in
    let some : third ≢ 0 = λ e. true≢false (sym c.if-is_part.true ∙ c.is_part-2.ensures ∙ ap is_part e ∙ part_none) in
    c.is_part-then-is_part.ensures ∙ sym (simp (ne_eqb third 0 some, sym c.is_part-2.ensures ∙ c.if-is_part.true, ne_eqb c.args.fourth 0 c.if-fourth-eq0.false))
