-- `keys::table::kind_fits` meets its contract.
use mathlib.Core.Path.{sym, ap, ◌∙◌}
use mathlib.Core.Bool.{◌&&◌}
use borrow.Author.Tests.{eqb-true, eqb-false}
use lib.Dec.{eqb}
use Rattle.keys.specs.declared.kind.Table.{Table}
use Rattle.keys.proofs.Tables.{and_then, and_else, and_four, kind_mixed, kind_tested}
use Rattle.keys.proofs.table.kind_fits.Goals as goal

pub returns-then-has_table : goal.returns-then-has_table
returns-then-has_table c = c.table_fits.ensures ∙ sym (kind_mixed c.args.kind (eqb-true _ 5 (sym c.has_table.ensures ∙ c.if-has_table.true)))

pub returns-then-is_known : goal.returns-then-is_known
returns-then-is_known c =
    let kind = c.args.kind in
    let t = kind.table in
    and_then (sym c.is_known.ensures ∙ c.if-is_known.true)
    (c.eq.ensures ∙ ap (λ (z : Table). eqb t.first z.first && (eqb t.second z.second && (eqb t.third z.third && eqb t.fourth z.fourth))) c.of.ensures ∙ and_four (eqb t.first 0) (eqb t.second 0) (eqb t.third 0) (eqb t.fourth 0))
    ∙ sym (kind_tested kind (eqb-false _ 5 (sym c.has_table.ensures ∙ c.if-has_table.false)))

pub returns-else-is_known : goal.returns-else-is_known
returns-else-is_known c =
    let kind = c.args.kind in
    and_else _ (sym c.is_known.ensures ∙ c.if-is_known.false) c.is_known.ensures
    ∙ sym (kind_tested kind (eqb-false _ 5 (sym c.has_table.ensures ∙ c.if-has_table.false)))
