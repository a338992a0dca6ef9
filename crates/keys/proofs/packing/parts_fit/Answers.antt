-- `keys::packing::parts_fit` meets its contract: the table and the parts are tested one by one.
use mathlib.Core.Path.{◌≡◌, refl, sym, ap, ◌∙◌}
use mathlib.Core.Bool.{Bool, ◌&&◌}
use Rattle.keys.specs.Table.{table_fits}
use Rattle.keys.specs.Packing.{part_fits}
use Rattle.keys.proofs.Tables.{and_then, and_else}
use Rattle.keys.proofs.Packed.{fits_by}
use Rattle.keys.proofs.packing.parts_fit.Goals as goal
use Rattle.keys.proofs.packing.parts_fit.Goals.{Joined-part_fits-2, then-table_fits, else-table_fits, then-part_fits, else-part_fits, then-part_fits-2, else-part_fits-2}

-- the tests so far, as one Boolean
tested : (c : Joined-part_fits-2) → c.if-part_fits-2.value ≡ (table_fits c.args.table && part_fits c.args.table.first c.args.parts.first && part_fits c.args.table.second c.args.parts.second && part_fits c.args.table.third c.args.parts.third)
tested c =
    let t = c.args.table in
    let x = c.args.parts in
    let one : c.if-table_fits.value ≡ (c.table_fits.result && part_fits t.first x.first) = elim c.if-table_fits.branch [
      | then-table_fits w ↦ and_then w.if-table_fits.true (w.value-is ∙ w.part_fits.ensures)
      | else-table_fits w ↦ and_else _ w.if-table_fits.false w.value-is
    ] in
    let two : c.if-part_fits.value ≡ (c.if-table_fits.value && part_fits t.second x.second) = elim c.if-part_fits.branch [
      | then-part_fits w ↦ and_then w.if-part_fits.true (w.value-is ∙ w.part_fits-then-part_fits.ensures)
      | else-part_fits w ↦ and_else _ w.if-part_fits.false w.value-is
    ] in
    let three : c.if-part_fits-2.value ≡ (c.if-part_fits.value && part_fits t.third x.third) = elim c.if-part_fits-2.branch [
      | then-part_fits-2 w ↦ and_then w.if-part_fits-2.true (w.value-is ∙ w.part_fits-then-part_fits-2.ensures)
      | else-part_fits-2 w ↦ and_else _ w.if-part_fits-2.false w.value-is
    ] in
    three
    ∙ ap (λ (b : Bool). b && part_fits t.third x.third)
    (two ∙ ap (λ (b : Bool). b && part_fits t.second x.second) (one ∙ ap (λ (b : Bool). b && part_fits t.first x.first) c.table_fits.ensures))

pub returns-then-part_fits-3 : goal.returns-then-part_fits-3
returns-then-part_fits-3 c =
    and_then (sym (tested c.before.before) ∙ c.if-part_fits-3.true) c.part_fits-then-part_fits-3.ensures ∙ sym (fits_by c.args.table c.args.parts refl refl refl refl refl)

pub returns-else-part_fits-3 : goal.returns-else-part_fits-3
returns-else-part_fits-3 c =
    let e = tested c.before in
    and_else _ (sym e ∙ c.if-part_fits-3.false) e ∙ sym (fits_by c.args.table c.args.parts refl refl refl refl refl)
