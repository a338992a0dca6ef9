-- `keys::table::table_fits` meets its contract: the limits are tested one by one.
use mathlib.Core.Path.{◌≡◌, sym, ap, ◌∙◌}
use mathlib.Core.Bool.{Bool, ◌&&◌}
use Prim.Native.Nat.{ℕ}
use lib.Dec.{leb}
use Rattle.keys.specs.Table.{is_part}
use Rattle.keys.proofs.Tables.{and_then, and_else, fits_all, third}
use Rattle.keys.proofs.table.table_fits.Goals as goal
use Rattle.keys.proofs.table.table_fits.Goals.{Joined-is_part-2, then-is_part, else-is_part, then-is_part-2, else-is_part-2}

-- the tests so far, as one Boolean
tested : (c : Joined-is_part-2) → c.if-is_part-2.value ≡ (is_part c.args.table.first && is_part c.args.table.second && third c.args.table)
tested c =
    let t = c.args.table in
    let two : c.if-is_part.value ≡ (c.is_part.result && is_part t.second) = elim c.if-is_part.branch [
      | then-is_part w ↦ and_then w.if-is_part.true (w.value-is ∙ w.is_part-then-is_part.ensures)
      | else-is_part w ↦ and_else _ w.if-is_part.false w.value-is
    ] in
    let all : c.if-is_part-2.value ≡ (c.if-is_part.value && third t) = elim c.if-is_part-2.branch [
      | then-is_part-2 w ↦ and_then w.if-is_part-2.true (w.value-is ∙ w.later_fit.ensures)
      | else-is_part-2 w ↦ and_else _ w.if-is_part-2.false w.value-is
    ] in
    all ∙ ap (λ (x : Bool). x && third t) (two ∙ ap (λ (x : Bool). x && is_part t.second) c.is_part.ensures)

pub returns-then-later_fit : goal.returns-then-later_fit
returns-then-later_fit c =
    and_then (sym (tested c.before.before) ∙ c.if-later_fit.true) (ap (λ (n : ℕ). leb n 128) c.total.ensures) ∙ sym (fits_all c.args.table)

pub returns-else-later_fit : goal.returns-else-later_fit
returns-else-later_fit c =
    let e = tested c.before in
    and_else _ (sym e ∙ c.if-later_fit.false) e ∙ sym (fits_all c.args.table)
