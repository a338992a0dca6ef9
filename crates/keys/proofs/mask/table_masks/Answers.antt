-- `keys::mask::table_masks` meets its contract.
use mathlib.Core.Path.{sym, subst, ◌∙◌}
use Rattle.keys.specs.Masks.{Masked}
use Rattle.keys.proofs.Ordered.{mixed_fit, mixed_unfit}
use Rattle.keys.proofs.mask.table_masks.Goals as goal

pub returns-then-not-table_fits : goal.returns-then-not-table_fits
returns-then-not-table_fits c =
    let f = c.table_fits in
    subst (Masked _) (sym (mixed_unfit c.args.table (sym f.ensures ∙ c.if-not-table_fits.true))) c.whole_words.ensures

pub masks_of-requires : goal.masks_of-requires
masks_of-requires c =
    let f = c.table_fits in
    sym f.ensures ∙ c.if-not-table_fits.false

pub returns : goal.returns
returns c =
    let f = c.table_fits in
    subst (Masked _) (sym (mixed_fit c.args.table (sym f.ensures ∙ c.if-not-table_fits.false))) c.masks_of.ensures
