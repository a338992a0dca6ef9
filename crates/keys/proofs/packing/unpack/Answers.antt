-- `keys::packing::unpack` meets its contract.
use mathlib.Core.Path.{sym, ◌∙◌}
use Rattle.keys.specs.Packing.{as_parts}
use Rattle.keys.proofs.Packed.{parts_unfit}
use Rattle.keys.proofs.packing.unpack.Goals as goal

pub returns-then-not-table_fits : goal.returns-then-not-table_fits
unfolding as_parts
returns-then-not-table_fits c =
    let f = c.table_fits in
    sym (parts_unfit c.args.table _ (sym f.ensures ∙ c.if-not-table_fits.true))

pub split-requires : goal.split-requires
split-requires c =
    let f = c.table_fits in
    sym f.ensures ∙ c.if-not-table_fits.false
