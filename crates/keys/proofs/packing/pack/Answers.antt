-- `keys::packing::pack` meets its contract.
use mathlib.Core.Path.{sym, ◌∙◌}
use Rattle.keys.proofs.packing.pack.Goals as goal

pub returns-then-not-parts_fit : goal.returns-then-not-parts_fit
returns-then-not-parts_fit c =
    let a = c.args in
    let f = c.parts_fit in
    let no = sym f.ensures ∙ c.if-not-parts_fit.true in
    record { fits = sym no; key = tt }

pub join-requires : goal.join-requires
join-requires c =
    let f = c.parts_fit in
    sym f.ensures ∙ c.if-not-parts_fit.false

pub returns : goal.returns
returns c =
    let f = c.parts_fit in
    record { fits = sym (sym f.ensures ∙ c.if-not-parts_fit.false); key = c.join.ensures }
