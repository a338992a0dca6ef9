-- `keys::reading::Reader::is_proper` meets its contract.
use mathlib.Core.Path.{sym, ap, ◌∙◌}
use mathlib.Core.Bool.{Bool, not, ◌&&◌}
use Rattle.keys.specs.Ordered.{nan_key, proper}
use Rattle.keys.proofs.reading.Reader.is_proper.Goals as goal

pub returns-then-well_formed : goal.returns-then-well_formed
unfolding proper
returns-then-well_formed c =
    let x = c.args in
    let w = c.well_formed-2 in
    ap not c.is_nan.ensures ∙ sym (ap (λ (y : Bool). y && not (nan_key x.self.kind x.key.first)) (sym w.ensures ∙ c.if-well_formed.true))

pub returns-else-well_formed : goal.returns-else-well_formed
unfolding proper
returns-else-well_formed c =
    let x = c.args in
    let w = c.well_formed-2 in
    c.if-well_formed.false ∙ sym (ap (λ (y : Bool). y && not (nan_key x.self.kind x.key.first)) (sym w.ensures ∙ c.if-well_formed.false))
