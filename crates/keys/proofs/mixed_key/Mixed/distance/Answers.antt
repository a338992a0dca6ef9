-- `keys::Mixed::distance` meets its contract.
use mathlib.Core.Path.{ap₂, ◌∙◌}
use Rattle.rule.specs.Width.{distance}
use Rattle.keys.proofs.mixed_key.Mixed.distance.Goals as goal

pub returns : goal.returns
returns c = c.distance.ensures ∙ ap₂ (distance 128) c.form.ensures c.form-2.ensures
