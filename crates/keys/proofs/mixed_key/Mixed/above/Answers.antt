-- `keys::Mixed::above` meets its contract.
use mathlib.Core.Path.{ap₂, ◌∙◌}
use lib.Dec.{ltb}
use Rattle.keys.proofs.mixed_key.Mixed.above.Goals as goal

pub returns : goal.returns
returns c = c.above.ensures ∙ ap₂ ltb c.form-2.ensures c.form.ensures
