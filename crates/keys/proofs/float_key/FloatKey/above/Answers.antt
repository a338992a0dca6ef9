-- `keys::Float::above` meets its contract.
use mathlib.Core.Path.{ap₂}
use lib.Dec.{ltb}
use Rattle.keys.proofs.float_key.FloatKey.above.Goals as goal

pub returns : goal.returns
returns c = ap₂ ltb c.form-2.ensures c.form.ensures
