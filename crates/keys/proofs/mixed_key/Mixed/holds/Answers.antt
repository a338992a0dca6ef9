-- `keys::Mixed::holds` meets its contract.
use mathlib.Core.Path.{ap}
use mathlib.Core.Bool.{not}
use Rattle.keys.proofs.mixed_key.Mixed.holds.Goals as goal

pub returns : goal.returns
returns c = ap not c.above.ensures
