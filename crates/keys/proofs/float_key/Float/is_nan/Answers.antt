-- `keys::Float::is_nan` meets its contract.
use mathlib.Core.Path.{refl}
use Rattle.keys.specs.Floats.{is_nan}
use Rattle.keys.proofs.float_key.Float.is_nan.Goals as goal

pub returns : goal.returns
unfolding is_nan
returns c = refl
