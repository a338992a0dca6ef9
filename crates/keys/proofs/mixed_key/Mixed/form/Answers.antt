-- `keys::Mixed::form` meets its contract.
use mathlib.Core.Path.{refl}
use Rattle.keys.specs.Masks.{masked}
use Rattle.keys.proofs.mixed_key.Mixed.form.Goals as goal

pub returns : goal.returns
unfolding masked
returns c = refl
