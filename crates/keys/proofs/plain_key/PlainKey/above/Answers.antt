-- `keys::Plain::above` meets its contract: a plain number is its own ordered form.
use mathlib.Core.Path.{refl}
use Rattle.keys.specs.Parts.{formed}
use Rattle.keys.proofs.plain_key.PlainKey.above.Goals as goal

pub returns : goal.returns
unfolding formed
returns c = refl
