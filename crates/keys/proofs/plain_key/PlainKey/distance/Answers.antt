-- `keys::Plain::distance` meets its contract: a plain number is its own ordered form.
use Rattle.keys.specs.Parts.{formed}
use Rattle.keys.proofs.plain_key.PlainKey.distance.Goals as goal

pub returns : goal.returns
unfolding formed
returns c = c.apart.ensures
