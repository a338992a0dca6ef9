-- `keys::Float::distance` meets its contract: floats are as far apart as their patterns.
use mathlib.Core.Path.{sym, ◌∙◌}
use Rattle.keys.proofs.Floats.{float_keeps}
use borrow.Author.Rules.{rules}
use Rattle.keys.proofs.float_key.FloatKey.distance.Goals as goal

pub returns : goal.returns
returns c = c.apart.ensures ∙ sym (float_keeps c.args.self.0 c.args.other.0 (search rules) (search rules))
