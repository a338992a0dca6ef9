-- `keys::Reversed::distance` meets its contract: reversed numbers are as far apart as the numbers.
use mathlib.Core.Path.{sym, ◌∙◌}
use borrow.Author.Rules.{rules}
use Rattle.keys.specs.Parts.{reversed}
use Rattle.keys.proofs.PartLaws.{formed_keeps}
use Rattle.keys.proofs.reversed_key.ReversedKey.distance.Goals as goal

pub returns : goal.returns
returns c =
    c.apart.ensures ∙ sym (formed_keeps 64 reversed {x = c.args.self.0} {y = c.args.other.0} (search rules) (search rules))
