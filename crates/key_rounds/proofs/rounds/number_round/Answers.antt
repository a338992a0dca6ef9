-- `key_rounds::rounds::number_round` meets its contract, at every number: a word has one number.
use mathlib.Core.Path.{◌∙◌}
use mir.Syntax.{w64}
use mir.Facts.{to_z-of_z}
use borrow.Author.Rules.{rules}
use Rattle.keys.proofs.Ordered.{one_number}
use Rattle.key_rounds.proofs.rounds.number_round.Goals as goal

pub returns : goal.returns
returns c =
    to_z-of_z {w = w64} {z = c.from-2.result.0} (record { sfits = search rules })
    ∙ one_number _ _ c.from.result c.from-2.ensures c.from.ensures
    ∙ to_z-of_z {w = w64} {z = c.args.z} c.ranges.z
