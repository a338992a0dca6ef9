-- `keys::Signed::distance` meets its contract: signed numbers are as far apart as their words.
use mathlib.Core.Path.{sym, ap₂, ◌∙◌}
use borrow.Author.Rules.{rules}
use Rattle.rule.specs.Width.{distance}
use Rattle.keys.specs.Parts.{signed}
use Rattle.keys.proofs.PartLaws.{formed_keeps}
use Rattle.keys.proofs.Ordered.{number_word}
use Rattle.keys.proofs.signed_key.SignedKey.distance.Goals as goal

pub returns : goal.returns
returns c =
    let v = c.from in
    let w = c.from-2 in
    c.apart.ensures
    ∙ sym (formed_keeps 64 signed {x = v.result} {y = w.result} (search rules) (search rules))
    ∙ sym (ap₂ (distance 64) (number_word _ _ v.ensures) (number_word _ _ w.ensures))
