-- `keys::signed_key::SignedFromU64::from` meets its contract: the cast gives the number that the word stands for.
use mathlib.Core.Path.{◌∙◌}
use native.Mathlib.Omega.{arith}
use mir.Facts.{to_z-of_z}
use mir.Syntax.{w64}
use Rattle.keys.specs.Parts.{formed}
use Rattle.keys.proofs.Twos.{cast_moved_as}
use Rattle.keys.proofs.signed_key.SignedFromU64.from.Goals as goal

pub returns : goal.returns
unfolding formed
returns c =
    cast_moved_as c.args.word (to_z-of_z {w = w64} (record { sfits = c.cast_signed.type_inv }) ∙ c.cast_signed.ensures) (omega (arith, c.ranges.word.fits)) c.ranges.word.fits
