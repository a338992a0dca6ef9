-- `keys::Signed::above` meets its contract: the ordered forms of signed numbers are in their order.
use mathlib.Core.Path.{sym, ◌∙◌, ap₂}
use Prim.Native.Nat.{◌<◌, ◌^◌}
use borrow.Author.Rules.{rules}
use lib.Signed.{lt_z, mag}
use mir.Syntax.{w64}
use mir.Facts.{to_z-of_z}
use Rattle.keys.proofs.Ordered.{number_order}
use Rattle.keys.proofs.signed_key.SignedKey.above.Goals as goal

pub returns : goal.returns
returns c =
    let y = c.args.other.0 in
    let z = c.args.self.0 in
    let fy : mag y < 2 ^ 63 = search rules in
    let fz : mag z < 2 ^ 63 = search rules in
    ap₂ lt_z (to_z-of_z {w = w64} {z = y} (record { sfits = fy })) (to_z-of_z {w = w64} {z = z} (record { sfits = fz })) ∙ sym (number_order y z fy fz)
