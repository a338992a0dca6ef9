-- `keys::signed_key::U64FromSigned::from` meets its contract: the cast gives the word that stands for the number.
use mathlib.Core.Path.{◌≡◌, sym, ap, ◌∙◌}
use Prim.Native.Nat.{◌<◌, ◌^◌}
use borrow.Author.Rules.{rules}
use lib.IntN.{ℤ, pos, ◌+ℤ◌}
use lib.Signed.{mag}
use mir.Facts.{to_z-of_z}
use mir.Syntax.{w64}
use mir.Val.{to_z, of_z}
use Rattle.keys.specs.Parts.{formed}
use Rattle.keys.proofs.Twos.{cast_moved}
use Rattle.keys.proofs.signed_key.U64FromSigned.from.Goals as goal

pub returns : goal.returns
unfolding formed
returns c =
    let z = c.args.key.0 in
    let f : mag z < 2 ^ 63 = search rules in
    let back : to_z w64 (of_z w64 z) ≡ z = to_z-of_z {w = w64} (record { sfits = f }) in
    let word : c.cast_unsigned.result ≡ of_z w64 z = c.cast_unsigned.ensures ∙ ap (of_z w64) back in
    ap (λ (y : ℤ). y +ℤ pos (2 ^ 63)) (sym (ap (to_z w64) word ∙ back)) ∙ cast_moved c.cast_unsigned.result (search rules)
