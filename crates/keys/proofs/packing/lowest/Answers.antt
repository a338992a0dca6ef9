-- `keys::packing::lowest` meets its contract.
use mathlib.Core.Path.{ap, ◌∙◌}
use Prim.Native.Nat.{ℕ, ◌%◌, ◌^◌}
use lib.Bits.{bit_and, and_mask}
use Rattle.keys.specs.Ordered.{pair_form}
use Rattle.keys.proofs.Shifts.{low_bits}
use Rattle.keys.proofs.Packed.{none_lowest}
use borrow.Author.Rules.{rules}
use Rattle.keys.proofs.packing.lowest.Goals as goal

pub returns-then-b-eq0 : goal.returns-then-b-eq0
returns-then-b-eq0 c =
    let a = c.args in
    let b = c.bits-b in
    none_lowest a.code b.result (pair_form a.key.0 a.key.1) b.ensures.0 c.if-b-eq0.true

pub returns : goal.returns
returns c =
    let a = c.args in
    let k = a.key in
    let b = c.bits-b in
    ap (bit_and k.1) c.ones.ensures ∙ and_mask k.1 b.result
    ∙ ap (λ (n : ℕ). k.1 % 2 ^ n) b.ensures.0 ∙ low_bits k.0 k.1 _ (search rules) (search rules) c.requires
