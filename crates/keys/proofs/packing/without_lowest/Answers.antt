-- `keys::packing::without_lowest` meets its contract.
use mathlib.Core.Path.{ap, ◌∙◌}
use Prim.Native.Nat.{ℕ, ◌/◌, ◌^◌}
use Rattle.keys.specs.Ordered.{pair_form}
use Rattle.keys.proofs.Packed.{none_above}
use Rattle.keys.proofs.packing.without_lowest.Goals as goal

pub returns-then-b-eq0 : goal.returns-then-b-eq0
returns-then-b-eq0 c =
    let a = c.args in
    let b = c.bits-b in
    none_above a.code b.result (pair_form a.key.0 a.key.1) b.ensures.0 c.if-b-eq0.true

pub returns : goal.returns
returns c =
    let a = c.args in
    c.shifted_down-high.ensures ∙ ap (λ (n : ℕ). pair_form a.key.0 a.key.1 / 2 ^ n) c.bits-b.ensures.0
