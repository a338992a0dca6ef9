-- `keys::packing::with_lowest` meets its contract.
use mathlib.Core.Path.{ap, ◌∙◌}
use Prim.Native.Nat.{ℕ, ◌+◌, ◌*◌, ◌^◌}
use Rattle.keys.specs.Ordered.{pair_form}
use Rattle.keys.proofs.Packed.{none_below, some_below}
use Rattle.keys.proofs.packing.with_lowest.Goals as goal

pub returns-then-b-eq0 : goal.returns-then-b-eq0
returns-then-b-eq0 c =
    let a = c.args in
    let b = c.bits-b in
    none_below a.code a.part b.result b.ensures.0 c.requires.part_bound (pair_form a.key.0 a.key.1) c.if-b-eq0.true

pub shifted-high-requires : goal.shifted-high-requires
shifted-high-requires c =
    let a = c.args in
    let b = c.bits-b in
    let p = c.requires in
    some_below a.code a.part b.result b.ensures.0 p.part_bound a.key.0 a.key.1 c.if-b-eq0.false p.code_bound p.key_bound

pub returns : goal.returns
returns c =
    let a = c.args in
    c.shifted-high.ensures ∙ ap (λ (n : ℕ). pair_form a.key.0 a.key.1 * 2 ^ n + a.part) c.bits-b.ensures.0
