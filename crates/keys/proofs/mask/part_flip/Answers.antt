-- `keys::mask::part_flip` meets its contract: the bits of the ordered form of 0.
use mathlib.Core.Path.{sym, ap, ◌∙◌}
use Prim.Native.Nat.{ℕ, ◌-◌, ◌*◌, ◌%◌, ◌^◌}
use native.Mathlib.Omega.{arith}
use Rattle.keys.specs.Table.{code_bits}
use Rattle.keys.proofs.Tables.{part_bits, flip_reversed, flip_signed, flip_plain}
use Rattle.keys.proofs.mask.part_flip.Goals as goal

pub ones-requires : goal.ones-requires
ones-requires c =
    let p = part_bits c.args.code c.requires in
    let e = c.bits-b.ensures.0 in
    (omega arith, omega arith)

pub returns-in-2 : goal.returns-in-2
returns-in-2 c =
    let code = c.args.code in
    c.ones.ensures ∙ ap (λ (b : ℕ). 2 ^ b - 1) c.bits-b.ensures.0 ∙ sym (flip_reversed code (code_bits code) c.in-2.is)

pub overflow_sub-result : goal.overflow_sub-result
overflow_sub-result c =
    let p = part_bits c.args.code c.requires in
    let e = c.bits-b.ensures.0 in
    omega arith

pub overflow_shl-result : goal.overflow_shl-result
overflow_shl-result c =
    let p = part_bits c.args.code c.requires in
    let e = c.bits-b.ensures.0 in
    omega arith

pub returns-in-1 : goal.returns-in-1
returns-in-1 c =
    let code = c.args.code in
    let p = part_bits code c.requires in
    ap (λ (b : ℕ). 1 * 2 ^ (b - 1) % 2 ^ 64) c.bits-b.ensures.0 ∙ sym (flip_signed code (code_bits code) (λ f. omega arith) c.in-1.is (omega arith) p.1)

pub returns-in_default : goal.returns-in_default
returns-in_default c =
    let code = c.args.code in
    sym (flip_plain code (code_bits code) (λ f. omega arith) (λ f. omega arith))
