-- `keys::mask::with_part` meets its contract.
use mathlib.Core.Path.{sym, ap, ap₂, subst, ◌∙◌}
use Prim.Native.Nat.{ℕ, ◌+◌, ◌-◌, ◌*◌, ◌^◌, ◌<◌}
use native.Mathlib.Omega.{arith}
use lib.Pow.{pow_pos}
use Rattle.keys.specs.Table.{code_bits, code_sort}
use Rattle.keys.specs.Ordered.{pair_form}
use Rattle.keys.proofs.PartLaws.{formed_fits}
use Rattle.keys.proofs.Tables.{part_bits, to_shift, ones_under}
use Rattle.keys.proofs.mask.with_part.Goals as goal

pub ones-requires : goal.ones-requires
ones-requires c =
    let p = part_bits c.args.code c.requires.code_value in
    let e = c.bits-b.ensures.0 in
    (omega arith, omega arith)

pub shifted-requires : goal.shifted-requires
shifted-requires c =
    let code = c.args.code in
    let e = c.bits-b.ensures.0 in
    to_shift _ _ _ _ code e c.requires.code_value c.requires.full_bound (ones_under _ _ code c.ones.ensures e)

pub shifted-requires-2 : goal.shifted-requires-2
shifted-requires-2 c =
    let code = c.args.code in
    let w = code_bits code in
    to_shift _ _ _ _ code c.bits-b.ensures.0 c.requires.code_value c.requires.flip_bound (subst (λ n. n < 2 ^ w) (sym c.part_flip.ensures) (formed_fits w (code_sort code) (pow_pos w)))

pub returns : goal.returns
returns c =
    let m = c.args.m in
    let e = c.bits-b.ensures.0 in
    record {
      full = c.shifted.ensures ∙ ap₂ (λ (b x : ℕ). pair_form m.full.0 m.full.1 * 2 ^ b + x) e (c.ones.ensures ∙ ap (λ (b : ℕ). 2 ^ b - 1) e);
      flip = c.shifted-2.ensures ∙ ap₂ (λ (b x : ℕ). pair_form m.flip.0 m.flip.1 * 2 ^ b + x) e c.part_flip.ensures;
    }
