-- `keys::mask::ones` meets its contract.
use mathlib.Core.Path.{◌≡◌, subst}
use Prim.Native.Nat.{◌+◌, ◌-◌, ◌/◌, ◌^◌}
use native.Mathlib.Omega.{arith}
use Rattle.keys.proofs.Shifts.{ones_shr}
use Rattle.keys.proofs.mask.ones.Goals as goal

pub returns : goal.returns
returns c =
    let b = c.args.bits in
    subst (λ n. (2 ^ n - 1) / 2 ^ (64 - b) ≡ 2 ^ b - 1) (let e : b + (64 - b) ≡ 64 = omega arith in e) (ones_shr b (64 - b))
