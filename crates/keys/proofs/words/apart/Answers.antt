-- `keys::words::apart` meets its contract: the law of leading zeros at 64 bits.
use native.Mathlib.Omega.{arith}
use lib.Bits.{bit_xor}
use lib.Count.{leading_le}
use Rattle.keys.proofs.Leading.{leading_distance}
use Rattle.keys.proofs.words.apart.Goals as goal

pub overflow_sub-result : goal.overflow_sub-result
overflow_sub-result c = omega (arith, leading_le 64 (bit_xor c.args.a c.args.b))

pub returns : goal.returns
returns c = omega (arith, leading_distance 64 c.args.a c.args.b c.ranges.a.fits c.ranges.b.fits)
