-- What the code computes from a mixed key's table, once for many keys: two words that have the bits of a key set, and two that
-- have the bits set that the ordered form flips. Contracts of inner functions cite these; a reader of the promises need not.
use Rattle.std.specs.Prelude.{◌≡◌, List, ℕ, ◌-◌, ◌^◌, ◌≤◌, ◌<◌}
use Rattle.std.specs.Int.Bits.{bit_xor, bit_and}
use Rattle.keys.specs.declared.kind.Kind.{Kind}
use Rattle.keys.specs.declared.mask.Masks.{Masks}
use Rattle.keys.specs.Parts.{Part, total, form}
use Rattle.keys.specs.Table.{mixed_parts}
use Rattle.keys.specs.Ordered.{pair_form}

pub record Masked (m : Masks) (ps : List Part) : Type 0 where
  pub full : pair_form m.full.0 m.full.1 ≡ 2 ^ total ps - 1
  pub flip : pair_form m.flip.0 m.flip.1 ≡ form ps 0

-- the masks are those of the kind; only kind 5 has a use for them
pub record Reads (m : Masks) (kind : Kind) : Type 0 where
  pub mixed : kind.number ≡ 5 → Masked m (mixed_parts kind.table)

-- the ordered form of the key with these words, word by word
unfoldable pub masked : Masks → ℕ → ℕ → ℕ
masked m a b = pair_form (bit_xor (bit_and a m.full.0) m.flip.0) (bit_xor (bit_and b m.full.1) m.flip.1)

-- the number of two words may go up by this many places, in two words, with `below` in the places below
pub record Shifts (high low bits below : ℕ) : Type 0 where
  pub some : 1 ≤ bits
  pub most : bits ≤ 64
  pub under : below < 2 ^ bits
  pub room : pair_form high low < 2 ^ (128 - bits)
