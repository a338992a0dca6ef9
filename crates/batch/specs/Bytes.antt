-- Numbers as bytes, "little-endian": the lowest byte first.
use Rattle.std.specs.Prelude.{List, [], ◌∷◌, ◌++◌, ℕ, zero, suc, ◌+◌, ◌*◌, ◌/◌, ◌%◌, length, get_or, take, drop}

-- the number in n bytes from a place on
unfoldable pub number : ℕ → List ℕ → ℕ → ℕ
number zero bs at = 0
number (suc n) bs at = get_or bs at 0 + 256 * number n bs (at + 1)

-- the n lowest bytes of a number
unfoldable pub bytes_of : ℕ → ℕ → List ℕ
bytes_of zero x = []
bytes_of (suc n) x = x % 256 ∷ bytes_of n (x / 256)

-- new bytes over the old ones from a place on, "and nothing past them"
unfoldable pub written_at : ℕ → List ℕ → List ℕ → List ℕ
written_at at new old = take at old ++ new ++ drop (at + length new) old
