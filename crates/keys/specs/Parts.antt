-- Keys of several parts, over any list of parts: what a packed number's parts are, and its ordered form.
--
-- A key is packed as one number, "high part first": a part stands above all later ones. "The ordered form" is "the parts'
-- ordered forms joined, and B ... their total". A key of one word is a list of one part, a pair of words a list of two.
use Rattle.std.specs.Prelude.{List, [], ◌∷◌, ℕ, ◌+◌, ◌-◌, ◌*◌, ◌/◌, ◌%◌, ◌^◌}

-- "unsigned, signed or reversed"
pub data Sort : Type 0 where
  unsigned : Sort
  signed : Sort
  reversed : Sort

pub record Part : Type 0 where
  pub bits : ℕ
  pub sort : Sort

abbrev pub part : ℕ → Sort → Part
part w s = record { bits = w; sort = s }

-- how many bits the parts have together
unfoldable pub total : List Part → ℕ
total [] = 0
total (p ∷ ps) = p.bits + total ps

-- The ordered form of x, a part of w bits. A signed number is held as its two's complement pattern: the number plus half the
-- range is the pattern plus half the range, less the range where that is passed.
unfoldable pub formed : ℕ → Sort → ℕ → ℕ
formed w unsigned x = x
formed w signed x = (x + 2 ^ (w - 1)) % 2 ^ w
formed w reversed x = 2 ^ w - 1 - x

-- the part p of a packed number, with the parts ps after it
unfoldable pub field : Part → List Part → ℕ → ℕ
unfolding total
field p ps k = k / 2 ^ total ps % 2 ^ p.bits

-- the parts of a packed number, high part first
unfoldable pub fields : List Part → ℕ → List ℕ
unfolding field
fields [] k = []
fields (p ∷ ps) k = field p ps k ∷ fields ps (k % 2 ^ total ps)

-- the ordered form of each part
unfoldable pub forms : List Part → List ℕ → List ℕ
unfolding formed
forms [] xs = []
forms (p ∷ ps) [] = []
forms (p ∷ ps) (x ∷ xs) = formed p.bits p.sort x ∷ forms ps xs

-- numbers of as many bits as the parts, joined into one
unfoldable pub joined : List Part → List ℕ → ℕ
unfolding total
joined [] xs = 0
joined (p ∷ ps) [] = 0
joined (p ∷ ps) (x ∷ xs) = x * 2 ^ total ps + joined ps xs

-- "the ordered form as the parts' ordered forms joined"
unfoldable pub form : List Part → ℕ → ℕ
unfolding forms fields joined
form ps k = joined ps (forms ps (fields ps k))
