-- Keys of several parts as the crate compares them: part by part, with no number packed.
--
-- "The crate's tuple macro gives the rule: a later part counts only if the earlier ones are equal." Here is that rule, for any
-- list of parts. xs and ys are the parts' bit patterns, high part first. proofs/Tuple has that packed keys follow it.
use Rattle.std.specs.Prelude.{Bool, false, cond, List, [], ◌∷◌, ℕ, ◌+◌, ◌-◌, ◌^◌, eqb, ltb, ℤ, pos, ◌-ℤ◌}
use Rattle.std.specs.Int.Signed.{lt_z}
use Rattle.rule.specs.Width.{distance}
use Rattle.keys.specs.Parts.{Sort, unsigned, signed, reversed, Part, total}

-- The number that a pattern x of w bits stands for. Signed is two's complement: from half the range on, x less the range.
unfoldable pub number_of : ℕ → Sort → ℕ → ℤ
number_of w unsigned x = pos x
number_of w signed x = cond (ltb x (2 ^ (w - 1))) (pos x) (pos x -ℤ pos (2 ^ w))
number_of w reversed x = pos x

unfoldable pub part_number : Part → ℕ → ℤ
unfolding number_of
part_number p x = number_of p.bits p.sort x

-- m is above n; reversed numbers compare the other way round
unfoldable pub number_above : Sort → ℤ → ℤ → Bool
number_above unsigned m n = lt_z n m
number_above signed m n = lt_z n m
number_above reversed m n = lt_z m n

unfoldable pub part_above : Part → ℕ → ℕ → Bool
unfolding part_number number_above
part_above p x y = number_above p.sort (part_number p x) (part_number p y)

-- the key of the parts xs is above that of ys
unfoldable pub tuple_above : List Part → List ℕ → List ℕ → Bool
unfolding part_above
tuple_above [] xs ys = false
tuple_above (p ∷ ps) [] ys = false
tuple_above (p ∷ ps) (x ∷ xs) [] = false
tuple_above (p ∷ ps) (x ∷ xs) (y ∷ ys) = cond (eqb x y) (tuple_above ps xs ys) (part_above p x y)

-- How far apart they are. The crate compares a part's bits as they are held, whatever its sort; where two parts differ, all the
-- bits of the later ones count as different.
unfoldable pub tuple_distance : List Part → List ℕ → List ℕ → ℕ
unfolding total distance
tuple_distance [] xs ys = 0
tuple_distance (p ∷ ps) [] ys = 0
tuple_distance (p ∷ ps) (x ∷ xs) [] = 0
tuple_distance (p ∷ ps) (x ∷ xs) (y ∷ ys) = cond (eqb x y) (tuple_distance ps xs ys) (total ps + distance p.bits x y)
