-- A mixed key made from its parts, and its parts read back.
--
-- A part is handed over in a word, as its bit pattern: a signed part of w bits as its two's complement pattern of w bits. The parts
-- stand as the entries of the table do, high part first; where the table has no part there is 0.
use Rattle.std.specs.Prelude.{Bool, cond, ◌&&◌, List, [], ◌∷◌, ℕ, ◌^◌, eqb, ltb, get_or}
use Rattle.keys.specs.declared.kind.Table.{Table}
use Rattle.keys.specs.declared.packing.Parts.{Parts}
use Rattle.keys.specs.Parts.{fields, joined}
use Rattle.keys.specs.Table.{code_bits, table_parts, table_fits}

-- a part has no bit above those of its code: where there is no part the code is 0, of 0 bits, and only 0 fits
unfoldable pub part_fits : ℕ → ℕ → Bool
unfolding code_bits
part_fits c x = ltb x (2 ^ code_bits c)

-- the table is within its limits, and each part fits
unfoldable pub parts_fit : Table → Parts → Bool
unfolding table_fits part_fits
parts_fit t x =
    table_fits t && part_fits t.first x.first && part_fits t.second x.second && part_fits t.third x.third && part_fits t.fourth x.fourth

-- the parts that the table has
unfoldable pub used_parts : Table → Parts → List ℕ
used_parts t x =
    x.first ∷ x.second ∷ cond (eqb t.third 0) [] (x.third ∷ cond (eqb t.fourth 0) [] (x.fourth ∷ []))

-- the packed number of parts that fit; others have the number 0, and no bit of them is cut off
unfoldable pub packed_of : Table → Parts → ℕ
unfolding parts_fit used_parts table_parts joined
packed_of t x = cond (parts_fit t x) (joined (table_parts t) (used_parts t x)) 0

-- a list of at most four parts, with 0 where it has none
unfoldable pub as_parts : List ℕ → Parts
as_parts xs = record { first = get_or xs 0 0; second = get_or xs 1 0; third = get_or xs 2 0; fourth = get_or xs 3 0 }

-- the parts of a packed number; a table that breaks its limits has none
unfoldable pub parts_of : Table → ℕ → Parts
unfolding table_fits table_parts fields as_parts
parts_of t k = as_parts (cond (table_fits t) (fields (table_parts t) k) [])
