-- The small table that describes a mixed key, and document 02's limits for it: "two to four components, each 8, 16, 32 or 64
-- bits, unsigned, signed or reversed", "the total is at most 128 bits".
use Rattle.std.specs.Prelude.{Bool, cond, ◌&&◌, ◌||◌, List, [], ◌∷◌, ℕ, ◌*◌, ◌/◌, ◌%◌, eqb, leb}
use Rattle.keys.specs.declared.kind.Table.{Table}
use Rattle.keys.specs.declared.kind.Kind.{Kind}
use Rattle.keys.specs.Parts.{Sort, unsigned, signed, reversed, Part, part, total}

-- the parts of a key of one word, and of two
abbrev pub one_word : Sort → List Part
one_word s = part 64 s ∷ []

abbrev pub two_words : List Part
two_words = part 64 unsigned ∷ part 64 unsigned ∷ []

-- A part's code is its bits plus 0 for unsigned, 1 for signed, 2 for reversed; 0 stands where there is no part.
unfoldable pub code_bits : ℕ → ℕ
code_bits c = 8 * (c / 8)

unfoldable pub code_sort : ℕ → Sort
code_sort c = cond (eqb (c % 8) 2) reversed (cond (eqb (c % 8) 1) signed unsigned)

unfoldable pub code_part : ℕ → Part
unfolding code_bits code_sort
code_part c = part (code_bits c) (code_sort c)

unfoldable pub is_part : ℕ → Bool
unfolding code_bits
is_part c = leb (c % 8) 2 && (eqb (code_bits c) 8 || (eqb (code_bits c) 16 || (eqb (code_bits c) 32 || eqb (code_bits c) 64)))

-- the parts of a table, high part first: the used entries stand first
unfoldable pub table_parts : Table → List Part
unfolding code_part
table_parts t =
    code_part t.first ∷ code_part t.second
    ∷ cond (eqb t.third 0) [] (code_part t.third ∷ cond (eqb t.fourth 0) [] (code_part t.fourth ∷ []))

-- "A table that breaks these limits": not this one
unfoldable pub table_fits : Table → Bool
unfolding is_part table_parts total
table_fits t =
    is_part t.first && is_part t.second
    && cond (eqb t.third 0) (eqb t.fourth 0) (is_part t.third && (eqb t.fourth 0 || is_part t.fourth))
    && leb (total (table_parts t)) 128

-- the parts of a mixed key with this table; one that breaks the limits is read as two words, and a heap refuses it before that
unfoldable pub mixed_parts : Table → List Part
unfolding table_fits
mixed_parts t = cond (table_fits t) (table_parts t) two_words

unfoldable pub table_zero : Table → Bool
table_zero t = eqb t.first 0 && eqb t.second 0 && eqb t.third 0 && eqb t.fourth 0

-- a kind that a heap may have: "A table that breaks these limits, or isn't zero in another kind, is code 1"
unfoldable pub kind_fits : Kind → Bool
unfolding table_fits table_zero
kind_fits kind = leb 1 kind.number && leb kind.number 6 && cond (eqb kind.number 5) (table_fits kind.table) (table_zero kind.table)

-- four codes, high part first
abbrev pub table_of : ℕ → ℕ → ℕ → ℕ → Table
table_of a b c d = record { first = a; second = b; third = c; fourth = d }

-- the kinds of document 01 have no table
abbrev pub bare : ℕ → Kind
bare n = record { number = n; table = table_of 0 0 0 0 }

-- kind 5 with a table
abbrev pub mixed : Table → Kind
mixed t = record { number = 5; table = t }
