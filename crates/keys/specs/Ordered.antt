-- The table of keys, document 01's with document 02's kinds 5 and 6: the bits, the words and the ordered form of each kind.
-- "Keys compare as their ordered forms."
--
--   kind  Rust key         bits B  parts, high part first      ordered form
--   1     u64              64      one word                    the number
--   2     i64              64      one signed word             the number plus 2^63
--   3     Reverse of u64   64      one reversed word           2^64 - 1 minus the number
--   4     (u64, u64)       128     two words                   first times 2^64 plus second
--   5     a mixed key      total   those of its table          the parts' ordered forms joined
--   6     f64              64      -                           `float_form` of its pattern
--
-- `kind_1` to `kind_4` and `kind_6` in proofs/Ordered have the right column as equations. A kind that the table does not have is read as 1, and a table that breaks its
-- limits as two words, so that each definition has one meaning for every kind.
use Rattle.std.specs.Prelude.{Bool, cond, not, ◌&&◌, ◌||◌, List, ℕ, ◌+◌, ◌*◌, ◌^◌, eqb, ltb, ℤ, pos, nat_abs, ◌+ℤ◌}
use Rattle.keys.specs.declared.kind.Kind.{Kind}
use Rattle.keys.specs.Parts.{Sort, unsigned, signed, reversed, Part, total, form}
use Rattle.keys.specs.Table.{one_word, two_words, mixed_parts}
use Rattle.keys.specs.Floats.{float_form, is_nan}

-- how the word of a key of one word is read
unfoldable pub word_sort : ℕ → Sort
word_sort n = cond (eqb n 3) reversed (cond (eqb n 2) signed unsigned)

-- a key of this kind takes two words: "the pool has 2n key words, as kind 4"
unfoldable pub is_wide : Kind → Bool
is_wide kind = eqb kind.number 4 || eqb kind.number 5

unfoldable pub words : Kind → ℕ
unfolding is_wide
words kind = cond (is_wide kind) 2 1

-- the parts of a key of this kind; of a float, which has none, they say the width
unfoldable pub parts : Kind → List Part
unfolding word_sort mixed_parts
parts kind =
    cond (eqb kind.number 5) (mixed_parts kind.table)
    (cond (eqb kind.number 4) two_words (one_word (word_sort kind.number)))

-- how many bits a key has
unfoldable pub width : Kind → ℕ
unfolding parts total
width kind = total (parts kind)

-- "first times 2^64 plus second"
abbrev pub pair_form : ℕ → ℕ → ℕ
pair_form a b = a * 2 ^ 64 + b

-- the key with these words as one number, "packed high part first into the two words"
unfoldable pub packed : Kind → ℕ → ℕ → ℕ
unfolding is_wide
packed kind a b = cond (is_wide kind) (pair_form a b) a

-- the ordered form of the key with these words
unfoldable pub ordered : Kind → ℕ → ℕ → ℕ
unfolding parts packed form float_form
ordered kind a b = cond (eqb kind.number 6) (float_form a) (form (parts kind) (packed kind a b))

-- "the number plus 2^63", of an i64 itself
unfoldable pub ordered_number : ℤ → ℕ
ordered_number z = nat_abs (z +ℤ pos (2 ^ 63))

-- "the second word in kinds 1 to 3" is zero, and in kind 6; in kind 5 no bit is set above the total: else code 5
unfoldable pub well_formed : Kind → ℕ → ℕ → Bool
unfolding width
well_formed kind a b = eqb kind.number 4 || cond (eqb kind.number 5) (ltb (pair_form a b) (2 ^ width kind)) (eqb b 0)

-- "a NaN key is new code 9"
unfoldable pub nan_key : Kind → ℕ → Bool
unfolding is_nan
nan_key kind a = eqb kind.number 6 && is_nan a

-- what a key in a pool and the top must be: else code 2
unfoldable pub proper : Kind → ℕ → ℕ → Bool
unfolding well_formed nan_key
proper kind a b = well_formed kind a b && not (nan_key kind a)
