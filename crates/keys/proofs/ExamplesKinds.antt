-- The kinds, computed: a kind's parts, its width and its words, and the keys that are well-formed.
use mathlib.Core.Path.{◌≡◌, refl}
use mathlib.Core.Bool.{Bool, true, not, ◌&&◌}
use mathlib.Core.List.{List, [], ◌∷◌, map, length}
use Prim.Native.Nat.{ℕ, ◌*◌, ◌-◌, ◌/◌, ◌%◌, ◌^◌}
use lib.Dec.{eqb}
use Rattle.keys.specs.declared.kind.Kind.{Kind}
use Rattle.keys.specs.Parts.{unsigned, signed, reversed, part}
use Rattle.keys.specs.Table.{bare}
use Rattle.keys.specs.Ordered.{is_wide, words, parts, width, well_formed, proper}
use Rattle.keys.proofs.ExamplesTable.{all, none, below, bytes, mixed}

-- ---- parts, widths and words

-- the used entries of a table, the first one first; two words where the table does not fit
pub parts_are : map (λ (kind : Kind). parts kind) (mixed 9 66 0 0 ∷ mixed 32 16 10 0 ∷ mixed 9 65 18 32 ∷ mixed 64 64 8 0 ∷ bare 5 ∷ [])
    ≡ (part 8 signed ∷ part 64 reversed ∷ [])
    ∷ (part 32 unsigned ∷ part 16 unsigned ∷ part 8 reversed ∷ [])
    ∷ (part 8 signed ∷ part 64 signed ∷ part 16 reversed ∷ part 32 unsigned ∷ [])
    ∷ (part 64 unsigned ∷ part 64 unsigned ∷ [])
    ∷ (part 64 unsigned ∷ part 64 unsigned ∷ []) ∷ []
unfolding parts
parts_are = refl

-- one word, one signed, one reversed, two words; other kinds as 1
pub parts_bare : map (λ (n : ℕ). parts (bare n)) (1 ∷ 2 ∷ 3 ∷ 4 ∷ 0 ∷ 260 ∷ [])
    ≡ (part 64 unsigned ∷ []) ∷ (part 64 signed ∷ []) ∷ (part 64 reversed ∷ []) ∷ (part 64 unsigned ∷ part 64 unsigned ∷ [])
    ∷ (part 64 unsigned ∷ []) ∷ (part 64 unsigned ∷ []) ∷ []
unfolding parts
parts_bare = refl

-- 64 bits in kinds 1 to 3 and 6, 128 in kind 4
pub widths_bare : map (λ (n : ℕ). width (bare n)) (1 ∷ 2 ∷ 3 ∷ 4 ∷ 6 ∷ 0 ∷ 260 ∷ 261 ∷ []) ≡ 64 ∷ 64 ∷ 64 ∷ 128 ∷ 64 ∷ 64 ∷ 64 ∷ 64 ∷ []
unfolding width
widths_bare = refl

-- the total of a table, from the least to the greatest; 128 where it does not fit
pub widths : map (λ (kind : Kind). width kind) (mixed 8 8 0 0 ∷ mixed 9 8 10 0 ∷ mixed 8 8 9 18 ∷ mixed 32 16 10 0 ∷ mixed 34 33 0 0 ∷ mixed 64 8 0 0 ∷ mixed 9 66 0 0
    ∷ mixed 8 65 18 32 ∷ mixed 66 65 0 0 ∷ mixed 64 32 16 16 ∷ mixed 64 64 8 0 ∷ mixed 8 0 8 0 ∷ bare 5 ∷ [])
    ≡ 16 ∷ 24 ∷ 40 ∷ 56 ∷ 64 ∷ 72 ∷ 72 ∷ 120 ∷ 128 ∷ 128 ∷ 128 ∷ 128 ∷ 128 ∷ []
unfolding width
widths = refl

-- one word, in kind 4 two
pub words_bare : map (λ (n : ℕ). words (bare n)) (1 ∷ 2 ∷ 3 ∷ 4 ∷ 6 ∷ 0 ∷ 260 ∷ 261 ∷ []) ≡ 1 ∷ 1 ∷ 1 ∷ 2 ∷ 1 ∷ 1 ∷ 1 ∷ 1 ∷ []
unfolding words
words_bare = refl

-- in kind 5 two, be the total 16 bits
pub words_mixed : map (λ (kind : Kind). words kind) (mixed 8 8 0 0 ∷ mixed 32 16 10 0 ∷ mixed 64 64 0 0 ∷ mixed 64 64 8 0 ∷ []) ≡ 2 ∷ 2 ∷ 2 ∷ 2 ∷ []
unfolding words
words_mixed = refl

-- no other number below 256 is wide
pub wide_two : bytes (λ n. is_wide (bare n)) ≡ 4 ∷ 5 ∷ []
unfolding bytes is_wide
wide_two = refl

-- or has another width than 64
pub widths_other : bytes (λ n. not (eqb (width (bare n)) 64)) ≡ 4 ∷ 5 ∷ []
unfolding bytes width
widths_other = refl

-- ---- well-formed keys

-- the greatest word; as a float's pattern it is a NaN's, and minus infinity's is the greatest that is none
abbrev most : ℕ
most = 2 ^ 64 - 1

abbrev minus_infinity : ℕ
minus_infinity = 4095 * 2 ^ 52

-- a test takes the greatest key: of 16, 56, 64, 72 and 128 bits, of a table that does not fit, of one word, of two
abbrev takes : (Kind → ℕ → ℕ → Bool) → Bool
takes test =
    all (test (mixed 8 8 0 0) 0 (2 ^ 16 - 1) ∷ test (mixed 32 16 10 0) 0 (2 ^ 56 - 1) ∷ test (mixed 34 33 0 0) 0 most
    ∷ test (mixed 64 8 0 0) 255 most ∷ test (mixed 8 64 0 0) 255 most ∷ test (mixed 66 65 0 0) most most ∷ test (mixed 64 64 8 0) most most
    ∷ test (bare 1) most 0 ∷ test (bare 2) most 0 ∷ test (bare 3) most 0 ∷ test (bare 4) most most ∷ test (bare 5) most most
    ∷ test (bare 6) minus_infinity 0 ∷ test (bare 260) most 0 ∷ test (bare 262) most 0 ∷ [])

-- and no key with the bit above these set, or the highest bit of a word, or with a second word in kinds 1 to 3 and 6
abbrev refuses : (Kind → ℕ → ℕ → Bool) → Bool
refuses test =
    none (test (mixed 8 8 0 0) 0 (2 ^ 16) ∷ test (mixed 8 8 0 0) 1 0 ∷ test (mixed 8 8 0 0) 0 (2 ^ 63) ∷ test (mixed 32 16 10 0) 0 (2 ^ 56) ∷ test (mixed 32 16 10 0) 1 0
    ∷ test (mixed 34 33 0 0) 1 0 ∷ test (mixed 34 33 0 0) (2 ^ 63) 0 ∷ test (mixed 64 8 0 0) 256 0 ∷ test (mixed 8 64 0 0) 256 0 ∷ test (mixed 64 8 0 0) (2 ^ 63) 0
    ∷ test (bare 1) 0 1 ∷ test (bare 2) 0 1 ∷ test (bare 3) 0 1 ∷ test (bare 1) 0 most ∷ test (bare 2) 0 most ∷ test (bare 3) 0 most ∷ test (bare 6) 0 1 ∷ test (bare 6) 0 most ∷ test (bare 6) most 1 ∷ test (bare 260) 0 1 ∷ test (bare 261) 0 1 ∷ [])

-- "else code 5"
pub well_formed_lem : (takes (λ kind a b. well_formed kind a b) && refuses (λ kind a b. well_formed kind a b)) ≡ true
unfolding well_formed
well_formed_lem = refl

-- "else code 2"
pub is_proper : (takes (λ kind a b. proper kind a b) && refuses (λ kind a b. proper kind a b)) ≡ true
unfolding proper
is_proper = refl

-- no other number below 256 has a second word
pub second_word : bytes (λ n. well_formed (bare n) 0 1) ≡ 4 ∷ 5 ∷ []
unfolding bytes well_formed
second_word = refl

-- the bits that may be set alone
abbrev set : Kind → List ℕ
set kind = below 128 (λ i. well_formed kind (2 ^ i / 2 ^ 64) (2 ^ i % 2 ^ 64)) []

-- they are as many as the total
pub bits_set : map (λ (kind : Kind). length (set kind)) (mixed 8 8 0 0 ∷ mixed 32 16 10 0 ∷ mixed 34 33 0 0 ∷ mixed 64 8 0 0 ∷ mixed 8 65 18 32 ∷ mixed 66 65 0 0 ∷ bare 4 ∷ [])
    ≡ 16 ∷ 56 ∷ 64 ∷ 72 ∷ 120 ∷ 128 ∷ 128 ∷ []
unfolding below well_formed
bits_set = refl
