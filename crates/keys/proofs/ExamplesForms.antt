-- Ordered forms, computed: of each kind, and of each of the twelve parts wherever it stands in a key.
use mathlib.Core.Path.{◌≡◌, refl}
use mathlib.Core.Bool.{Bool, true, not}
use mathlib.Core.List.{[], ◌∷◌}
use Prim.Native.Nat.{ℕ, ◌+◌, ◌*◌, ◌-◌, ◌/◌, ◌%◌, ◌^◌}
use lib.Dec.{eqb}
use lib.IntN.{pos, negsuc}
use Rattle.keys.specs.declared.kind.Kind.{Kind}
use Rattle.keys.specs.Parts.{unsigned, signed, reversed, part, form}
use Rattle.keys.specs.Table.{bare}
use Rattle.keys.specs.Ordered.{packed, ordered, ordered_number}
use Rattle.keys.proofs.ExamplesTable.{all, bytes, mixed}

-- the words of kinds 4 and 5 are packed high word first; in another kind the first word is the key
pub packed_words : all (eqb (packed (bare 4) 3 5) (3 * 2 ^ 64 + 5) ∷ eqb (packed (mixed 8 8 0 0) 3 5) (3 * 2 ^ 64 + 5) ∷ eqb (packed (bare 5) 3 5) (3 * 2 ^ 64 + 5)
    ∷ eqb (packed (bare 1) 3 5) 3 ∷ eqb (packed (bare 2) 3 5) 3 ∷ eqb (packed (bare 3) 3 5) 3 ∷ eqb (packed (bare 6) 3 5) 3 ∷ eqb (packed (bare 255) 3 5) 3 ∷ []) ≡ true
unfolding packed
packed_words = refl

-- the key of a kind with these words has the ordered form y
abbrev reads : ℕ → ℕ → ℕ → ℕ → Bool
reads n a b y = eqb (ordered (bare n) a b) y

-- kinds 1 to 4 (ExamplesFloats has kind 6): the least key, the greatest, and some between; a kind that no heap has as kind 1, a table that does not fit as two words
pub kind_forms : all (reads 1 0 0 0 ∷ reads 1 (2 ^ 64 - 1) 0 (2 ^ 64 - 1) ∷ reads 1 7 0 7
    ∷ reads 2 (2 ^ 63) 0 0 ∷ reads 2 (2 ^ 63 - 1) 0 (2 ^ 64 - 1) ∷ reads 2 0 0 (2 ^ 63) ∷ reads 2 (2 ^ 64 - 1) 0 (2 ^ 63 - 1)
    ∷ reads 3 (2 ^ 64 - 1) 0 0 ∷ reads 3 0 0 (2 ^ 64 - 1) ∷ reads 3 7 0 (2 ^ 64 - 8)
    ∷ reads 4 0 0 0 ∷ reads 4 (2 ^ 64 - 1) (2 ^ 64 - 1) (2 ^ 128 - 1) ∷ reads 4 7 9 (7 * 2 ^ 64 + 9)
    ∷ reads 0 7 0 7 ∷ reads 255 7 0 7 ∷ reads 258 7 0 7 ∷ reads 259 7 0 7 ∷ reads 260 7 0 7 ∷ reads 261 7 0 7 ∷ reads 262 7 0 7 ∷ eqb (ordered (mixed 64 65 10 0) 7 9) (7 * 2 ^ 64 + 9) ∷ []) ≡ true
unfolding ordered
kind_forms = refl

-- every other number of a kind is read as 1
pub kinds_read : bytes (λ n. not (reads n 7 0 7)) ≡ 2 ∷ 3 ∷ 4 ∷ 5 ∷ 6 ∷ []
unfolding bytes ordered
kinds_read = refl

-- the ordered form of an i64 itself: -2^63, -1, 0, 2^63 - 1
pub number_forms : all (eqb (ordered_number (negsuc (2 ^ 63 - 1))) 0 ∷ eqb (ordered_number (negsuc 0)) (2 ^ 63 - 1) ∷ eqb (ordered_number (pos 0)) (2 ^ 63)
    ∷ eqb (ordered_number (pos (2 ^ 63 - 1))) (2 ^ 64 - 1) ∷ []) ≡ true
unfolding ordered_number
number_forms = refl

-- the ordered form of the key that is packed as v
abbrev read : Kind → ℕ → ℕ
read kind v = ordered kind (v / 2 ^ 64) (v % 2 ^ 64)

-- with `high` above it and b unsigned bits below, which all are set, a part x of w bits becomes y, and the others stay
abbrev among : ℕ → ℕ → ℕ → ℕ → ℕ → Kind → Bool
among high b w x y kind = eqb (read kind (high * 2 ^ (w + b) + x * 2 ^ b + (2 ^ b - 1))) (high * 2 ^ (w + b) + y * 2 ^ b + (2 ^ b - 1))

-- the part x of w bits with code c becomes y: as the first of two, the second of two, the third of three, and each of four
abbrev is : ℕ → ℕ → ℕ → ℕ → Bool
is w c x y =
    all (among 0 8 w x y (mixed c 8 0 0) ∷ among 5 0 w x y (mixed 8 c 0 0) ∷ among (5 * 2 ^ 8 + 6) 0 w x y (mixed 8 8 c 0)
    ∷ among 0 24 w x y (mixed c 8 8 8) ∷ among 5 16 w x y (mixed 8 c 8 8) ∷ among (5 * 2 ^ 8 + 6) 8 w x y (mixed 8 8 c 8) ∷ among (5 * 2 ^ 16 + 6 * 2 ^ 8 + 7) 0 w x y (mixed 8 8 8 c) ∷ [])

-- unsigned 8 bits from 0 to 255, signed from -128 by -1 and 0 to 127, reversed from 255 by 3 to 0
pub forms_8 : all (is 8 8 0 0 ∷ is 8 8 3 3 ∷ is 8 8 255 255
    ∷ is 8 9 128 0 ∷ is 8 9 255 127 ∷ is 8 9 0 128 ∷ is 8 9 127 255
    ∷ is 8 10 255 0 ∷ is 8 10 3 252 ∷ is 8 10 0 255 ∷ []) ≡ true
unfolding ordered
forms_8 = refl

-- unsigned 16 bits, signed ones from -32768 to 32767, reversed ones
pub forms_16 : all (is 16 16 0 0 ∷ is 16 16 3 3 ∷ is 16 16 65535 65535
    ∷ is 16 17 32768 0 ∷ is 16 17 65535 32767 ∷ is 16 17 0 32768 ∷ is 16 17 32767 65535
    ∷ is 16 18 65535 0 ∷ is 16 18 3 65532 ∷ is 16 18 0 65535 ∷ []) ≡ true
unfolding ordered
forms_16 = refl

-- 32 bits
pub forms_32 : all (is 32 32 0 0 ∷ is 32 32 3 3 ∷ is 32 32 4294967295 4294967295
    ∷ is 32 33 2147483648 0 ∷ is 32 33 4294967295 2147483647 ∷ is 32 33 0 2147483648 ∷ is 32 33 2147483647 4294967295
    ∷ is 32 34 4294967295 0 ∷ is 32 34 3 4294967292 ∷ is 32 34 0 4294967295 ∷ []) ≡ true
unfolding ordered
forms_32 = refl

-- 64 bits
pub forms_64 : all (is 64 64 0 0 ∷ is 64 64 3 3 ∷ is 64 64 (2 ^ 64 - 1) (2 ^ 64 - 1)
    ∷ is 64 65 (2 ^ 63) 0 ∷ is 64 65 (2 ^ 64 - 1) (2 ^ 63 - 1) ∷ is 64 65 0 (2 ^ 63) ∷ is 64 65 (2 ^ 63 - 1) (2 ^ 64 - 1)
    ∷ is 64 66 (2 ^ 64 - 1) 0 ∷ is 64 66 3 (2 ^ 64 - 4) ∷ is 64 66 0 (2 ^ 64 - 1) ∷ []) ≡ true
unfolding ordered
forms_64 = refl

-- four parts at once: -2 of 8 bits, 3 reversed of 16, -1 of 32, 9 reversed of 64
pub form_four : eqb (read (mixed 9 18 33 66) (254 * 2 ^ 112 + 3 * 2 ^ 96 + 4294967295 * 2 ^ 64 + 9)) (126 * 2 ^ 112 + 65532 * 2 ^ 96 + 2147483647 * 2 ^ 64 + (2 ^ 64 - 10)) ≡ true
unfolding ordered
form_four = refl

-- a bit above the total is not read
pub form_above : all (eqb (read (mixed 8 8 0 0) (2 ^ 16 + 7)) 7 ∷ eqb (read (mixed 10 8 0 0) (2 ^ 16 + 7)) 65287 ∷ []) ≡ true
unfolding ordered
form_above = refl

-- any parts: 3 signed bits, 1 bit, 5 reversed ones, 2 signed and 4 bits; -1, 1, 6, 0 and 11
pub form_any : eqb (form (part 3 signed ∷ part 1 unsigned ∷ part 5 reversed ∷ part 2 signed ∷ part 4 unsigned ∷ []) (7 * 2 ^ 12 + 2 ^ 11 + 6 * 2 ^ 6 + 11))
    (3 * 2 ^ 12 + 2 ^ 11 + 25 * 2 ^ 6 + 2 * 2 ^ 4 + 11) ≡ true
unfolding form
form_any = refl
