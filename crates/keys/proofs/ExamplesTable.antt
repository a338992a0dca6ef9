-- The limits, computed: which codes stand for a part, which tables fit, which kinds a heap may have. Code is proved equal to the
-- definitions, so a limit that both have wrong shows here alone.
use mathlib.Core.Path.{◌≡◌, refl}
use mathlib.Core.Bool.{Bool, true, false, cond, ◌&&◌}
use mathlib.Core.List.{List, [], ◌∷◌, map}
use Prim.Native.Nat.{ℕ, zero, suc, ◌+◌, ◌-◌, ◌^◌}
use Rattle.keys.specs.declared.kind.Kind.{Kind}
use Rattle.keys.specs.Parts.{unsigned, signed, reversed, part}
use Rattle.keys.specs.Table.{code_part, is_part, kind_fits, bare}

abbrev pub all : List Bool → Bool
all [] = true
all (x ∷ xs) = x && all xs

abbrev pub none : List Bool → Bool
none [] = true
none (true ∷ xs) = false
none (false ∷ xs) = none xs

-- the numbers below n that a test takes, before those found
unfoldable pub below : ℕ → (ℕ → Bool) → List ℕ → List ℕ
below zero test found = found
below (suc n) test found = below n test (cond (test n) (n ∷ found) found)

-- the numbers of 8 bits that a test takes
unfoldable pub bytes : (ℕ → Bool) → List ℕ
unfolding below
bytes test = below 256 test []

-- a kind with a table, and kind 5 with one
abbrev pub tabled : ℕ → ℕ → ℕ → ℕ → ℕ → Kind
tabled n a b c d = record { number = n; table = record { first = a; second = b; third = c; fourth = d } }

abbrev pub mixed : ℕ → ℕ → ℕ → ℕ → Kind
mixed = tabled 5

-- ---- the limits of a table

-- a heap may have kind 5 with this table
abbrev fits : ℕ → ℕ → ℕ → ℕ → Bool
fits a b c d = kind_fits (mixed a b c d)

-- unsigned, signed and reversed parts of 8, 16, 32 and 64 bits
abbrev codes : List ℕ
codes = 8 ∷ 9 ∷ 10 ∷ 16 ∷ 17 ∷ 18 ∷ 32 ∷ 33 ∷ 34 ∷ 64 ∷ 65 ∷ 66 ∷ []

-- these codes stand for a part, and no other
pub codes_of_parts : bytes (λ c. is_part c) ≡ codes
unfolding bytes is_part
codes_of_parts = refl

-- what the twelve codes stand for
pub codes_mean : map (λ (c : ℕ). code_part c) codes
    ≡ part 8 unsigned ∷ part 8 signed ∷ part 8 reversed ∷ part 16 unsigned ∷ part 16 signed ∷ part 16 reversed
    ∷ part 32 unsigned ∷ part 32 signed ∷ part 32 reversed ∷ part 64 unsigned ∷ part 64 signed ∷ part 64 reversed ∷ []
unfolding code_part
codes_mean = refl

-- they may stand in the first entry, and no other
pub codes_first : bytes (λ c. fits c 8 0 0) ≡ codes
unfolding bytes kind_fits
codes_first = refl

-- and in the second
pub codes_second : bytes (λ c. fits 8 c 0 0) ≡ codes
unfolding bytes kind_fits
codes_second = refl

-- in the third, or no part
pub codes_third : bytes (λ c. fits 8 8 c 0) ≡ 0 ∷ codes
unfolding bytes kind_fits
codes_third = refl

-- in the fourth, or no part
pub codes_fourth : bytes (λ c. fits 8 8 8 c) ≡ 0 ∷ codes
unfolding bytes kind_fits
codes_fourth = refl

-- 128 bits in two, three and four parts, whatever their sorts; then less
pub fit : all (fits 64 64 0 0 ∷ fits 66 65 0 0
    ∷ fits 64 32 32 0 ∷ fits 34 65 33 0 ∷ fits 32 34 66 0
    ∷ fits 32 32 32 32 ∷ fits 64 32 16 16 ∷ fits 18 65 34 17 ∷ fits 17 18 34 66
    ∷ fits 8 8 0 0 ∷ fits 32 16 10 0 ∷ fits 8 65 18 32 ∷ []) ≡ true
unfolding kind_fits
fit = refl

-- 136 bits, where every part is needed for it; then more
pub too_wide : none (fits 64 64 8 0 ∷ fits 64 8 64 0 ∷ fits 8 64 64 0 ∷ fits 66 65 10 0
    ∷ fits 64 32 32 8 ∷ fits 32 64 8 32 ∷ fits 32 8 64 32 ∷ fits 8 32 32 64
    ∷ fits 64 64 64 0 ∷ fits 64 64 64 64 ∷ []) ≡ true
unfolding kind_fits
too_wide = refl

-- fewer than two parts, and a hole before a part
pub holes : none (fits 0 0 0 0 ∷ fits 8 0 0 0 ∷ fits 0 8 0 0 ∷ fits 0 0 8 0 ∷ fits 0 0 0 8
    ∷ fits 64 0 0 0 ∷ fits 0 8 8 0 ∷ fits 8 0 8 0 ∷ fits 8 8 0 8
    ∷ fits 0 8 8 8 ∷ fits 8 0 8 8 ∷ fits 0 0 8 8 ∷ []) ≡ true
unfolding kind_fits
holes = refl

-- another width or sort in each entry
pub no_parts : none (fits 24 8 0 0 ∷ fits 11 8 0 0 ∷ fits 8 40 0 0 ∷ fits 8 12 0 0 ∷ fits 8 8 24 0 ∷ fits 8 8 8 3 ∷ fits 8 8 8 40
    ∷ fits 8 128 0 0 ∷ fits 8 8 1 0 ∷ fits 8 8 8 1 ∷ []) ≡ true
unfolding kind_fits
no_parts = refl

-- ---- the kinds that a heap may have

-- with no table 1 to 4 and 6: not 0, not 5, not 7
pub kinds_bare : bytes (λ n. kind_fits (bare n)) ≡ 1 ∷ 2 ∷ 3 ∷ 4 ∷ 6 ∷ []
unfolding bytes kind_fits
kinds_bare = refl

-- with a table 5 alone
pub kinds_tabled : bytes (λ n. kind_fits (tabled n 8 8 0 0)) ≡ 5 ∷ []
unfolding bytes kind_fits
kinds_tabled = refl

-- the codes that each entry may have where the others are zero
abbrev alone : ℕ → List (List ℕ)
alone n =
    bytes (λ c. kind_fits (tabled n c 0 0 0)) ∷ bytes (λ c. kind_fits (tabled n 0 c 0 0))
    ∷ bytes (λ c. kind_fits (tabled n 0 0 c 0)) ∷ bytes (λ c. kind_fits (tabled n 0 0 0 c)) ∷ []

abbrev only0 : List (List ℕ)
only0 = (0 ∷ []) ∷ (0 ∷ []) ∷ (0 ∷ []) ∷ (0 ∷ []) ∷ []

-- kinds 1 to 4 and 6 have no entry that is not zero
pub kinds_entries : map alone (1 ∷ 2 ∷ 3 ∷ 4 ∷ 6 ∷ []) ≡ only0 ∷ only0 ∷ only0 ∷ only0 ∷ only0 ∷ []
unfolding bytes kind_fits
kinds_entries = refl

-- no larger number, be it one of these in its low bits
pub kinds_large : none (kind_fits (bare 257) ∷ kind_fits (bare 262) ∷ kind_fits (bare 65537) ∷ kind_fits (bare (2 ^ 31 + 1)) ∷ kind_fits (bare (2 ^ 32 - 1))
    ∷ kind_fits (tabled 261 8 8 0 0) ∷ kind_fits (tabled (2 ^ 31 + 5) 8 8 0 0) ∷ kind_fits (tabled (2 ^ 32 - 1) 8 8 0 0) ∷ []) ≡ true
unfolding kind_fits
kinds_large = refl
