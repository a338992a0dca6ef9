-- Floats, computed: ordered forms, the order from minus infinity up, distances, and which patterns are a NaN's.
use mathlib.Core.Path.{◌≡◌, refl}
use mathlib.Core.Bool.{Bool, true, not, ◌&&◌}
use mathlib.Core.List.{List, [], ◌∷◌, map}
use Prim.Native.Nat.{ℕ, ◌+◌, ◌*◌, ◌-◌, ◌^◌}
use lib.Dec.{eqb, ltb}
use lib.ListN.{length}
use Rattle.rule.specs.Width.{distance}
use Rattle.keys.specs.Table.{bare}
use Rattle.keys.specs.Floats.{is_nan}
use Rattle.keys.specs.Ordered.{width, ordered, well_formed, nan_key, proper}
use Rattle.keys.proofs.ExamplesTable.{all, none, below, bytes}

-- ---- patterns: an exponent's field and the digits below it, with the sign bit or without

abbrev plus : ℕ → ℕ → ℕ
plus field digits = field * 2 ^ 52 + digits

abbrev minus : ℕ → ℕ → ℕ
minus field digits = 2 ^ 63 + plus field digits

-- 1.0 and 1.5, the greatest number, the infinity
abbrev one : ℕ
one = 1023

abbrev half : ℕ
half = 2 ^ 51

abbrev digits : ℕ
digits = 2 ^ 52 - 1

abbrev greatest : ℕ
greatest = 2046

abbrev infinity : ℕ
infinity = 2047

-- ---- ordered forms

-- the zeros, 1.0 and -1.0, the infinities, and the first and last pattern of each sign; the second word does not count
pub float_forms : map (λ (a : ℕ). ordered (bare 6) a 7) (plus 0 0 ∷ minus 0 0 ∷ plus 0 1 ∷ minus 0 1 ∷ plus one 0 ∷ minus one 0 ∷ plus infinity 0 ∷ minus infinity 0 ∷ (2 ^ 63 - 1) ∷ (2 ^ 64 - 1) ∷ [])
    ≡ (2 ^ 63) ∷ (2 ^ 63 - 1) ∷ (2 ^ 63 + 1) ∷ (2 ^ 63 - 2) ∷ (2 ^ 63 + 1023 * 2 ^ 52) ∷ (2 ^ 63 - 1 - 1023 * 2 ^ 52) ∷ (2 ^ 63 + 2047 * 2 ^ 52) ∷ (2 ^ 63 - 1 - 2047 * 2 ^ 52) ∷ (2 ^ 64 - 1) ∷ 0 ∷ []
unfolding ordered
float_forms = refl

unfoldable pub rises : List ℕ → Bool
unfolding ordered
rises [] = true
rises (a ∷ []) = true
rises (a ∷ b ∷ cs) = ltb (ordered (bare 6) a 0) (ordered (bare 6) b 0) && rises (b ∷ cs)

-- minus infinity, the least number, -1.5, -1.0, the numbers next to zero with the whole digit and without, the zeros, and up again
pub floats_rise : rises (minus infinity 0 ∷ minus greatest digits ∷ minus one half ∷ minus one 1 ∷ minus one 0 ∷ minus 1 0 ∷ minus 0 digits ∷ minus 0 1 ∷ minus 0 0
    ∷ plus 0 0 ∷ plus 0 1 ∷ plus 0 digits ∷ plus 1 0 ∷ plus one 0 ∷ plus one 1 ∷ plus one half ∷ plus greatest digits ∷ plus infinity 0 ∷ []) ≡ true
unfolding rises
floats_rise = refl

-- ---- distances

abbrev apart : ℕ → ℕ → ℕ
apart a b = distance (width (bare 6)) (ordered (bare 6) a 0) (ordered (bare 6) b 0)

-- 64 between the signs, so between the zeros; 1.0 to 1.5 is the digits' highest bit, 1.0 to 2.0 the field's highest
pub float_distances : (apart (minus 0 0) (plus 0 0) ∷ apart (minus one 0) (plus one 0) ∷ apart (plus one 0) (plus one half) ∷ apart (minus one 0) (minus one half)
    ∷ apart (plus one 0) (plus 1024 0) ∷ apart (minus one 0) (minus one 1) ∷ apart (minus one half) (minus one half) ∷ [])
    ≡ 64 ∷ 64 ∷ 52 ∷ 52 ∷ 63 ∷ 1 ∷ 0 ∷ []
unfolding distance width ordered
float_distances = refl

-- ---- NaNs

-- the infinity with one more bit, of either sign, with any one of the digits, and with all
pub nans : (all (is_nan (plus infinity 1) ∷ is_nan (minus infinity 1) ∷ is_nan (plus infinity half) ∷ is_nan (minus infinity half) ∷ is_nan (2 ^ 63 - 1) ∷ is_nan (2 ^ 64 - 1) ∷ [])
    && eqb (length (below 52 (λ i. is_nan (plus infinity (2 ^ i))) [])) 52 && eqb (length (below 52 (λ i. is_nan (minus infinity (2 ^ i))) [])) 52) ≡ true
unfolding is_nan below
nans = refl

-- no number is one, nor an infinity: all digits set, and any one bit of the field clear
pub no_nans : (none (map (λ (a : ℕ). is_nan a) (plus 0 0 ∷ minus 0 0 ∷ plus 0 1 ∷ plus one 0 ∷ minus one half ∷ plus greatest digits ∷ minus greatest digits ∷ plus infinity 0 ∷ minus infinity 0 ∷ []))
    && eqb (length (below 11 (λ i. not (is_nan (plus (infinity - 2 ^ i) digits))) [])) 11 && eqb (length (below 11 (λ i. not (is_nan (minus (infinity - 2 ^ i) digits))) [])) 11) ≡ true
unfolding is_nan below
no_nans = refl

-- only a key of kind 6 is one; it is well-formed, and no key for a pool
pub nan_kinds : bytes (λ n. nan_key (bare n) (2 ^ 64 - 1)) ≡ 6 ∷ []
unfolding bytes nan_key
nan_kinds = refl

pub nan_keys : (all (map (λ (a : ℕ). well_formed (bare 6) a 0 && not (proper (bare 6) a 0)) (plus infinity 1 ∷ minus infinity half ∷ (2 ^ 64 - 1) ∷ []))
    && all (map (λ (a : ℕ). proper (bare 6) a 0) (plus infinity 0 ∷ minus infinity 0 ∷ plus 0 0 ∷ minus 0 0 ∷ []))) ≡ true
unfolding well_formed proper
nan_keys = refl
