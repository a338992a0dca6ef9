-- Floats by their patterns: "f64 keys as their 64 bits, ordered as numbers, with minus zero just below plus zero".
--
-- Why this is the numbers' order: `ordered_as_numbers` (proofs/Numbers) compares it with IEEE 754 as the kit defines that, and the
-- two zeros, `zeros_equal` there and `zeros_apart` here (proofs/Floats), are the one place where the two part.
use Rattle.std.specs.Prelude.{Bool, cond, ℕ, ◌+◌, ◌-◌, ◌*◌, ◌%◌, ◌^◌, ltb}

-- "The ordered form: sign bit clear, the pattern plus 2^63; sign bit set, 2^64 - 1 minus the pattern."
unfoldable pub float_form : ℕ → ℕ
float_form a = cond (ltb a (2 ^ 63)) (a + 2 ^ 63) (2 ^ 64 - 1 - a)

-- a NaN's pattern: all bits of the exponent are set, and not all bits below it are clear
unfoldable pub is_nan : ℕ → Bool
is_nan a = ltb (2047 * 2 ^ 52) (a % 2 ^ 63)
