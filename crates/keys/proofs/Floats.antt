-- Floats by their patterns, over any number of bits, k and the sign: the ordered form tells all patterns apart and keeps every
-- distance. Then at 64 bits, where minus zero stands just below plus zero, and a NaN is what IEEE 754 calls one.
use mathlib.Core.Path.{◌≡◌, refl, sym, ap₂, subst, ◌∙◌}
use mathlib.Core.Bool.{cond}
use Prim.Native.Nat.{ℕ, suc, ◌+◌, ◌-◌, ◌/◌, ◌^◌, ◌≤◌, ◌<◌}
use native.Mathlib.Nat.{div-eq_of_lt, le-div_iff_mul-le, two-pow-succ}
use native.Mathlib.Decide.{dec_lt}
use native.Mathlib.Omega.{arith}
use borrow.Author.Tests.{lt-ltb, le-ltb}
use lib.Dec.{ltb}
use lib.Pow.{pow_pos, pow-lt, ones_lt}
use lib.Ieee.{binary64, is_nan, of_bits}
use lib.Ieee.Bits.{nan_bits_is, nan_bits_above}
use Rattle.rule.specs.Width.{distance}
use Rattle.rule.proofs.Width.{agree_below, distance_le, distance_sym}
use Rattle.keys.specs.Floats.{float_form, is_nan as nanPattern}
use Rattle.keys.proofs.MaskLaws.{xor_keeps, flip_all, flip_top}
use Rattle.keys.proofs.Twos.{low_half}

module _ (k : ℕ) where
  -- the ordered form, at k + 1 bits
  unfoldable pub turned : ℕ → ℕ
  turned a = cond (ltb a (2 ^ k)) (a + 2 ^ k) (2 ^ suc k - 1 - a)

  pub turned_plus : (a : ℕ) → a < 2 ^ k → turned a ≡ a + 2 ^ k
  unfolding turned
  turned_plus a l = rw (lt-ltb a (2 ^ k) l)

  pub turned_minus : (a : ℕ) → 2 ^ k ≤ a → turned a ≡ 2 ^ suc k - 1 - a
  unfolding turned
  turned_minus a l = rw (le-ltb a (2 ^ k) l)

  pub turned_fits : (a : ℕ) → turned a < 2 ^ suc k
  turned_fits a = elim (dec_lt a (2 ^ k)) [
    | yes l ↦ omega (arith, turned_plus a l, two-pow-succ k)
    | no l ↦ omega (arith, turned_minus a (omega arith), pow_pos (suc k))
  ]

  -- patterns of different signs differ in their highest bit
  far : (a b : ℕ) → a < 2 ^ k → 2 ^ k ≤ b → distance (suc k) a b ≡ suc k
  far a b la lb = elim (dec_lt (distance (suc k) a b) (suc k)) [
    | yes l ↦
        let e : a / 2 ^ k ≡ b / 2 ^ k = agree_below (suc k) a b (omega arith) (omega arith) in
        let one : 1 ≤ b / 2 ^ k = shr_one lb in
        absurd (omega (arith, div-eq_of_lt la))
    | no l ↦ omega (arith, distance_le (suc k) a b)
  ]
    where
      shr_one : {x : ℕ} → 2 ^ k ≤ x → 1 ≤ x / 2 ^ k
      shr_one {x} l = (le-div_iff_mul-le (pow_pos k)).1 (omega arith)

  module _ (a b : ℕ) (ha : a < 2 ^ suc k) (hb : b < 2 ^ suc k) where
    pub turned_injective : turned a ≡ turned b → a ≡ b
    turned_injective e = elim (dec_lt a (2 ^ k)) [
      | yes l ↦ elim (dec_lt b (2 ^ k)) [
        | yes m ↦ omega (arith, turned_plus a l, turned_plus b m)
        | no m ↦ absurd (omega (arith, turned_plus a l, turned_minus b (omega arith), two-pow-succ k))
      ]
      | no l ↦ elim (dec_lt b (2 ^ k)) [
        | yes m ↦ absurd (omega (arith, turned_minus a (omega arith), turned_plus b m, two-pow-succ k))
        | no m ↦ omega (arith, turned_minus a (omega arith), turned_minus b (omega arith), two-pow-succ k)
      ]
    ]

    -- of one sign the same bits are flipped
    plus_keeps : a < 2 ^ k → b < 2 ^ k → distance (suc k) (a + 2 ^ k) (b + 2 ^ k) ≡ distance (suc k) a b
    plus_keeps l m = ap₂ (distance (suc k)) (sym (flip_top k a ha ∙ low_half k a l)) (sym (flip_top k b hb ∙ low_half k b m)) ∙ xor_keeps (suc k) (2 ^ k) a b (pow-lt (omega arith)) ha hb

    minus_keeps : distance (suc k) (2 ^ suc k - 1 - a) (2 ^ suc k - 1 - b) ≡ distance (suc k) a b
    minus_keeps = ap₂ (distance (suc k)) (sym (flip_all (suc k) a ha)) (sym (flip_all (suc k) b hb)) ∙ xor_keeps (suc k) (2 ^ suc k - 1) a b (ones_lt (suc k)) ha hb

    -- of different signs both pairs are as far apart as can be
    pub turned_keeps : distance (suc k) (turned a) (turned b) ≡ distance (suc k) a b
    turned_keeps = elim (dec_lt a (2 ^ k)) [
      | yes l ↦ elim (dec_lt b (2 ^ k)) [
        | yes m ↦ ap₂ (distance (suc k)) (turned_plus a l) (turned_plus b m) ∙ plus_keeps l m
        | no m ↦
            let n : 2 ^ k ≤ b = omega arith in
            distance_sym (suc k) (turned a) (turned b)
            ∙ far (turned b) (turned a) (omega (arith, turned_minus b n, two-pow-succ k)) (omega (arith, turned_plus a l)) ∙ sym (far a b l n)
      ]
      | no l ↦
          let n : 2 ^ k ≤ a = omega arith in
          elim (dec_lt b (2 ^ k)) [
            | yes m ↦ far (turned a) (turned b) (omega (arith, turned_minus a n, two-pow-succ k)) (omega (arith, turned_plus b m)) ∙ sym (distance_sym (suc k) a b ∙ far b a m n)
            | no m ↦ ap₂ (distance (suc k)) (turned_minus a n) (turned_minus b (omega arith)) ∙ minus_keeps
          ]
    ]

-- ---- f64
float_turned : (a : ℕ) → float_form a ≡ turned 63 a
unfolding float_form turned
float_turned a = refl

pub float_fits : (a : ℕ) → float_form a < 2 ^ 64
float_fits a = subst (λ n. n < 2 ^ 64) (sym (float_turned a)) (turned_fits 63 a)

module _ (a b : ℕ) (ha : a < 2 ^ 64) (hb : b < 2 ^ 64) where
  pub float_injective : float_form a ≡ float_form b → a ≡ b
  float_injective e = turned_injective 63 a b ha hb (sym (float_turned a) ∙ e ∙ float_turned b)

  -- the distance of the ordered forms is that of the patterns
  pub float_keeps : distance 64 (float_form a) (float_form b) ≡ distance 64 a b
  float_keeps = ap₂ (distance 64) (float_turned a) (float_turned b) ∙ turned_keeps 63 a b ha hb

-- "minus zero just below plus zero"
pub zeros_apart : float_form 0 ≡ float_form (2 ^ 63) + 1
unfolding float_form
zeros_apart = refl

pub nan_is : (a : ℕ) → nanPattern a ≡ is_nan (of_bits binary64 a)
unfolding nanPattern
nan_is a = sym (nan_bits_above binary64 a) ∙ nan_bits_is binary64 a
