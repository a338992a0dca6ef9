-- The number of two words moved up or down by some bits, as the code does it word by word; words of W bits.
use mathlib.Core.Path.{◌≡◌, sym, ap, ap₂, subst, ◌∙◌}
use Prim.Native.Nat.{ℕ, ◌+◌, ◌-◌, ◌*◌, ◌/◌, ◌%◌, ◌^◌, ◌≤◌, ◌<◌}
use native.Mathlib.Nat.{mod-lt, mul_assoc, mul_comm, add_comm, add-mul, le_refl}
use native.Mathlib.Omega.{arith}
use lib.Arith.{digits_lt, lt-one}
use lib.Pow.{pow_pos, pow-add, mod-mod-pow, split, high, low, shr_lt, shl_lt, shl_exact, ones_split, ones_lt}
use Rattle.keys.specs.Ordered.{pair_form}
use Rattle.keys.specs.Masks.{Shifts}

-- all of j low bits set is all of j + k set, moved down by k
pub ones_shr : (j k : ℕ) → (2 ^ (j + k) - 1) / 2 ^ k ≡ 2 ^ j - 1
ones_shr j k = ap (λ n. n / 2 ^ k) (ones_split j k) ∙ high (2 ^ j - 1) k (ones_lt k)

-- words of v + s bits, moved up by s bits: q leaves the lower word and r stays
module _ (v s a b : ℕ) (ha : a < 2 ^ v) (hb : b < 2 ^ (v + s)) where
  out_lt : b / 2 ^ v < 2 ^ s
  out_lt = shr_lt s v (subst (λ n. b < 2 ^ n) (add_comm v s) hb)

  stays_lt : b % 2 ^ v * 2 ^ s < 2 ^ (v + s)
  stays_lt = shl_lt v s (mod-lt b (pow_pos v))

  moved : b * 2 ^ s ≡ b / 2 ^ v * 2 ^ (v + s) + b % 2 ^ v * 2 ^ s
  moved =
      ap (λ n. n * 2 ^ s) (sym (split b v)) ∙ add-mul (b / 2 ^ v * 2 ^ v) (b % 2 ^ v) (2 ^ s)
      ∙ ap (λ n. n + b % 2 ^ v * 2 ^ s) (mul_assoc (b / 2 ^ v) (2 ^ v) (2 ^ s) ∙ ap (λ n. b / 2 ^ v * n) (sym (pow-add 2 v s)))

  lower : b * 2 ^ s % 2 ^ (v + s) ≡ b % 2 ^ v * 2 ^ s
  lower = ap (λ n. n % 2 ^ (v + s)) moved ∙ low (b / 2 ^ v) (v + s) stays_lt

  upper : a * 2 ^ s % 2 ^ (v + s) ≡ a * 2 ^ s
  upper = shl_exact v s (v + s) ha (le_refl (v + s))

  pub upper_fits : a * 2 ^ s % 2 ^ (v + s) + b / 2 ^ v < 2 ^ (v + s)
  upper_fits = subst (λ n. n + b / 2 ^ v < 2 ^ (v + s)) (sym upper) (subst (λ n. a * 2 ^ s + b / 2 ^ v < n) (sym (pow-add 2 v s)) (digits_lt ha out_lt))

  module _ {x : ℕ} (hx : x < 2 ^ s) where
    pub lower_fits : b * 2 ^ s % 2 ^ (v + s) + x < 2 ^ (v + s)
    lower_fits = subst (λ n. n + x < 2 ^ (v + s)) (sym lower) (subst (λ n. b % 2 ^ v * 2 ^ s + x < n) (sym (pow-add 2 v s)) (digits_lt (mod-lt b (pow_pos v)) hx))

    pub shifts : (a * 2 ^ s % 2 ^ (v + s) + b / 2 ^ v) * 2 ^ (v + s) + (b * 2 ^ s % 2 ^ (v + s) + x) ≡ (a * 2 ^ (v + s) + b) * 2 ^ s + x
    shifts =
        let W = v + s in
        let swap : a * 2 ^ s * 2 ^ W ≡ a * 2 ^ W * 2 ^ s = mul_assoc a (2 ^ s) (2 ^ W) ∙ ap (λ n. a * n) (mul_comm (2 ^ s) (2 ^ W)) ∙ sym (mul_assoc a (2 ^ W) (2 ^ s)) in
        let left : (a * 2 ^ s % 2 ^ W + b / 2 ^ v) * 2 ^ W ≡ a * 2 ^ s * 2 ^ W + b / 2 ^ v * 2 ^ W = ap (λ n. (n + b / 2 ^ v) * 2 ^ W) upper ∙ add-mul (a * 2 ^ s) (b / 2 ^ v) (2 ^ W) in
        let right : (a * 2 ^ W + b) * 2 ^ s ≡ a * 2 ^ W * 2 ^ s + b * 2 ^ s = add-mul (a * 2 ^ W) b (2 ^ s) in
        omega (arith, lower, moved)

-- words of s + v bits, moved down by s bits: the lower s bits of the upper word go to the top of the lower one
module _ (s v a b : ℕ) (ha : a < 2 ^ (s + v)) (hb : b < 2 ^ (s + v)) where
  kept_lt : b / 2 ^ s < 2 ^ v
  kept_lt = shr_lt v s (subst (λ n. b < 2 ^ n) (add_comm s v) hb)

  pub down_fits : a * 2 ^ v % 2 ^ (s + v) + b / 2 ^ s < 2 ^ (s + v)
  down_fits = lower_fits s v 0 a (pow_pos s) ha kept_lt

  pub down : a / 2 ^ s * 2 ^ (s + v) + (a * 2 ^ v % 2 ^ (s + v) + b / 2 ^ s) ≡ (a * 2 ^ (s + v) + b) / 2 ^ s
  down =
      let x = b / 2 ^ s in
      let up : a * 2 ^ (s + v) ≡ a * 2 ^ v * 2 ^ s = ap (λ n. a * 2 ^ n) (add_comm s v) ∙ ap (λ n. a * n) (pow-add 2 v s) ∙ sym (mul_assoc a (2 ^ v) (2 ^ s)) in
      let all : a * 2 ^ (s + v) + b ≡ (a * 2 ^ v + x) * 2 ^ s + b % 2 ^ s = omega (arith, up, split b s, add-mul (a * 2 ^ v) x (2 ^ s)) in
      let left : a / 2 ^ s * 2 ^ (s + v) + (a * 2 ^ v % 2 ^ (s + v) + x) ≡ a * 2 ^ v + x = omega (arith, lower s v 0 a (pow_pos s) ha, moved s v 0 a (pow_pos s) ha) in
      left ∙ sym (ap (λ n. n / 2 ^ s) all ∙ high (a * 2 ^ v + x) s (mod-lt b (pow_pos s)))

-- ---- words of 64 bits
module _ (a b s x : ℕ) (hb : b < 2 ^ 64) (sh : Shifts a b s x) where
  whole : 64 - s + s ≡ 64
  whole = omega (arith, sh.most)

  top : a < 2 ^ (64 - s)
  top = subst (λ n. n < 2 ^ (64 - s)) (high a 64 hb) (shr_lt (64 - s) 64 (subst (λ n. a * 2 ^ 64 + b < 2 ^ n) (omega (arith, sh.most)) sh.room))

  hb' : b < 2 ^ (64 - s + s)
  hb' = subst (λ n. b < 2 ^ n) (sym whole) hb

  pub first_fits : a * 2 ^ s % 2 ^ 64 + b / 2 ^ (64 - s) < 2 ^ 64
  first_fits = subst (λ n. a * 2 ^ s % 2 ^ n + b / 2 ^ (64 - s) < 2 ^ n) whole (upper_fits (64 - s) s a b top hb')

  pub second_fits : b * 2 ^ s % 2 ^ 64 + x < 2 ^ 64
  second_fits = subst (λ n. b * 2 ^ s % 2 ^ n + x < 2 ^ n) whole (lower_fits (64 - s) s a b top hb' sh.under)

  pub shifted_words : pair_form (a * 2 ^ s % 2 ^ 64 + b / 2 ^ (64 - s)) (b * 2 ^ s % 2 ^ 64 + x) ≡ pair_form a b * 2 ^ s + x
  shifted_words = subst (λ n. (a * 2 ^ s % 2 ^ n + b / 2 ^ (64 - s)) * 2 ^ n + (b * 2 ^ s % 2 ^ n + x) ≡ (a * 2 ^ n + b) * 2 ^ s + x) whole (shifts (64 - s) s a b top hb' sh.under)

  -- by a whole word
  pub shifted_word : s ≡ 64 → pair_form b x ≡ pair_form a b * 2 ^ s + x
  shifted_word e =
      let none : a ≡ 0 = lt-one (subst (λ n. a < 2 ^ n) (let z : 64 - s ≡ 0 = omega arith in z) top) in
      ap₂ (λ (m n : ℕ). m * 2 ^ n + x) (sym (ap (λ (n : ℕ). n * 2 ^ 64 + b) none ∙ omega arith)) (sym e)

module _ (a b s : ℕ) (ha : a < 2 ^ 64) (hb : b < 2 ^ 64) (l : s ≤ 64) where
  rest : s + (64 - s) ≡ 64
  rest = omega arith

  is_wide : {n : ℕ} → n < 2 ^ 64 → n < 2 ^ (s + (64 - s))
  is_wide {n} h = subst (λ m. n < 2 ^ m) (sym rest) h

  pub down_second_fits : a * 2 ^ (64 - s) % 2 ^ 64 + b / 2 ^ s < 2 ^ 64
  down_second_fits = subst (λ n. a * 2 ^ (64 - s) % 2 ^ n + b / 2 ^ s < 2 ^ n) rest (down_fits s (64 - s) a b (is_wide ha) (is_wide hb))

  pub down_words : pair_form (a / 2 ^ s) (a * 2 ^ (64 - s) % 2 ^ 64 + b / 2 ^ s) ≡ pair_form a b / 2 ^ s
  down_words = subst (λ n. a / 2 ^ s * 2 ^ n + (a * 2 ^ (64 - s) % 2 ^ n + b / 2 ^ s) ≡ (a * 2 ^ n + b) / 2 ^ s) rest (down s (64 - s) a b (is_wide ha) (is_wide hb))

  -- by a whole word
  pub down_word : s ≡ 64 → pair_form 0 a ≡ pair_form a b / 2 ^ s
  down_word e = let z : pair_form 0 a ≡ a = omega arith in z ∙ sym (ap (λ n. pair_form a b / 2 ^ n) e ∙ high a 64 hb)

  -- the lowest bits are all in the second word
  pub low_bits : b % 2 ^ s ≡ pair_form a b % 2 ^ s
  low_bits = ap (λ n. n % 2 ^ s) (sym (ap (λ n. pair_form a b % 2 ^ n) (let e : 64 - s + s ≡ 64 = omega arith in e) ∙ low a 64 hb)) ∙ mod-mod-pow (pair_form a b) (64 - s) s
