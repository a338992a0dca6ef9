-- Over any width: the leading zeros of the differing bits of two numbers and their distance make up the width.
use mathlib.Core.Path.{◌≡◌, sym, ap, ◌∙◌}
use mathlib.Core.Logic.{◌⊎◌, inl, inr, ◌≢◌}
use Prim.Native.Nat.{ℕ, suc, ◌+◌, ◌/◌, ◌^◌, ◌≤◌, ◌<◌}
use native.Mathlib.Nat.{eq-zero-or-pos, div-eq_of_lt, le-div_iff_mul-le}
use native.Mathlib.Decide.{dec_le}
use native.Mathlib.Omega.{arith}
use lib.Bits.{bit_xor, xor_add_and, and_le_l, and_le_r, xor_shr, xor_self, xor_lt}
use lib.Count.{count_leading_zeros, leading_of_zero, leading_top}
use lib.Pow.{pow_pos}
use Rattle.rule.specs.Width.{distance}
use Rattle.rule.proofs.Width.{within, agree, distance_self}

-- two numbers of which no bit differs are the same
same : (p q : ℕ) → bit_xor p q ≡ 0 → p ≡ q
same p q e = omega (arith, xor_add_and p q, and_le_l p q, and_le_r p q)

pub leading_distance : (w a b : ℕ) → a < 2 ^ w → b < 2 ^ w → count_leading_zeros w (bit_xor a b) + distance w a b ≡ w
leading_distance w a b ha hb = go (eq-zero-or-pos (bit_xor a b))
  where
    go : (bit_xor a b ≡ 0) ⊎ (0 < bit_xor a b) → count_leading_zeros w (bit_xor a b) + distance w a b ≡ w
    go (inl e) = omega (arith, ap (count_leading_zeros w) e, leading_of_zero w, ap (distance w a) (sym (same a b e)), distance_self w a)
    go (inr p) =
        let t = leading_top w (bit_xor a b) p (xor_lt w a b ha hb) in
        let j = t.0 in
        let one : 1 ≤ bit_xor a b / 2 ^ j = (le-div_iff_mul-le (pow_pos j)).1 (omega (arith, t.2)) in
        let differs : a / 2 ^ j ≢ b / 2 ^ j = λ e. omega (arith, xor_shr a b j, ap (bit_xor (a / 2 ^ j)) (sym e), xor_self (a / 2 ^ j)) in
        let most : distance w a b ≤ suc j = within w a b (same (a / 2 ^ suc j) (b / 2 ^ suc j) (sym (xor_shr a b (suc j)) ∙ div-eq_of_lt t.3)) in
        elim (dec_le (distance w a b) j) [ yes l ↦ absurd (differs (agree w a b ha hb l)) | no l ↦ omega (arith, t.1) ]
