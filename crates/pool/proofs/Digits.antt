-- The binary digits of a number: they determine it, and a digit is set and cleared by an operation on the whole.
use mathlib.Core.Path.{◌≡◌, refl, sym, ap, ◌∙◌}
use mathlib.Core.Logic.{◌≢◌}
use Prim.Native.Nat.{ℕ, zero, suc, ◌-◌, ◌/◌, ◌%◌, ◌^◌, ◌≤◌, ◌<◌}
use native.Mathlib.Nat.{div-one, zero-div, div-eq_of_lt, div-div-eq-div-mul, mul_comm, pow-suc}
use native.Mathlib.Omega.{arith}
use lib.Pow.{pow_pos, pow-lt}
use lib.Bits.{bit_and, bit_or, or_shr, or_mod, or_lt, or_zero_r, and_shr, and_mod, and_le_l, and_zero_r, and_mask}
use Rattle.pool.specs.Marks.{digit}

pub digit_zero : (n : ℕ) → digit n 0 ≡ n % 2
digit_zero n = ap (λ (x : ℕ). x % 2) (div-one n)

pub digit_suc : (n k : ℕ) → digit n (suc k) ≡ digit (n / 2) k
digit_suc n k = ap (λ (x : ℕ). x % 2) (ap (λ (y : ℕ). n / y) (pow-suc 2 k ∙ mul_comm (2 ^ k) 2) ∙ sym (div-div-eq-div-mul n 2 (2 ^ k)))

-- a digit, by the half
digit_half : (n h k : ℕ) → n / 2 ≡ h → digit n (suc k) ≡ digit h k
digit_half n h k e = digit_suc n k ∙ ap (λ (x : ℕ). digit x k) e

pub digit_none : (k : ℕ) → digit 0 k ≡ 0
digit_none k = ap (λ (x : ℕ). x % 2) (zero-div (2 ^ k))

-- a number has no digits past its length
pub digit_past : (n k : ℕ) → n < 2 ^ k → digit n k ≡ 0
digit_past n k h = ap (λ (x : ℕ). x % 2) (div-eq_of_lt h)

pub digits_unique : (m a b : ℕ) → a < 2 ^ m → b < 2 ^ m → ((k : ℕ) → k < m → digit a k ≡ digit b k) → a ≡ b
digits_unique zero a b p q h = omega arith
digits_unique (suc m) a b p q h =
    let t = pow-suc 2 m in
    let o : a % 2 ≡ b % 2 = sym (digit_zero a) ∙ h 0 (omega arith) ∙ digit_zero b in
    let r = digits_unique m (a / 2) (b / 2) (omega arith) (omega arith) (λ k l. sym (digit_suc a k) ∙ h (suc k) (omega arith) ∙ digit_suc b k) in
    omega (arith, o, r)

-- ---- a power of two has one digit, and its complement all others

pow_half : (k : ℕ) → 2 ^ suc k / 2 ≡ 2 ^ k
pow_half k = let t = pow-suc 2 k in omega arith

pow_here : (k : ℕ) → digit (2 ^ k) k ≡ 1
pow_here zero = refl
pow_here (suc k) = digit_half (2 ^ suc k) (2 ^ k) k (pow_half k) ∙ pow_here k

pow_there : (k i : ℕ) → i ≢ k → digit (2 ^ k) i ≡ 0
pow_there zero zero n = absurd (n refl)
pow_there zero (suc i) n = digit_half 1 0 i refl ∙ digit_none i
pow_there (suc k) zero n = digit_zero (2 ^ suc k) ∙ (let t = pow-suc 2 k in omega arith)
pow_there (suc k) (suc i) n = digit_half (2 ^ suc k) (2 ^ k) i (pow_half k) ∙ pow_there k i (λ e. n (ap suc e))

ones_digit : (m i : ℕ) → i < m → digit (2 ^ m - 1) i ≡ 1
ones_digit zero i l = absurd (omega arith)
ones_digit (suc m) zero l = digit_zero (2 ^ suc m - 1) ∙ (let t = pow-suc 2 m in let p = pow_pos m in omega arith)
ones_digit (suc m) (suc i) l = digit_half (2 ^ suc m - 1) (2 ^ m - 1) i (let t = pow-suc 2 m in omega arith) ∙ ones_digit m i (omega arith)

-- m digits, all set but digit k
abbrev all_but : ℕ → ℕ → ℕ
all_but m k = 2 ^ m - 1 - 2 ^ k

but_half : (m k : ℕ) → all_but (suc m) (suc k) / 2 ≡ all_but m k
but_half m k = let t = pow-suc 2 m in let u = pow-suc 2 k in omega arith

but_here : (m k : ℕ) → k < m → digit (all_but m k) k ≡ 0
but_here zero k l = absurd (omega arith)
but_here (suc m) zero l = digit_zero (all_but (suc m) 0) ∙ (let t = pow-suc 2 m in let p = pow_pos m in omega arith)
but_here (suc m) (suc k) l = digit_half (all_but (suc m) (suc k)) (all_but m k) k (but_half m k) ∙ but_here m k (omega arith)

but_there : (m k i : ℕ) → k < m → i < m → i ≢ k → digit (all_but m k) i ≡ 1
but_there zero k i l j n = absurd (omega arith)
but_there (suc m) zero zero l j n = absurd (n refl)
but_there (suc m) zero (suc i) l j n = digit_half (all_but (suc m) 0) (2 ^ m - 1) i (let t = pow-suc 2 m in omega arith) ∙ ones_digit m i (omega arith)
but_there (suc m) (suc k) zero l j n =
    digit_zero (all_but (suc m) (suc k)) ∙ (let t = pow-suc 2 m in let u = pow-suc 2 k in let p : 2 ^ k < 2 ^ m = pow-lt (omega arith) in omega arith)
but_there (suc m) (suc k) (suc i) l j n = digit_half (all_but (suc m) (suc k)) (all_but m k) i (but_half m k) ∙ but_there m k i (omega arith) (omega arith) (λ e. n (ap suc e))

-- ---- the operations, digit by digit

digit_le : (n k : ℕ) → digit n k ≤ 1
digit_le n k = omega arith

or_digit : (a b i : ℕ) → digit (bit_or a b) i ≡ bit_or (digit a i) (digit b i)
or_digit a b i = ap (λ (x : ℕ). x % 2) (or_shr a b i) ∙ or_mod (a / 2 ^ i) (b / 2 ^ i) 1

and_digit : (a b i : ℕ) → digit (bit_and a b) i ≡ bit_and (digit a i) (digit b i)
and_digit a b i = ap (λ (x : ℕ). x % 2) (and_shr a b i) ∙ and_mod (a / 2 ^ i) (b / 2 ^ i) 1

or_one : (d : ℕ) → d ≤ 1 → bit_or d 1 ≡ 1
or_one zero l = refl
or_one (suc zero) l = refl
or_one (suc (suc d)) l = absurd (omega arith)

and_one : (d : ℕ) → d ≤ 1 → bit_and d 1 ≡ d
and_one d l = and_mask d 1 ∙ omega arith

-- digit k is set
module _ (a k : ℕ) where
  pub set_here : digit (bit_or a (2 ^ k)) k ≡ 1
  set_here = or_digit a (2 ^ k) k ∙ ap (bit_or (digit a k)) (pow_here k) ∙ or_one (digit a k) (digit_le a k)

  pub set_there : (i : ℕ) → i ≢ k → digit (bit_or a (2 ^ k)) i ≡ digit a i
  set_there i n = or_digit a (2 ^ k) i ∙ ap (bit_or (digit a i)) (pow_there k i n) ∙ or_zero_r (digit a i)

  pub set_lt : (m : ℕ) → a < 2 ^ m → k < m → bit_or a (2 ^ k) < 2 ^ m
  set_lt m h l = or_lt m a (2 ^ k) h (pow-lt l)

-- digit k of m digits is cleared
module _ (a m k : ℕ) (l : k < m) where
  pub clear_here : digit (bit_and a (2 ^ m - 1 - 2 ^ k)) k ≡ 0
  clear_here = and_digit a (all_but m k) k ∙ ap (bit_and (digit a k)) (but_here m k l) ∙ and_zero_r (digit a k)

  pub clear_there : (i : ℕ) → i < m → i ≢ k → digit (bit_and a (2 ^ m - 1 - 2 ^ k)) i ≡ digit a i
  clear_there i j n = and_digit a (all_but m k) i ∙ ap (bit_and (digit a i)) (but_there m k i l j n) ∙ and_one (digit a i) (digit_le a i)

  pub clear_lt : a < 2 ^ m → bit_and a (2 ^ m - 1 - 2 ^ k) < 2 ^ m
  clear_lt h = let e = and_le_l a (2 ^ m - 1 - 2 ^ k) in omega arith
