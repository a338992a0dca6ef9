-- A number with some bits flipped, over any width: flipped twice it is the number again, and two numbers with the same bits
-- flipped are as far apart as before.
use mathlib.Core.Path.{◌≡◌, refl, sym, ap, ap₂, ◌∙◌}
use Prim.Native.Nat.{ℕ, zero, suc, ◌+◌, ◌*◌, ◌-◌, ◌/◌, ◌%◌, ◌^◌, ◌≤◌, ◌<◌}
use native.Mathlib.Nat.{le_refl, mod-lt, mod-eq_of_lt, zero-mul, add-zero, zero-add, suc-add, one-mul}
use native.Mathlib.Omega.{arith}
use lib.Arith.{bin_ind}
use lib.Bits.{bit_xor, differ, xor_step, xor_self, xor_shr, xor_lt, xor_zero_r, xor_block, xor_add_and, and_mask}
use lib.Pow.{pow_pos, split, shr_lt}
use Rattle.rule.specs.Width.{distance}
use Rattle.rule.proofs.Width.{within, agree}
use Rattle.keys.proofs.Twos.{low_half, high_half}

differ_lt : (x y : ℕ) → x < 2 → y < 2 → differ x y < 2
differ_lt zero y hx hy = hy
differ_lt (suc x) zero hx hy = hx
differ_lt (suc zero) (suc zero) hx hy = omega arith
differ_lt (suc zero) (suc (suc y)) hx hy = absurd (omega arith)
differ_lt (suc (suc x)) (suc y) hx hy = absurd (omega arith)

differ_back : (x y : ℕ) → x < 2 → y < 2 → differ (differ x y) y ≡ x
differ_back zero zero hx hy = refl
differ_back zero (suc zero) hx hy = refl
differ_back zero (suc (suc y)) hx hy = absurd (omega arith)
differ_back (suc x) zero hx hy = refl
differ_back (suc zero) (suc zero) hx hy = refl
differ_back (suc zero) (suc (suc y)) hx hy = absurd (omega arith)
differ_back (suc (suc x)) (suc y) hx hy = absurd (omega arith)

pub xor_back : (a m : ℕ) → bit_xor (bit_xor a m) m ≡ a
xor_back = bin_ind (λ n. (m : ℕ) → bit_xor (bit_xor n m) m ≡ n) xor_self (λ n again m. step n m (again (m / 2)))
  where
    step : (n m : ℕ) → bit_xor (bit_xor (n / 2) (m / 2)) (m / 2) ≡ n / 2 → bit_xor (bit_xor n m) m ≡ n
    step n m again =
        let d = differ (n % 2) (m % 2) in
        let x = bit_xor (n / 2) (m / 2) in
        let ln : n % 2 < 2 = mod-lt n (pow_pos 1) in
        let lm : m % 2 < 2 = mod-lt m (pow_pos 1) in
        let e : bit_xor n m ≡ x * 2 + d = xor_step n m in
        let half : bit_xor n m / 2 ≡ x = omega (arith, differ_lt (n % 2) (m % 2) ln lm) in
        let rest : bit_xor n m % 2 ≡ d = omega (arith, differ_lt (n % 2) (m % 2) ln lm) in
        let top : bit_xor (bit_xor n m / 2) (m / 2) ≡ n / 2 = ap (λ (y : ℕ). bit_xor y (m / 2)) half ∙ again in
        let bit : differ (bit_xor n m % 2) (m % 2) ≡ n % 2 = ap (λ (y : ℕ). differ y (m % 2)) rest ∙ differ_back (n % 2) (m % 2) ln lm in
        xor_step (bit_xor n m) m ∙ ap₂ (λ (p q : ℕ). p * 2 + q) top bit ∙ omega arith

no_farther : (B m a b : ℕ) → a < 2 ^ B → b < 2 ^ B → distance B (bit_xor a m) (bit_xor b m) ≤ distance B a b
no_farther B m a b ha hb =
    let d = distance B a b in
    within B (bit_xor a m) (bit_xor b m) (xor_shr a m d ∙ ap (λ (x : ℕ). bit_xor x (m / 2 ^ d)) (agree B a b {d = d} ha hb (le_refl d)) ∙ sym (xor_shr b m d))

pub xor_keeps : (B m a b : ℕ) → m < 2 ^ B → a < 2 ^ B → b < 2 ^ B → distance B (bit_xor a m) (bit_xor b m) ≡ distance B a b
xor_keeps B m a b hm ha hb =
    let again : distance B (bit_xor (bit_xor a m) m) (bit_xor (bit_xor b m) m) ≤ distance B (bit_xor a m) (bit_xor b m) = no_farther B m (bit_xor a m) (bit_xor b m) (xor_lt B a m ha hm) (xor_lt B b m hb hm) in
    let l : distance B a b ≤ distance B (bit_xor a m) (bit_xor b m) = rw (xor_back a m, xor_back b m) at again in
    omega (arith, no_farther B m a b ha hb)

-- ---- all bits flipped, and the highest bit flipped
pub flip_all : (w x : ℕ) → x < 2 ^ w → bit_xor x (2 ^ w - 1) ≡ 2 ^ w - 1 - x
flip_all w x h = omega (arith, xor_add_and x (2 ^ w - 1), and_mask x w ∙ mod-eq_of_lt h)

pub flip_top : (k x : ℕ) → x < 2 ^ suc k → bit_xor x (2 ^ k) ≡ (x + 2 ^ k) % 2 ^ suc k
flip_top k x h = go (x / 2 ^ k) (shr_lt 1 k (rw (suc-add, zero-add) h)) (split x k) flipped
  where
    r : ℕ
    r = x % 2 ^ k

    lr : r < 2 ^ k
    lr = mod-lt x (pow_pos k)

    flipped : bit_xor x (2 ^ k) ≡ bit_xor (x / 2 ^ k) 1 * 2 ^ k + r
    flipped = ap₂ bit_xor (sym (split x k)) (sym (add-zero (1 * 2 ^ k) ∙ one-mul (2 ^ k))) ∙ xor_block k (x / 2 ^ k) 1 r 0 lr (pow_pos k) ∙ ap (λ (y : ℕ). bit_xor (x / 2 ^ k) 1 * 2 ^ k + y) (xor_zero_r r)

    go : (q : ℕ) → q < 2 → q * 2 ^ k + r ≡ x → bit_xor x (2 ^ k) ≡ bit_xor q 1 * 2 ^ k + r → bit_xor x (2 ^ k) ≡ (x + 2 ^ k) % 2 ^ suc k
    go zero l e f = f ∙ omega (arith, low_half k x (omega (arith, lr, zero-mul (2 ^ k))), zero-mul (2 ^ k))
    go (suc zero) l e f = f ∙ omega (arith, high_half k x (omega (arith, lr)) h)
    go (suc (suc q)) l e f = absurd (omega arith)
