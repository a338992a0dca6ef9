-- Two's complement over any number of bits, k and the highest: words and numbers, each moved by half the range, 2 ^ k.
use mathlib.Core.Path.{◌≡◌, refl, sym, ◌∙◌, ap, subst}
use mathlib.Core.Bool.{Bool, true, false, cond}
use Prim.Native.Nat.{ℕ, suc, ◌+◌, ◌-◌, ◌≤◌, ◌<◌, ◌%◌, ◌^◌}
use native.Mathlib.Nat.{mod-eq_of_lt, mod-eq-sub-mod, two-pow-succ}
use native.Mathlib.Decide.{dec_lt}
use native.Mathlib.Omega.{arith}
use borrow.Author.Tests.{lt-ltb, le-ltb}
use lib.Dec.{T, ltb}
use lib.IntN.{ℤ, pos, negsuc, nat_abs, ◌+ℤ◌, ◌-ℤ◌, sub_ℕ, +ℤ-neg_ℤ_cancel, +ℤ_assoc}
use lib.Signed.{lt_z, mag}
use mir.Syntax.{w64}
use mir.Val.{to_z}
use mir.Facts.{to_z_pos, to_z-neg}
use Rattle.keys.proofs.Order.{same_test}

-- ---- words
pub low_half : (k w : ℕ) → w < 2 ^ k → (w + 2 ^ k) % 2 ^ suc k ≡ w + 2 ^ k
low_half k w l = mod-eq_of_lt (omega (arith, two-pow-succ k))

pub high_half : (k w : ℕ) → 2 ^ k ≤ w → w < 2 ^ suc k → (w + 2 ^ k) % 2 ^ suc k ≡ w - 2 ^ k
high_half k w l u =
    mod-eq-sub-mod (omega (arith, two-pow-succ k)) ∙ mod-eq_of_lt (omega (arith, two-pow-succ k)) ∙ omega (arith, two-pow-succ k)

-- ---- numbers: a difference by its sign
sub_less : (a b : ℕ) → a < b → sub_ℕ a b ≡ negsuc (b - suc a)
sub_less a b l = ap (λ (t : Bool). cond t (negsuc (b - suc a)) (pos (a - b))) (lt-ltb a b l)

sub_more : (a b : ℕ) → b ≤ a → sub_ℕ a b ≡ pos (a - b)
sub_more a b l = ap (λ (t : Bool). cond t (negsuc (b - suc a)) (pos (a - b))) (le-ltb a b l)

-- a number from 0 to h, less h + 1
pub down : (h m : ℕ) → m ≤ h → pos m +ℤ negsuc h ≡ negsuc (h - m)
down h m l = sub_less m (suc h) (omega arith) ∙ ap negsuc (omega arith)

pub up : (H n : ℕ) → n < H → negsuc n +ℤ pos H ≡ pos (H - suc n)
up H n l = sub_more H (suc n) l

-- a negative number, and one that is not
pub negative : (H : ℕ) (z : ℤ) → mag z < H → lt_z z (pos 0) ≡ true → z +ℤ pos H ≡ pos (H - suc (mag z))
negative H (pos n) f t = absurd (subst T (sym t ∙ le-ltb n 0 (omega arith)) tt)
negative H (negsuc n) f t = up H n f

pub plain : (z : ℤ) → lt_z z (pos 0) ≡ false → z ≡ pos (mag z)
plain (pos n) t = refl
plain (negsuc n) t = absurd (subst T t tt)

-- ---- moved by H a number is not negative, moved numbers are in the order of the numbers, and tell them apart
moved_up : (H n : ℕ) → n < H → nat_abs (negsuc n +ℤ pos H) ≡ H - suc n
moved_up H n l = ap nat_abs (up H n l)

pub moved_order : (H : ℕ) (a b : ℤ) → mag a < H → mag b < H → ltb (nat_abs (a +ℤ pos H)) (nat_abs (b +ℤ pos H)) ≡ lt_z a b
moved_order H (pos m) (pos n) f g = same_test (m + H) (n + H) m n (λ l. omega arith) (λ l. omega arith)
moved_order H (pos m) (negsuc n) f g = le-ltb (m + H) (nat_abs (negsuc n +ℤ pos H)) (omega (arith, moved_up H n g))
moved_order H (negsuc m) (pos n) f g = lt-ltb (nat_abs (negsuc m +ℤ pos H)) (n + H) (omega (arith, moved_up H m f))
moved_order H (negsuc m) (negsuc n) f g = same_test (nat_abs (negsuc m +ℤ pos H)) (nat_abs (negsuc n +ℤ pos H)) n m (λ l. omega (arith, moved_up H m f, moved_up H n g)) (λ l. omega (arith, moved_up H m f, moved_up H n g))

pub moved_injective : (z : ℤ) (a b : ℤ) → a +ℤ z ≡ b +ℤ z → a ≡ b
moved_injective z a b e = sym (+ℤ-neg_ℤ_cancel a z) ∙ ap (λ (y : ℤ). y -ℤ z) e ∙ +ℤ-neg_ℤ_cancel b z

-- ---- "held as its two's complement pattern": a word below 2 ^ k is the number, any other the number plus 2 ^ (k + 1)
module _ (k w : ℕ) (z : ℤ) (e : z +ℤ pos (2 ^ k) ≡ pos ((w + 2 ^ k) % 2 ^ suc k)) where
  pub pattern_low : w < 2 ^ k → z ≡ pos w
  pattern_low l = moved_injective (pos (2 ^ k)) z (pos w) (e ∙ ap pos (low_half k w l))

  pub pattern_high : 2 ^ k ≤ w → w < 2 ^ suc k → z +ℤ pos (2 ^ suc k) ≡ pos w
  pattern_high l u =
      ap (λ n. z +ℤ pos n) (two-pow-succ k)
      ∙ sym (+ℤ_assoc z (pos (2 ^ k)) (pos (2 ^ k)))
      ∙ ap (λ y. y +ℤ pos (2 ^ k)) e
      ∙ ap pos (omega (arith, high_half k w l u))

-- "the number plus 2^63" of the i64 that a word is cast to
pub cast_moved : (w : ℕ) → w < 2 ^ 64 → to_z w64 w +ℤ pos (2 ^ 63) ≡ pos ((w + 2 ^ 63) % 2 ^ 64)
cast_moved w u = elim (dec_lt w (2 ^ 63)) [
  | yes l ↦ ap (λ (z : ℤ). z +ℤ pos (2 ^ 63)) (to_z_pos w64 l) ∙ ap pos (sym (low_half 63 w l))
  | no q ↦ high (2 ^ 64 - 1 - w) (omega arith) (omega arith)
]
  where
    high : (k : ℕ) → k < 2 ^ 63 → w ≡ 2 ^ 64 - suc k → to_z w64 w +ℤ pos (2 ^ 63) ≡ pos ((w + 2 ^ 63) % 2 ^ 64)
    high k l e =
        ap (λ (n : ℕ). to_z w64 n +ℤ pos (2 ^ 63)) e ∙ ap (λ (z : ℤ). z +ℤ pos (2 ^ 63)) (to_z-neg w64 k l) ∙ up (2 ^ 63) k l
        ∙ ap pos (omega (arith, high_half 63 w (omega arith) u))

-- the same of a number that is the cast of that word, however the word is written
pub cast_moved_as : {x : ℕ} {z : ℤ} (w : ℕ) → z ≡ to_z w64 x → x ≡ w → w < 2 ^ 64 → z +ℤ pos (2 ^ 63) ≡ pos ((w + 2 ^ 63) % 2 ^ 64)
cast_moved_as w p e u = ap (λ (z : ℤ). z +ℤ pos (2 ^ 63)) p ∙ ap (λ (n : ℕ). to_z w64 n +ℤ pos (2 ^ 63)) e ∙ cast_moved w u
