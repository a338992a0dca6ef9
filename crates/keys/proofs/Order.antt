-- The order of reversed numbers is turned round, and that of pairs is lexicographic, over any width.
use mathlib.Core.Path.{◌≡◌, sym, subst, ◌∙◌}
use mathlib.Core.Logic.{◌≢◌}
use Prim.Native.Nat.{ℕ, ◌+◌, ◌*◌, ◌-◌, ◌^◌, ◌≤◌, ◌<◌}
use native.Mathlib.Nat.{mul-le-mul_right, add-mul}
use native.Mathlib.Decide.{dec_le}
use native.Mathlib.Omega.{arith}
use borrow.Author.Tests.{lt-ltb, le-ltb}
use lib.Dec.{ltb}
use lib.Pow.{pow-add}
use lib.Arith.{digits_lt}

-- two tests that pass together and fail together
pub same_test : (a b c d : ℕ) → (a < b → c < d) → (b ≤ a → d ≤ c) → ltb a b ≡ ltb c d
same_test a b c d f g = elim (dec_le b a) [
  | yes l ↦ le-ltb a b l ∙ sym (le-ltb c d (g l))
  | no l ↦ let h : a < b = omega arith in lt-ltb a b h ∙ sym (lt-ltb c d (f h))
]

pub reverse_order : (B a b : ℕ) → a < 2 ^ B → b < 2 ^ B → ltb (2 ^ B - 1 - b) (2 ^ B - 1 - a) ≡ ltb a b
reverse_order B a b ha hb = same_test (2 ^ B - 1 - b) (2 ^ B - 1 - a) a b (λ l. omega arith) (λ l. omega arith)

-- pairs with a second word of L bits: the first words decide, and the second ones where those are equal
first_decides : (L a b c d : ℕ) → d < 2 ^ L → c < a → c * 2 ^ L + d < a * 2 ^ L + b
first_decides L a b c d hd h = omega (arith, mul-le-mul_right (2 ^ L) h, add-mul 1 c (2 ^ L))

pub pair_fits : (L H : ℕ) {a b : ℕ} → a < 2 ^ H → b < 2 ^ L → a * 2 ^ L + b < 2 ^ (H + L)
pair_fits L H {a} {b} ha hb = subst (λ n. a * 2 ^ L + b < n) (sym (pow-add 2 H L)) (digits_lt ha hb)

pub pair_order_first : (L a b c d : ℕ) → b < 2 ^ L → d < 2 ^ L → a ≢ c → ltb (c * 2 ^ L + d) (a * 2 ^ L + b) ≡ ltb c a
pair_order_first L a b c d hb hd q =
    sym (same_test c a (c * 2 ^ L + d) (a * 2 ^ L + b) (first_decides L a b c d hd) (λ l. omega (arith, first_decides L c d a b hb (omega arith))))

pub pair_order_second : (L a b d : ℕ) → ltb (a * 2 ^ L + d) (a * 2 ^ L + b) ≡ ltb d b
pair_order_second L a b d = same_test (a * 2 ^ L + d) (a * 2 ^ L + b) d b (λ l. omega arith) (λ l. omega arith)
