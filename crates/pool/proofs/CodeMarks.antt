-- The code of the busy words against its definitions: laws on plain values, which the proofs of its functions apply.
use mathlib.Core.Path.{◌≡◌, refl, sym, ap, ◌∙◌}
use mathlib.Core.Bool.{Bool, true, false}
use mathlib.Core.List.{List}
use Prim.Native.Nat.{ℕ, suc, ◌+◌, ◌-◌, ◌*◌, ◌/◌, ◌%◌, ◌^◌, ◌≤◌, ◌<◌}
use native.Mathlib.Nat.{one-mul, mod-eq_of_lt}
use native.Mathlib.Omega.{arith}
use borrow.Author.Tests.{eq-eqb, ne_eqb}
use lib.Bits.{bit_and, bit_or}
use lib.Count.{count_trailing_zeros}
use lib.Dec.{eqb}
use lib.ListN.{get_or, set}
use lib.Pow.{pow-lt}
use Rattle.pool.specs.World.{waiting_chain}
use Rattle.pool.specs.Marks.{marked, unmarked, lowest_from, lowest, any_set_from, any_set, same_words}
use Rattle.pool.proofs.Marks.{marked_is, unmarked_is}
use Rattle.pool.proofs.Lowest.{lowest_none, lowest_some, lowest_over, set_none, set_some, set_over}

-- a one, shifted within a word
shifted_one : (k : ℕ) → k < 64 → 1 * 2 ^ k % 2 ^ 64 ≡ 2 ^ k
shifted_one k l = ap (λ (x : ℕ). x % 2 ^ 64) (one-mul (2 ^ k)) ∙ mod-eq_of_lt (pow-lt l)

module _ (words : List ℕ) (c : ℕ) (l : c < waiting_chain) where
  pub mark_code : set words (c / 64) (bit_or (get_or words (c / 64) 0) (1 * 2 ^ (c % 64) % 2 ^ 64)) ≡ marked words c
  mark_code = ap (λ (x : ℕ). set words (c / 64) (bit_or (get_or words (c / 64) 0) x)) (shifted_one (c % 64) (omega arith)) ∙ sym (marked_is words c l)

  pub unmark_code : set words (c / 64) (bit_and (get_or words (c / 64) 0) (2 ^ 64 - 1 - 1 * 2 ^ (c % 64) % 2 ^ 64)) ≡ unmarked words c
  unmark_code = ap (λ (x : ℕ). set words (c / 64) (bit_and (get_or words (c / 64) 0) (2 ^ 64 - 1 - x))) (shifted_one (c % 64) (omega arith)) ∙ sym (unmarked_is words c l)

-- ---- the search, word after word

module _ (words : List ℕ) (j : ℕ) where
  abbrev from : ℕ
  from = lowest_from (3 - j) words j

  at : j < 3 → from ≡ lowest_from (suc (3 - (j + 1))) words j
  at l = ap (λ (m : ℕ). lowest_from m words j) (omega arith)

  pub low_on : j < 3 → get_or words j 0 ≡ 0 → from ≡ lowest_from (3 - (j + 1)) words (j + 1)
  low_on l e = at l ∙ lowest_none words (3 - (j + 1)) j e

  pub low_stop : j < 3 → (get_or words j 0 ≡ 0 → ⊥) → from ≡ 64 * j + count_trailing_zeros 64 (get_or words j 0)
  low_stop l n = at l ∙ lowest_some words (3 - (j + 1)) j n

  pub low_end : 3 ≤ j → from ≡ waiting_chain
  low_end h = ap (λ (m : ℕ). lowest_from m words j) (omega arith) ∙ lowest_over words j

  abbrev set_from : Bool
  set_from = any_set_from (3 - j) words j

  set_at : j < 3 → set_from ≡ any_set_from (suc (3 - (j + 1))) words j
  set_at l = ap (λ (m : ℕ). any_set_from m words j) (omega arith)

  pub set_on : j < 3 → get_or words j 0 ≡ 0 → set_from ≡ any_set_from (3 - (j + 1)) words (j + 1)
  set_on l e = set_at l ∙ set_none words (3 - (j + 1)) j e

  pub set_stop : j < 3 → (get_or words j 0 ≡ 0 → ⊥) → set_from ≡ true
  set_stop l n = set_at l ∙ set_some words (3 - (j + 1)) j n

  pub set_end : 3 ≤ j → set_from ≡ false
  set_end h = ap (λ (m : ℕ). any_set_from m words j) (omega arith) ∙ set_over words j

pub set_start : (words : List ℕ) → any_set words ≡ any_set_from 3 words 0
unfolding any_set
set_start words = refl

pub low_start : (words : List ℕ) → lowest words ≡ lowest_from 3 words 0
unfolding lowest
low_start words = refl

-- ---- the three words of two lists, one after the other

module _ (a b : List ℕ) where
  pub other_0 : (get_or a 0 0 ≡ get_or b 0 0 → ⊥) → same_words a b ≡ false
  unfolding same_words
  other_0 n = rw (ne_eqb (get_or a 0 0) (get_or b 0 0) n)

  module _ (e : get_or a 0 0 ≡ get_or b 0 0) where
    pub other_1 : (get_or a 1 0 ≡ get_or b 1 0 → ⊥) → same_words a b ≡ false
    unfolding same_words
    other_1 n = rw (eq-eqb (get_or a 0 0) (get_or b 0 0) e, ne_eqb (get_or a 1 0) (get_or b 1 0) n)

    pub same_rest : get_or a 1 0 ≡ get_or b 1 0 → same_words a b ≡ eqb (get_or a 2 0) (get_or b 2 0)
    unfolding same_words
    same_rest f = rw (eq-eqb (get_or a 0 0) (get_or b 0 0) e, eq-eqb (get_or a 1 0) (get_or b 1 0) f)
