-- The first busy bucket: the lowest bit of a summary leads to the first bucket that has a first link.
use mathlib.Core.Path.{◌≡◌, refl, sym, ap, ap₂, ◌∙◌}
use mathlib.Core.Logic.{◌≢◌}
use mathlib.Core.Bool.{true, false, cond}
use mathlib.Core.List.{List}
use Prim.Native.Nat.{ℕ, zero, suc, ◌+◌, ◌*◌, ◌/◌, ◌%◌}
use native.Mathlib.Nat.{add-zero, zero-add, suc-add}
use native.Mathlib.Omega.{arith}
use native.Mathlib.Decide.{ℕ_discrete}
use borrow.Author.Tests.{eq-eqb, ne_eqb}
use lib.Count.{count_trailing_zeros, under}
use lib.Dec.{eqb}
use lib.ListN.{get_or}
use Rattle.pool.specs.World.{waiting_chain}
use Rattle.pool.specs.Marks.{flag, bits, summary, lowest_from, lowest, any_set_from}
use Rattle.pool.specs.Core.{busy_from}
use Rattle.pool.proofs.Marks.{flag_le, flag_none, flag_some, flag_zero, bits_step, bits_none, bits_odd, bits_half}

-- the trailing zeros of a word lead to the first of its chains that has a first link
bits_trailing : (first : List ℕ) (m c : ℕ) → c + count_trailing_zeros m (bits m first c) ≡ busy_from m first c
unfolding count_trailing_zeros busy_from
bits_trailing first zero c = add-zero c
bits_trailing first (suc m) c = go (get_or first c 0) refl (bits_trailing first m (c + 1))
  where
    at : (x : ℕ) → flag (get_or first c 0) ≡ x → c + count_trailing_zeros (suc m) (bits (suc m) first c) ≡ c + under x (count_trailing_zeros m (bits m first (c + 1)))
    at x e = ap (λ (y : ℕ). c + under y (count_trailing_zeros m (bits (suc m) first c / 2))) (bits_odd first m c ∙ e) ∙ ap (λ (y : ℕ). c + under x (count_trailing_zeros m y)) (bits_half first m c)

    go : (l : ℕ) → get_or first c 0 ≡ l → c + 1 + count_trailing_zeros m (bits m first (c + 1)) ≡ busy_from m first (c + 1)
        → c + count_trailing_zeros (suc m) (bits (suc m) first c) ≡ cond (eqb (get_or first c 0) 0) (busy_from m first (c + 1)) c
    go zero e ih = at 0 (flag_none (get_or first c 0) e) ∙ rw (eq-eqb (get_or first c 0) 0 e) (omega (arith, ih))
    go (suc l) e ih = at 1 (flag_some (get_or first c 0) (λ z. omega arith)) ∙ rw (ne_eqb (get_or first c 0) 0 (λ z. omega arith)) (add-zero c)

module _ (first : List ℕ) where
  busy_none : (n c : ℕ) → get_or first c 0 ≡ 0 → busy_from (suc n) first c ≡ busy_from n first (c + 1)
  unfolding busy_from
  busy_none n c e = rw (eq-eqb (get_or first c 0) 0 e)

  busy_some : (n c : ℕ) → get_or first c 0 ≢ 0 → busy_from (suc n) first c ≡ c
  unfolding busy_from
  busy_some n c e = rw (ne_eqb (get_or first c 0) 0 e)

  busy_over : (c : ℕ) → busy_from 0 first c ≡ c
  unfolding busy_from
  busy_over c = refl

  -- a word that is 0 is passed over; in any other the search ends
  busy_skip : (m k c : ℕ) → bits m first c ≡ 0 → busy_from (m + k) first c ≡ busy_from k first (c + m)
  busy_skip zero k c z = ap₂ (λ (x y : ℕ). busy_from x first y) (zero-add k) (sym (add-zero c))
  busy_skip (suc m) k c z =
      let a = bits_step first m c in
      ap (λ (x : ℕ). busy_from x first c) (suc-add m k) ∙ busy_none (m + k) c (flag_zero (get_or first c 0) (omega arith))
      ∙ busy_skip m k (c + 1) (omega arith) ∙ ap (busy_from k first) (omega arith)

  busy_stay : (m k c : ℕ) → bits m first c ≢ 0 → busy_from (m + k) first c ≡ busy_from m first c
  busy_stay zero k c z = absurd (z (bits_none first c))
  busy_stay (suc m) k c z = ap (λ (x : ℕ). busy_from x first c) (suc-add m k) ∙ elim (ℕ_discrete (get_or first c 0) 0) [
    | yes p ↦ busy_none (m + k) c p ∙ busy_stay m k (c + 1) (λ e. z (let a = flag_none (get_or first c 0) p in let b = bits_step first m c in omega arith)) ∙ sym (busy_none m c p)
    | no q ↦ busy_some (m + k) c q ∙ sym (busy_some m c q)
  ]

-- word j, and the words after it
module _ (words : List ℕ) (m j : ℕ) where
  pub lowest_none : get_or words j 0 ≡ 0 → lowest_from (suc m) words j ≡ lowest_from m words (j + 1)
  unfolding lowest_from
  lowest_none e = rw (eq-eqb (get_or words j 0) 0 e)

  pub lowest_some : get_or words j 0 ≢ 0 → lowest_from (suc m) words j ≡ 64 * j + count_trailing_zeros 64 (get_or words j 0)
  unfolding lowest_from
  lowest_some e = rw (ne_eqb (get_or words j 0) 0 e)

  pub set_none : get_or words j 0 ≡ 0 → any_set_from (suc m) words j ≡ any_set_from m words (j + 1)
  unfolding any_set_from
  set_none e = rw (eq-eqb (get_or words j 0) 0 e)

  pub set_some : get_or words j 0 ≢ 0 → any_set_from (suc m) words j ≡ true
  unfolding any_set_from
  set_some e = rw (ne_eqb (get_or words j 0) 0 e)

pub set_over : (words : List ℕ) (j : ℕ) → any_set_from 0 words j ≡ false
unfolding any_set_from
set_over words j = refl

pub lowest_over : (words : List ℕ) (j : ℕ) → lowest_from 0 words j ≡ waiting_chain
unfolding lowest_from
lowest_over words j = refl

trailing_odd : (m n : ℕ) → n % 2 ≡ 1 → count_trailing_zeros (suc m) n ≡ 0
unfolding count_trailing_zeros
trailing_odd m n o = ap (λ (x : ℕ). under x (count_trailing_zeros m (n / 2))) o

module _ (first : List ℕ) where
  -- word j is the first that is not 0
  low_at : (j : ℕ) {n : ℕ} → get_or (summary first) j 0 ≡ n → n ≢ 0 → (m : ℕ) → lowest_from (suc m) (summary first) j ≡ 64 * j + count_trailing_zeros 64 n
  low_at j e z m = lowest_some (summary first) m j (λ q. z (sym e ∙ q)) ∙ ap (λ (x : ℕ). 64 * j + count_trailing_zeros 64 x) e

  low_high : lowest_from 1 (summary first) 2 ≡ busy_from 1 first 128
  unfolding summary
  low_high = elim (ℕ_discrete (bits 1 first 128) 0) [
    | yes z ↦ lowest_none (summary first) 0 2 z ∙ lowest_over (summary first) 3 ∙ sym (busy_skip first 1 0 128 z ∙ busy_over first 129)
    | no z ↦ (
        let s = bits_step first 0 128 in
        let f = flag_le (get_or first 128 0) in
        let n = bits_none first 129 in
        let o : bits 1 first 128 % 2 ≡ 1 = omega arith in
        let a = trailing_odd 63 (bits 1 first 128) o in
        let b = trailing_odd 0 (bits 1 first 128) o in
        let t = bits_trailing first 1 128 in
        low_at 2 refl z 0 ∙ omega arith)
  ]

  low_mid : lowest_from 2 (summary first) 1 ≡ busy_from 65 first 64
  unfolding summary
  low_mid = elim (ℕ_discrete (bits 64 first 64) 0) [
    | yes z ↦ lowest_none (summary first) 1 1 z ∙ low_high ∙ sym (busy_skip first 64 1 64 z)
    | no z ↦ low_at 1 refl z 1 ∙ bits_trailing first 64 64 ∙ sym (busy_stay first 64 1 64 z)
  ]

  low_all : lowest_from 3 (summary first) 0 ≡ busy_from waiting_chain first 0
  unfolding summary
  low_all = elim (ℕ_discrete (bits 64 first 0) 0) [
    | yes z ↦ lowest_none (summary first) 2 0 z ∙ low_mid ∙ sym (busy_skip first 64 65 0 z)
    | no z ↦ low_at 0 refl z 2 ∙ bits_trailing first 64 0 ∙ sym (busy_stay first 64 65 0 z)
  ]

  -- the lowest bit of a summary is that of the first bucket that has a first link
  pub lowest_summary : {busy : List ℕ} → busy ≡ summary first → lowest busy ≡ busy_from waiting_chain first 0
  unfolding lowest
  lowest_summary e = ap (λ (w : List ℕ). lowest_from 3 w 0) e ∙ low_all
