-- The laws of the busy words: their bits determine them, and what setting and clearing a bit makes of a summary.
use mathlib.Core.Path.{◌≡◌, refl, sym, ap, ap₂, ◌∙◌}
use mathlib.Core.Logic.{◌≢◌}
use mathlib.Core.List.{List, [], ◌∷◌}
use Prim.Native.Nat.{ℕ, zero, suc, ◌+◌, ◌-◌, ◌*◌, ◌/◌, ◌%◌, ◌^◌, ◌≤◌, ◌<◌}
use native.Mathlib.Nat.{add-zero, pow-suc}
use native.Mathlib.Omega.{arith}
use native.Mathlib.Decide.{ℕ_discrete, dec_lt}
use borrow.Author.Tests.{lt-ltb, le-ltb}
use lib.ListN.{length, length-set, length-take, get_or, set, take}
use lib.Seq.{get_or-set_same, get_or-set_other, get_or-take, ext_get_or}
use lib.Pow.{pow_mono}
use lib.Bits.{bit_and, bit_or}
use Rattle.pool.specs.Marks.{digit, bit_at, flag, bits, summary, marked, unmarked}
use Rattle.pool.specs.World.{waiting_chain}
use Rattle.pool.proofs.Digits.{digit_none, digit_past, digit_zero, digit_suc, digits_unique, set_here, set_there, set_lt, clear_here, clear_there, clear_lt}

-- ---- the bit of a link

pub flag_le : (l : ℕ) → flag l ≤ 1
unfolding flag
flag_le zero = omega arith
flag_le (suc l) = omega arith

pub flag_none : (l : ℕ) → l ≡ 0 → flag l ≡ 0
unfolding flag
flag_none l e = rw e

pub flag_some : (l : ℕ) → l ≢ 0 → flag l ≡ 1
unfolding flag
flag_some zero h = absurd (h refl)
flag_some (suc l) h = refl

pub flag_zero : (l : ℕ) → flag l ≡ 0 → l ≡ 0
unfolding flag
flag_zero zero e = refl
flag_zero (suc l) e = absurd (omega arith)

-- ---- one word of a summary

module _ (first : List ℕ) where
  pub bits_step : (m c : ℕ) → bits (suc m) first c ≡ flag (get_or first c 0) + 2 * bits m first (c + 1)
  unfolding bits
  bits_step m c = refl

  pub bits_none : (c : ℕ) → bits 0 first c ≡ 0
  unfolding bits
  bits_none c = refl

  pub bits_odd : (m c : ℕ) → bits (suc m) first c % 2 ≡ flag (get_or first c 0)
  bits_odd m c = let e = bits_step m c in let l = flag_le (get_or first c 0) in omega arith

  pub bits_half : (m c : ℕ) → bits (suc m) first c / 2 ≡ bits m first (c + 1)
  bits_half m c = let e = bits_step m c in let l = flag_le (get_or first c 0) in omega arith

  bits_lt : (m c : ℕ) → bits m first c < 2 ^ m
  bits_lt zero c = let e = bits_none c in omega arith
  bits_lt (suc m) c = let e = bits_step m c in let l = flag_le (get_or first c 0) in let t = pow-suc 2 m in let i = bits_lt m (c + 1) in omega arith

  bits_digit : (m c k : ℕ) → k < m → digit (bits m first c) k ≡ flag (get_or first (c + k) 0)
  bits_digit zero c k h = absurd (omega arith)
  bits_digit (suc m) c zero h = digit_zero (bits (suc m) first c) ∙ bits_odd m c ∙ ap (λ (x : ℕ). flag (get_or first x 0)) (sym (add-zero c))
  bits_digit (suc m) c (suc k) h =
      digit_suc (bits (suc m) first c) k ∙ ap (λ (x : ℕ). digit x k) (bits_half m c)
      ∙ bits_digit m (c + 1) k (omega arith) ∙ ap (λ (x : ℕ). flag (get_or first x 0)) (omega arith)

-- ---- three words

-- "three u64 words"
pub record Words (words : List ℕ) : Type 0 where
  pub three : length words ≡ 3
  pub fit : (j : ℕ) → get_or words j 0 < 2 ^ 64

get_d_over : (l : List ℕ) (j : ℕ) → length l ≤ j → get_or l j 0 ≡ 0
get_d_over [] j h = refl
get_d_over (x ∷ l) zero h = absurd (omega arith)
get_d_over (x ∷ l) (suc j) h = get_d_over l j (omega arith)

-- bit k of word j is a bit of the words
bit_of : (words : List ℕ) (j k : ℕ) → k < 64 → bit_at words (64 * j + k) ≡ digit (get_or words j 0) k
bit_of words j k l = ap₂ (λ (x y : ℕ). digit (get_or words x 0) y) (omega arith) (omega arith)

-- words with the same bits are the same words
pub words_unique : {a b : List ℕ} → Words a → Words b → ((i : ℕ) → bit_at a i ≡ bit_at b i) → a ≡ b
words_unique {a} {b} p q h =
    ext_get_or 0 a b (p.three ∙ sym q.three) (λ j i. digits_unique 64 _ _ (p.fit j) (q.fit j) (λ k l. sym (bit_of a j k l) ∙ h (64 * j + k) ∙ bit_of b j k l))

-- ---- the bits of a summary

module _ (first : List ℕ) where
  pub summary_words : Words (summary first)
  unfolding summary
  summary_words = record { three = refl; fit = fits }
    where
      below : {n : ℕ} → n < 2 ^ 1 → n < 2 ^ 64
      below h = omega arith

      fits : (j : ℕ) → get_or (summary first) j 0 < 2 ^ 64
      fits zero = bits_lt first 64 _
      fits (suc zero) = bits_lt first 64 _
      fits (suc (suc zero)) = below (bits_lt first 1 _)
      fits (suc (suc (suc j))) = omega arith

  in_word : (b j k : ℕ) → b / 64 ≡ j → b % 64 ≡ k → bit_at (summary first) b ≡ digit (get_or (summary first) j 0) k
  in_word b j k p q = ap₂ (λ (x y : ℕ). digit (get_or (summary first) x 0) y) p q

  -- "bit set exactly when the bucket isn't empty"
  pub summary_bit : (b : ℕ) → b < waiting_chain → bit_at (summary first) b ≡ flag (get_or first b 0)
  unfolding summary
  summary_bit b l = go (dec_lt b 64) (dec_lt b 128)
    where
      at : (c k : ℕ) → c + k ≡ b → flag (get_or first (c + k) 0) ≡ flag (get_or first b 0)
      at c k e = ap (λ (x : ℕ). flag (get_or first x 0)) e

      go : Dec (b < 64) → Dec (b < 128) → bit_at (summary first) b ≡ flag (get_or first b 0)
      go (yes p) q = in_word b 0 b (omega arith) (omega arith) ∙ bits_digit first 64 0 b p ∙ at 0 b (omega arith)
      go (no p) (yes q) = in_word b 1 (b - 64) (omega arith) (omega arith) ∙ bits_digit first 64 64 (b - 64) (omega arith) ∙ at 64 (b - 64) (omega arith)
      go (no p) (no q) = in_word b 2 (b - 128) (omega arith) (omega arith) ∙ bits_digit first 1 128 (b - 128) (omega arith) ∙ at 128 (b - 128) (omega arith)

  -- "bits above 128 zero"
  pub summary_rest : (b : ℕ) → waiting_chain ≤ b → bit_at (summary first) b ≡ 0
  unfolding summary
  summary_rest b h = go (dec_lt b 192)
    where
      go : Dec (b < 192) → bit_at (summary first) b ≡ 0
      go (yes p) =
          let l = bits_lt first 1 128 in
          let t = pow_mono {i = 1} {j = b - 128} (omega arith) in
          in_word b 2 (b - 128) (omega arith) (omega arith) ∙ digit_past (bits 1 first 128) (b - 128) (omega arith)
      go (no p) = ap (λ (x : ℕ). digit x (b % 64)) (get_d_over (summary first) (b / 64) (omega (arith, summary_words.three))) ∙ digit_none (b % 64)

-- the bit of a bucket depends on its own first link alone
same_bit : (xs ys : List ℕ) (b : ℕ) → (b < waiting_chain → flag (get_or xs b 0) ≡ flag (get_or ys b 0)) → bit_at (summary xs) b ≡ bit_at (summary ys) b
same_bit xs ys b h = go (dec_lt b waiting_chain)
  where
    go : Dec (b < waiting_chain) → bit_at (summary xs) b ≡ bit_at (summary ys) b
    go (yes l) = summary_bit xs b l ∙ h l ∙ sym (summary_bit ys b l)
    go (no l) = summary_rest xs b (omega arith) ∙ sym (summary_rest ys b (omega arith))

summary_alike : (xs ys : List ℕ) → ((b : ℕ) → b < waiting_chain → flag (get_or xs b 0) ≡ flag (get_or ys b 0)) → summary xs ≡ summary ys
summary_alike xs ys h = words_unique (summary_words xs) (summary_words ys) (λ b. same_bit xs ys b (h b))

-- words with the bits of the first links are their summary
pub bits_summary : (first words : List ℕ) → Words words → ((b : ℕ) → b < waiting_chain → bit_at words b ≡ flag (get_or first b 0)) → ((b : ℕ) → waiting_chain ≤ b → bit_at words b ≡ 0) → words ≡ summary first
bits_summary first words t h r = words_unique t (summary_words first) (λ b. elim (dec_lt b waiting_chain) [ yes l ↦ h b l ∙ sym (summary_bit first b l) | no l ↦ r b (omega arith) ∙ sym (summary_rest first b (omega arith)) ])

-- ---- one bit is set or cleared

-- the word of bit c becomes x
module _ {words : List ℕ} (t : Words words) (c x : ℕ) (l : c < 192) where
  put_words : x < 2 ^ 64 → Words (set words (c / 64) x)
  put_words h = record { three = length-set words (c / 64) x ∙ t.three; fit = λ j. go j (ℕ_discrete j (c / 64)) }
    where
      go : (j : ℕ) → Dec (j ≡ c / 64) → get_or (set words (c / 64) x) j 0 < 2 ^ 64
      go j (yes e) = rw (e, get_or-set_same words (c / 64) x 0 (omega (arith, t.three))) h
      go j (no n) = rw (get_or-set_other words (c / 64) j x 0 n) (t.fit j)

  put_here : bit_at (set words (c / 64) x) c ≡ digit x (c % 64)
  put_here = ap (λ (y : ℕ). digit y (c % 64)) (get_or-set_same words (c / 64) x 0 (omega (arith, t.three)))

  put_there : ((i : ℕ) → i < 64 → i ≢ c % 64 → digit x i ≡ digit (get_or words (c / 64) 0) i) → (b : ℕ) → b ≢ c → bit_at (set words (c / 64) x) b ≡ bit_at words b
  put_there h b n = go (ℕ_discrete (b / 64) (c / 64))
    where
      go : Dec (b / 64 ≡ c / 64) → bit_at (set words (c / 64) x) b ≡ bit_at words b
      go (yes e) =
          ap (λ (j : ℕ). digit (get_or (set words (c / 64) x) j 0) (b % 64)) e
          ∙ ap (λ (y : ℕ). digit y (b % 64)) (get_or-set_same words (c / 64) x 0 (omega (arith, t.three)))
          ∙ h (b % 64) (omega arith) (λ q. n (omega arith))
          ∙ ap (λ (j : ℕ). digit (get_or words j 0) (b % 64)) (sym e)
      go (no q) = ap (λ (y : ℕ). digit y (b % 64)) (get_or-set_other words (c / 64) (b / 64) x 0 q)

module _ (words : List ℕ) (c : ℕ) (l : c < waiting_chain) where
  pub marked_is : marked words c ≡ set words (c / 64) (bit_or (get_or words (c / 64) 0) (2 ^ (c % 64)))
  unfolding marked
  marked_is = rw (lt-ltb c waiting_chain l)

  pub unmarked_is : unmarked words c ≡ set words (c / 64) (bit_and (get_or words (c / 64) 0) (2 ^ 64 - 1 - 2 ^ (c % 64)))
  unfolding unmarked
  unmarked_is = rw (lt-ltb c waiting_chain l)

module _ (words : List ℕ) (c : ℕ) (l : waiting_chain ≤ c) where
  pub marked_past : marked words c ≡ words
  unfolding marked
  marked_past = rw (le-ltb c waiting_chain l)

  pub unmarked_past : unmarked words c ≡ words
  unfolding unmarked
  unmarked_past = rw (le-ltb c waiting_chain l)

-- links that differ at chain c alone
abbrev Beside : List ℕ → List ℕ → ℕ → Type 0
Beside xs ys c = (b : ℕ) → b ≢ c → get_or xs b 0 ≡ get_or ys b 0

-- words whose bit c is that of `ys`, and all others those of `xs`
beside_words : (xs ys words : List ℕ) (c : ℕ) → c < waiting_chain → Words words → bit_at words c ≡ flag (get_or ys c 0) → ((b : ℕ) → b ≢ c → bit_at words b ≡ bit_at (summary xs) b) → Beside xs ys c
    → words ≡ summary ys
beside_words xs ys words c l t here there o = words_unique t (summary_words ys) (λ b. go b (ℕ_discrete b c))
  where
    go : (b : ℕ) → Dec (b ≡ c) → bit_at words b ≡ bit_at (summary ys) b
    go b (yes e) = ap (bit_at words) e ∙ here ∙ sym (summary_bit ys c l) ∙ ap (bit_at (summary ys)) (sym e)
    go b (no n) = there b n ∙ same_bit xs ys b (λ k. ap flag (o b n))

-- past the buckets there is no bit
beside_past : (xs ys : List ℕ) (c : ℕ) → waiting_chain ≤ c → Beside xs ys c → summary xs ≡ summary ys
beside_past xs ys c h o = summary_alike xs ys (λ b l. ap flag (o b (λ e. omega arith)))

module _ (xs ys : List ℕ) (c : ℕ) (o : Beside xs ys c) where
  -- a chain that is not empty
  pub summary_marked : (c < waiting_chain → get_or ys c 0 ≢ 0) → marked (summary xs) c ≡ summary ys
  summary_marked z = elim (dec_lt c waiting_chain) [ yes l ↦ marked_is (summary xs) c l ∙ go l | no l ↦ marked_past (summary xs) c (omega arith) ∙ beside_past xs ys c (omega arith) o ]
    where
      t : Words (summary xs)
      t = summary_words xs

      word : ℕ
      word = get_or (summary xs) (c / 64) 0

      go : c < waiting_chain → set (summary xs) (c / 64) (bit_or word (2 ^ (c % 64))) ≡ summary ys
      go l = beside_words xs ys _ c l (put_words t c _ (omega arith) (set_lt word (c % 64) 64 (t.fit (c / 64)) (omega arith)))
          (put_here t c _ (omega arith) ∙ set_here word (c % 64) ∙ sym (flag_some (get_or ys c 0) (z l)))
          (put_there t c _ (omega arith) (λ i p. set_there word (c % 64) i)) o

  -- a chain that is empty
  pub summary_unmarked : (c < waiting_chain → get_or ys c 0 ≡ 0) → unmarked (summary xs) c ≡ summary ys
  summary_unmarked z = elim (dec_lt c waiting_chain) [ yes l ↦ unmarked_is (summary xs) c l ∙ go l | no l ↦ unmarked_past (summary xs) c (omega arith) ∙ beside_past xs ys c (omega arith) o ]
    where
      t : Words (summary xs)
      t = summary_words xs

      word : ℕ
      word = get_or (summary xs) (c / 64) 0

      go : c < waiting_chain → set (summary xs) (c / 64) (bit_and word (2 ^ 64 - 1 - 2 ^ (c % 64))) ≡ summary ys
      go l = beside_words xs ys _ c l (put_words t c _ (omega arith) (clear_lt word 64 (c % 64) (omega arith) (t.fit (c / 64))))
          (put_here t c _ (omega arith) ∙ clear_here word 64 (c % 64) (omega arith) ∙ sym (flag_none (get_or ys c 0) (z l)))
          (put_there t c _ (omega arith) (clear_there word 64 (c % 64) (omega arith))) o

-- a first link is stored
beside_set : (first : List ℕ) (c v : ℕ) → Beside first (set first c v) c
beside_set first c v b n = sym (get_or-set_other first c b v 0 n)

module _ (first : List ℕ) {busy : List ℕ} (e : busy ≡ summary first) (c : ℕ) where
  pub mark_summary : (v : ℕ) → waiting_chain ≤ length first → 0 < v → marked busy c ≡ summary (set first c v)
  mark_summary v n h =
      ap (λ (w : List ℕ). marked w c) e
      ∙ summary_marked first (set first c v) c (beside_set first c v) (λ l z. let s = get_or-set_same first c v 0 (omega arith) in omega arith)

  pub unmark_summary : waiting_chain ≤ length first → unmarked busy c ≡ summary (set first c 0)
  unmark_summary n = ap (λ (w : List ℕ). unmarked w c) e ∙ summary_unmarked first (set first c 0) c (beside_set first c 0) (λ l. get_or-set_same first c 0 0 (omega arith))

  -- past the buckets the words stay
  pub summary_past : (v : ℕ) → waiting_chain ≤ c → busy ≡ summary (set first c v)
  summary_past v h = e ∙ beside_past first (set first c v) c h (beside_set first c v)

-- no bit is set where no bucket has a first link
pub summary_none : (first : List ℕ) → ((c : ℕ) → c < waiting_chain → get_or first c 0 ≡ 0) → 0 ∷ 0 ∷ 0 ∷ [] ≡ summary first
unfolding summary bits flag
summary_none first h = summary_alike [] first (λ b l. sym (flag_none (get_or first b 0) (h b l)))

-- ---- chain after chain: the summary of those below c

module _ (first : List ℕ) (c : ℕ) where
  take_past : (b : ℕ) → c ≤ b → get_or (take c first) b 0 ≡ 0
  take_past b h = get_d_over (take c first) b (let e = length-take c first in omega arith)

  take_beside : Beside (take c first) (take (c + 1) first) c
  take_beside b n = elim (dec_lt b c) [
    | yes l ↦ get_or-take c first b 0 l ∙ sym (get_or-take (c + 1) first b 0 (omega arith))
    | no l ↦ take_past b (omega arith) ∙ sym (get_d_over (take (c + 1) first) b (let e = length-take (c + 1) first in omega arith))
  ]

  take_at : get_or (take (c + 1) first) c 0 ≡ get_or first c 0
  take_at = get_or-take (c + 1) first c 0 (omega arith)

  pub seen_some : get_or first c 0 ≢ 0 → marked (summary (take c first)) c ≡ summary (take (c + 1) first)
  seen_some z = summary_marked (take c first) (take (c + 1) first) c take_beside (λ l e. z (sym take_at ∙ e))

  pub seen_none : get_or first c 0 ≡ 0 → summary (take c first) ≡ summary (take (c + 1) first)
  seen_none z = summary_alike (take c first) (take (c + 1) first) (λ b l. elim (ℕ_discrete b c) [
    | yes e ↦ ap flag (ap (λ (x : ℕ). get_or (take c first) x 0) e ∙ take_past c (omega arith) ∙ sym (take_at ∙ z) ∙ ap (λ (x : ℕ). get_or (take (c + 1) first) x 0) (sym e))
    | no n ↦ ap flag (take_beside b n)
  ])

pub seen_all : (first : List ℕ) (c : ℕ) → waiting_chain ≤ c → summary (take c first) ≡ summary first
seen_all first c h = summary_alike (take c first) first (λ b l. ap flag (get_or-take c first b 0 (omega arith)))
