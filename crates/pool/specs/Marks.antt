-- The busy words: "three u64 words with one bit for each bucket, bit set exactly when the bucket isn't empty, bits above 128 zero".
use Rattle.std.specs.Prelude.{Bool, true, false, cond, ◌&&◌, List, [], ◌∷◌, ℕ, zero, suc, ◌+◌, ◌-◌, ◌*◌, ◌/◌, ◌%◌, ◌^◌, ltb, eqb, get_or, set}
use Rattle.std.specs.Int.Bits.{bit_and, bit_or}
use Rattle.std.specs.Int.Count.{count_trailing_zeros}
use Rattle.pool.specs.World.{waiting_chain}

-- binary digit k of a number, from the lowest
abbrev pub digit : ℕ → ℕ → ℕ
digit n k = n / 2 ^ k % 2

-- bit b of the words is digit b % 64 of word b / 64
abbrev pub bit_at : List ℕ → ℕ → ℕ
bit_at words b = digit (get_or words (b / 64) 0) (b % 64)

-- ---- from the first links

-- 0 for no link, 1 for any other
unfoldable pub flag : ℕ → ℕ
flag zero = 0
flag (suc l) = 1

-- the number whose m bits, from the lowest, say which of the chains from c on have a first link
unfoldable pub bits : ℕ → List ℕ → ℕ → ℕ
unfolding flag
bits zero first c = 0
bits (suc m) first c = flag (get_or first c 0) + 2 * bits m first (c + 1)

unfoldable pub summary : List ℕ → List ℕ
unfolding bits
summary first = bits 64 first 0 ∷ bits 64 first 64 ∷ bits 1 first 128 ∷ []

-- ---- as the code keeps and reads them

-- the bit of chain c is set, and cleared; the waiting chain and the free chain have none
unfoldable pub marked : List ℕ → ℕ → List ℕ
marked words c = cond (ltb c waiting_chain) (set words (c / 64) (bit_or (get_or words (c / 64) 0) (2 ^ (c % 64)))) words

unfoldable pub unmarked : List ℕ → ℕ → List ℕ
unmarked words c = cond (ltb c waiting_chain) (set words (c / 64) (bit_and (get_or words (c / 64) 0) (2 ^ 64 - 1 - 2 ^ (c % 64)))) words

-- the number of the lowest bit that is set, in m words from word j on; the waiting chain's if there is none
unfoldable pub lowest_from : ℕ → List ℕ → ℕ → ℕ
lowest_from zero words j = waiting_chain
lowest_from (suc m) words j =
    let r = lowest_from m words (j + 1) in
    cond (eqb (get_or words j 0) 0) r (64 * j + count_trailing_zeros 64 (get_or words j 0))

unfoldable pub lowest : List ℕ → ℕ
unfolding lowest_from
lowest words = lowest_from 3 words 0

-- is any bit set, in m words from word j on?
unfoldable pub any_set_from : ℕ → List ℕ → ℕ → Bool
any_set_from zero words j = false
any_set_from (suc m) words j = cond (eqb (get_or words j 0) 0) (any_set_from m words (j + 1)) true

unfoldable pub any_set : List ℕ → Bool
unfolding any_set_from
any_set words = any_set_from 3 words 0

-- are the three words the same?
unfoldable pub same_words : List ℕ → List ℕ → Bool
same_words a b = eqb (get_or a 0 0) (get_or b 0 0) && eqb (get_or a 1 0) (get_or b 1 0) && eqb (get_or a 2 0) (get_or b 2 0)
