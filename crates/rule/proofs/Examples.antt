-- Document 01's examples, as far as they speak of the rule alone, computed by the definitions: a check of those.
-- An entry is a key in ordered form with a value. (Example 11 is about listing, 13 about the program.)
use mathlib.Core.Path.{◌≡◌, refl}
use Prim.Native.Nat.{ℕ, zero, suc, ◌+◌, ◌*◌, ◌-◌, ◌^◌}
use mathlib.Core.List.{List, [], ◌∷◌, ◌++◌, map}
use mathlib.Core.Option.{Option, none, some}
use lib.ListN.{length}
use Rattle.rule.specs.Lists.{sum}
use Rattle.rule.specs.Width.{distance, zeros}
use Rattle.rule.specs.Calls.{Call, Push, Pop, Constrain, Clear, ClearTo, Top}
use Rattle.rule.specs.Rule.{bucket_count, Heap, empty, keep, Served, serve, reports}
use Rattle.rule.specs.Ledger.{bound, opened, everyone, book_after}

record Pair : Type 0 where
  key : ℕ
  value : ℕ

abbrev key_of : Pair → ℕ
key_of p = p.key

abbrev push_of : ℕ → ℕ → Call Pair
push_of k v = Push (record { key = k; value = v })

abbrev push_key : ℕ → Call Pair
push_key k = push_of k 0

abbrev pops : ℕ → List (Call Pair)
pops zero = []
pops (suc n) = Pop ∷ pops n

-- ---- what is shown of a call: its code and its moves, then the key and value that it gave, or the top that it told

abbrev entry_shown : Option Pair → List ℕ
entry_shown none = []
entry_shown (some p) = p.key ∷ p.value ∷ []

abbrev top_shown : Option ℕ → List ℕ
top_shown none = []
top_shown (some t) = t ∷ []

abbrev shown : Served Pair → List ℕ
shown s = s.answer.code ∷ length s.moved ∷ entry_shown s.answer.given ++ top_shown s.answer.top

-- keys of 64 bits, n slots
run : ℕ → Heap Pair → List (Call Pair) → List (List ℕ)
unfolding serve distance
run n h [] = []
run n h (c ∷ cs) = shown (serve 64 key_of keep n h c) ∷ run n (serve 64 key_of keep n h c).heap cs

-- ---- the table

-- one example: the slots, the top at the start, the calls, and what they show
record Row : Type 0 where
  slots : ℕ
  start : Option ℕ
  calls : List (Call Pair)
  shows : List (List ℕ)

abbrev row : ℕ → Option ℕ → List (Call Pair) → List (List ℕ) → Row
row n start cs rs = record { slots = n; start = start; calls = cs; shows = rs }

-- a push that is taken, and one that is refused
abbrev taken : List ℕ
taken = 0 ∷ 0 ∷ []

abbrev refused : ℕ → List ℕ
refused code = code ∷ 0 ∷ []

abbrev popped : ℕ → ℕ → ℕ → List ℕ
popped moves key value = 0 ∷ moves ∷ key ∷ value ∷ []

-- kinds 2 and 3: the number plus 2^63, and 2^64 - 1 minus the number
abbrev reversed : ℕ → ℕ
reversed k = 2 ^ 64 - 1 - k

nine : List (Call Pair)
nine = map push_key (255 ∷ 127 ∷ 63 ∷ 31 ∷ 15 ∷ 7 ∷ 3 ∷ 1 ∷ 0 ∷ []) ++ pops 9

table : List Row
unfolding nine
table =
    -- 1
    row 16 none nine (taken ∷ taken ∷ taken ∷ taken ∷ taken ∷ taken ∷ taken ∷ taken ∷ taken
    ∷ popped 9 255 0 ∷ popped 8 127 0 ∷ popped 7 63 0 ∷ popped 6 31 0 ∷ popped 5 15 0 ∷ popped 4 7 0 ∷ popped 3 3 0 ∷ popped 2 1 0 ∷ popped 1 0 0 ∷ [])
    -- 2
    ∷ row 16 none (push_of 5 1 ∷ push_of 5 2 ∷ push_of 3 3 ∷ push_of 5 4 ∷ pops 4) (taken ∷ taken ∷ taken ∷ taken ∷ popped 4 5 4 ∷ popped 0 5 2 ∷ popped 0 5 1 ∷ popped 1 3 3 ∷ [])
    -- 3
    ∷ row 16 (some 5) (push_key 5 ∷ push_key 6 ∷ []) (taken ∷ refused 6 ∷ [])
    -- 4
    ∷ row 1 (some 5) (push_key 5 ∷ push_key 6 ∷ push_key 4 ∷ []) (taken ∷ refused 6 ∷ refused 7 ∷ [])
    -- 5: -1, 0 and the least number
    ∷ row 16 none (push_key (2 ^ 63 - 1) ∷ push_key (2 ^ 63) ∷ push_key 0 ∷ pops 3) (taken ∷ taken ∷ taken ∷ popped 3 (2 ^ 63) 0 ∷ popped 2 (2 ^ 63 - 1) 0 ∷ popped 1 0 0 ∷ [])
    -- 6
    ∷ row 16 none (push_of (reversed 10) 1 ∷ push_of (reversed 20) 2 ∷ push_of (reversed 10) 3 ∷ Pop ∷ push_of (reversed 9) 4 ∷ push_of (reversed 10) 5 ∷ [])
    (taken ∷ taken ∷ taken ∷ popped 3 (reversed 10) 3 ∷ refused 6 ∷ taken ∷ [])
    -- 8
    ∷ row 16 none (ClearTo 7 ∷ Pop ∷ push_key 8 ∷ push_key 7 ∷ Clear ∷ push_key 8 ∷ []) (taken ∷ refused 8 ∷ refused 6 ∷ taken ∷ taken ∷ taken ∷ [])
    -- 9
    ∷ row 16 none (push_key 3 ∷ push_key 9 ∷ Constrain ∷ Top ∷ push_key 10 ∷ Constrain ∷ []) (taken ∷ taken ∷ (0 ∷ 2 ∷ []) ∷ (0 ∷ 0 ∷ 9 ∷ []) ∷ refused 6 ∷ (0 ∷ 0 ∷ []) ∷ [])
    -- 10
    ∷ row 0 none (push_key 1 ∷ Pop ∷ []) (refused 7 ∷ refused 8 ∷ [])
    -- 12
    ∷ row 2 none (push_key 1 ∷ push_key 2 ∷ push_key 3 ∷ Pop ∷ push_key 1 ∷ []) (taken ∷ taken ∷ refused 7 ∷ popped 2 2 0 ∷ taken ∷ [])
    ∷ []

examples_hold : map (λ r. run r.slots (empty r.start) r.calls) table ≡ map (λ r. r.shows) table
unfolding table run empty bucket_count
examples_hold = refl

-- 1: the moves are 45, "which equals the summed bound of demand 3"
example_1_sums : (sum (λ m. m) (reports 64 key_of keep 16 (empty none) nine) ≡ 45) × (sum (bound 64 key_of) (everyone (book_after 64 key_of 16 (opened none) nine)) ≡ 45)
unfolding nine bound everyone book_after opened empty reports bucket_count distance zeros
example_1_sums = (refl, refl)

-- 7: distances of pairs
example_7 : (distance 128 (1 * 2 ^ 64 + 0) (0 * 2 ^ 64 + (2 ^ 64 - 1)) ≡ 65) × (distance 128 (1 * 2 ^ 64 + 1) (1 * 2 ^ 64 + 0) ≡ 1)
unfolding distance
example_7 = (refl, refl)
