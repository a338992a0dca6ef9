-- Document 01's starred examples, 1 to 10, as rows of one table, computed by the public calls' definitions: the fresh calls, the
-- examinations, the calls themselves; and what later requests added to them.
use mathlib.Core.Path.{◌≡◌, refl}
use mathlib.Core.Bool.{Bool, true, false, ◌&&◌}
use mathlib.Core.List.{List, [], ◌∷◌, ◌++◌, map}
use Prim.Native.Nat.{ℕ, zero, suc, ◌+◌, ◌-◌, ◌*◌, ◌^◌}
use lib.Dec.{eqb}
use lib.ListN.{replicate, set}
use Rattle.rule.specs.Lists.{sum}
use Rattle.rule.specs.Width.{distance, zeros}
use Rattle.rule.specs.Calls.{refusal, taking}
use Rattle.rule.specs.Rule.{bucket_count, empty, held, put, busy, stay, take_tail, greatest, spread, drain, drain_some, drain_bucket, constrain as ruleConstrain, push as rulePush, pop as rulePop, served, serve}
use Rattle.rule.specs.Ledger.{pushed as noting, moved, bound, opened, everyone, noted, leaving, entered, record_call, book_after}
use Rattle.keys.specs.Ordered.{is_wide, width, words, ordered, well_formed, nan_key, proper}
use Rattle.keys.specs.declared.kind.Kind.{Kind}
use Rattle.keys.specs.declared.kind.Table.{Table}
use Rattle.keys.specs.Table.{bare, mixed, table_of, kind_fits, table_zero}
use Rattle.pool.specs.World.{blank, World, store_key, key_word0, key_word1, place, within, chains, busy_chains}
use Rattle.pool.specs.Marks.{flag, bits, summary, same_words}
use Rattle.pool.specs.Sound.{limit}
use Rattle.pool.specs.Examine.{stands_at, empty_at, fits, examined, fitting, headed, scanned, finish, scan, verify_busy, apart, verify, ok_busy, ok_free}
use Rattle.pool.specs.Lay.{top_in, heap_in, heap, with_free, first_in, after, before, next_in, back_in, lay, fresh, leading, head_after}
use Rattle.engine.specs.Outcome.{refused, done, given, unless, key_code, checked}
use Rattle.heap.specs.Calls.{push_into, push, constrain, pop_out, pop, clear, clear_to, top, len, pushed, popped, constrained, cleared, cleared_to, top_read, len_read, made, made_at}
use Rattle.promises.specs.Runs.{key_of, Ask, AskPush, AskPop, AskConstrain, AskClear, AskClearTo, AskTop, outcome, moves_from}
use Rattle.promises.specs.Plain.{unless_told, call_of, ahead, calls_of}
use Rattle.promises.specs.Fresh.{Lent, New, NewAt, started, start_top}
use Rattle.promises.specs.Promised.{begun, ledger, reported}

-- ---- what calls show

-- n slots for keys of a kind
abbrev lent_of : Kind → ℕ → Lent
lent_of kind n = record { kind = kind; keys = replicate (words kind * n) 0; values = replicate n 0; next = replicate n 0; back = replicate n 0 }

abbrev lent : ℕ → ℕ → Lent
lent kind = lent_of (bare kind)

-- code, moves, key words and value of each call
shown : World → List Ask → List (List ℕ)
unfolding outcome
shown w [] = []
shown w (c ∷ cs) =
    let o = outcome w c in
    (o.code ∷ o.moves ∷ o.key0 ∷ o.key1 ∷ o.value ∷ []) ∷ shown o.world cs

-- the busy words after each call
marks : World → List Ask → List (List ℕ)
unfolding outcome
marks w [] = []
marks w (c ∷ cs) = let o = outcome w c in o.world.links.busy ∷ marks o.world cs

abbrev key : ℕ → Ask
key k = AskPush k 0 0

abbrev pops : ℕ → List Ask
pops zero = []
pops (suc n) = AskPop ∷ pops n

-- a call that is done and gives nothing, one that is refused, a pop, a top, a constrain
abbrev ok : List ℕ
ok = 0 ∷ 0 ∷ 0 ∷ 0 ∷ 0 ∷ []

abbrev no : ℕ → List ℕ
no code = code ∷ 0 ∷ 0 ∷ 0 ∷ 0 ∷ []

abbrev gives : ℕ → ℕ → ℕ → List ℕ
gives moves key value = 0 ∷ moves ∷ key ∷ 0 ∷ value ∷ []

abbrev tells : ℕ → List ℕ
tells key = 0 ∷ 0 ∷ key ∷ 0 ∷ 0 ∷ []

abbrev moves : ℕ → List ℕ
moves m = 0 ∷ m ∷ 0 ∷ 0 ∷ 0 ∷ []

-- ---- the table

-- what is shown, and what document 01 says
record Row : Type 0 where
  shows : List (List ℕ)
  says : List (List ℕ)

abbrev row : List (List ℕ) → List (List ℕ) → Row
row a b = record { shows = a; says = b }

-- calls on a fresh heap of that kind with n slots, by new and by new_at
abbrev calls : ℕ → ℕ → List Ask → List (List ℕ)
calls kind n cs = shown (begun (lent kind n) New) cs

abbrev calls_at : ℕ → ℕ → ℕ → List Ask → List (List ℕ)
calls_at kind n k cs = shown (begun (lent kind n) (NewAt k 0)) cs

nine : List Ask
nine = map key (255 ∷ 127 ∷ 63 ∷ 31 ∷ 15 ∷ 7 ∷ 3 ∷ 1 ∷ 0 ∷ []) ++ pops 9

-- two's complement
abbrev minus_one : ℕ
minus_one = 2 ^ 64 - 1

abbrev least : ℕ
least = 2 ^ 63

abbrev apart_by : ℕ → ℕ → ℕ → ℕ → ℕ
apart_by a b c d = distance (width (bare 4)) (ordered (bare 4) a b) (ordered (bare 4) c d)

abbrev pair : ℕ → ℕ → Ask
pair a b = AskPush a b 0

-- 2 ^ 63, and 2 ^ 62 besides
abbrev high : ℕ
high = 2 ^ 63

abbrev both : ℕ
both = 2 ^ 63 + 2 ^ 62

-- M-100: a day of 32 bits, a road of 16 and a reversed priority of 8, all in the second word
abbrev jobs : Kind
jobs = mixed (table_of 32 16 10 0)

abbrev at : ℕ → ℕ → ℕ → ℕ
at day road priority = day * 2 ^ 24 + road * 2 ^ 8 + priority

abbrev job : ℕ → ℕ → ℕ → ℕ → Ask
job day road priority v = AskPush 0 (at day road priority) v

abbrev gives_job : ℕ → ℕ → ℕ → ℕ → ℕ → List ℕ
gives_job moves day road priority v = 0 ∷ moves ∷ 0 ∷ at day road priority ∷ v ∷ []

-- M-108: floats by the field of their exponent; minus has the sign bit set. -0.0, 1.0, -1.0, the infinities and a NaN
abbrev minus : ℕ → ℕ
minus field = 2 ^ 63 + field * 2 ^ 52

abbrev plus : ℕ → ℕ
plus field = field * 2 ^ 52

abbrev one : ℕ
one = 1023

abbrev infinity : ℕ
infinity = 2047

abbrev nan : ℕ
nan = plus infinity + 1

abbrev float : ℕ → ℕ → Ask
float a v = AskPush a 0 v

-- the codes of a fresh heap of such kinds, with four slots
abbrev news : List Kind → List ℕ
news = map (λ (k : Kind). (started (lent_of k 4) New).code)

abbrev in_kind : ℕ → Table → Kind
in_kind n t = record { number = n; table = t }

-- a heap with its first slot's key, or its top, written over
abbrev written : World → ℕ → ℕ → World
written w a b = record { head = w.head; links = w.links; keys = set (set w.keys 0 a) 1 b; values = w.values }

abbrev topped : World → ℕ → ℕ → World
topped w a b = record { head = record { kind = w.head.kind; len = w.head.len; topped = w.head.topped; top0 = a; top1 = b }; links = w.links; keys = w.keys; values = w.values }

table : List Row
unfolding shown marks nine
table =
    -- 1: nine pops give that order, ..
    row (calls 1 16 nine)
    (replicate 9 ok ++ gives 9 255 0 ∷ gives 8 127 0 ∷ gives 7 63 0 ∷ gives 6 31 0 ∷ gives 5 15 0 ∷ gives 4 7 0 ∷ gives 3 3 0 ∷ gives 2 1 0 ∷ gives 1 0 0 ∷ [])
    -- .. "45, which equals the summed bound of demand 3"
    ∷ row ((reported (lent 1 16) New nine ∷ sum (bound 64 (key_of (bare 1))) (everyone (ledger (lent 1 16) New nine)) ∷ []) ∷ [])
    ((45 ∷ 45 ∷ []) ∷ [])
    -- 2
    ∷ row (calls 1 16 (AskPush 5 0 1 ∷ AskPush 5 0 2 ∷ AskPush 3 0 3 ∷ AskPush 5 0 4 ∷ pops 4))
    (replicate 4 ok ++ gives 4 5 4 ∷ gives 0 5 2 ∷ gives 0 5 1 ∷ gives 1 3 3 ∷ [])
    -- 3
    ∷ row (calls_at 1 16 5 (key 5 ∷ key 6 ∷ [])) (ok ∷ no 6 ∷ [])
    -- 4
    ∷ row (calls_at 1 1 5 (key 5 ∷ key 6 ∷ key 4 ∷ [])) (ok ∷ no 6 ∷ no 7 ∷ [])
    -- 5
    ∷ row (calls 2 16 (key minus_one ∷ key 0 ∷ key least ∷ pops 3))
    (replicate 3 ok ++ gives 3 0 0 ∷ gives 2 minus_one 0 ∷ gives 1 least 0 ∷ [])
    -- 6
    ∷ row (calls 3 16 (AskPush 10 0 1 ∷ AskPush 20 0 2 ∷ AskPush 10 0 3 ∷ AskPop ∷ key 9 ∷ key 10 ∷ []))
    (replicate 3 ok ++ gives 3 10 3 ∷ no 6 ∷ ok ∷ [])
    -- 7
    ∷ row ((apart_by 1 0 0 (2 ^ 64 - 1) ∷ apart_by 1 1 1 0 ∷ []) ∷ []) ((65 ∷ 1 ∷ []) ∷ [])
    -- 8
    ∷ row (calls 1 16 (AskClearTo 7 0 ∷ AskPop ∷ key 8 ∷ key 7 ∷ AskClear ∷ key 8 ∷ []))
    (ok ∷ no 8 ∷ no 6 ∷ ok ∷ ok ∷ ok ∷ [])
    -- 9
    ∷ row (calls 1 16 (key 3 ∷ key 9 ∷ AskConstrain ∷ AskTop ∷ key 10 ∷ AskConstrain ∷ []))
    (ok ∷ ok ∷ moves 2 ∷ tells 9 ∷ no 6 ∷ moves 0 ∷ [])
    -- 10
    ∷ row (calls 1 0 (key 5 ∷ AskPop ∷ [])) (no 7 ∷ no 8 ∷ [])
    -- M-104: "bit set exactly when the bucket isn't empty", while 3 stands behind 7 and 7 behind 9
    ∷ row (marks (begun (lent 1 16) New) (key 3 ∷ key 9 ∷ key 7 ∷ AskConstrain ∷ pops 3))
    (replicate 3 (0 ∷ 0 ∷ 0 ∷ []) ++ (17 ∷ 0 ∷ 0 ∷ []) ∷ (16 ∷ 0 ∷ 0 ∷ []) ∷ (8 ∷ 0 ∷ 0 ∷ []) ∷ (0 ∷ 0 ∷ 0 ∷ []) ∷ [])
    -- and with pairs in buckets 63, 64, 127 and 128: the ends of the words
    ∷ row (marks (begun (lent 4 4) (NewAt both both)) (pair both high ∷ pair both 1 ∷ pair high 7 ∷ pair 1 7 ∷ AskClear ∷ []))
    ((high ∷ 0 ∷ 0 ∷ []) ∷ (high ∷ 1 ∷ 0 ∷ []) ∷ (high ∷ (high + 1) ∷ 0 ∷ []) ∷ (high ∷ (high + 1) ∷ 1 ∷ []) ∷ (0 ∷ 0 ∷ 0 ∷ []) ∷ [])
    -- M-100: the day decides, then the road, then the priority, where the smaller number is the greater key. Days 1 and 2 differ in
    -- bit 2 of the day, so both jobs of day 1 go to bucket 26; priorities 3 and 4 differ in bit 3
    ∷ row (shown (begun (lent_of jobs 4) New) (job 1 2 4 7 ∷ job 1 2 3 8 ∷ job 2 0 9 9 ∷ pops 2 ++ job 2 0 9 5 ∷ job 1 2 3 6 ∷ pops 2))
    (replicate 3 ok ++ gives_job 3 2 0 9 9 ∷ gives_job 2 1 2 3 8 ∷ no 6 ∷ ok ∷ gives_job 0 1 2 3 6 ∷ gives_job 1 1 2 4 7 ∷ [])
    -- "a key with a bit set above its total is code 5", before and after a clear, which keeps the table; and of clear_to
    ∷ row (shown (begun (lent_of jobs 4) New) (AskPush 0 (2 ^ 56) 0 ∷ AskPush 1 0 0 ∷ AskClear ∷ AskPush 0 (2 ^ 56) 0 ∷ AskClearTo 1 0 ∷ AskClearTo 0 (at 2 0 0) ∷ job 2 0 0 7 ∷ job 2 1 0 7 ∷ AskPop ∷ []))
    (no 5 ∷ no 5 ∷ ok ∷ no 5 ∷ no 5 ∷ ok ∷ ok ∷ no 6 ∷ gives_job 0 2 0 0 7 ∷ [])
    -- "in a pool or top code 2"
    ∷ row
    (map (λ (w : World). examined w ∷ [])
    (let held = (pushed (begun (lent_of jobs 4) (NewAt 0 (at 2 0 0))) 0 (at 1 2 3) 0).world in
    held ∷ written held 0 (at 1 2 3 + 2 ^ 56) ∷ written held 1 (at 1 2 3) ∷ topped held 0 (at 2 0 0 + 2 ^ 56) ∷ topped held 1 (at 2 0 0) ∷ []))
    ((0 ∷ []) ∷ (2 ∷ []) ∷ (2 ∷ []) ∷ (2 ∷ []) ∷ (2 ∷ []) ∷ [])
    -- "A table that breaks these limits, or isn't zero in another kind, is code 1", and so is a pool of n key words for 16 bits
    ∷ row (news (jobs ∷ mixed (table_of 8 8 0 0) ∷ mixed (table_of 64 64 0 0) ∷ mixed (table_of 64 0 0 0) ∷ mixed (table_of 8 0 8 0) ∷ mixed (table_of 24 8 0 0) ∷ mixed (table_of 11 8 0 0) ∷ mixed (table_of 64 64 8 0) ∷ []) ∷ news (bare 5 ∷ in_kind 3 (table_of 8 8 0 0) ∷ in_kind 6 (table_of 8 8 0 0) ∷ []) ∷ [])
    ((0 ∷ 0 ∷ 0 ∷ 1 ∷ 1 ∷ 1 ∷ 1 ∷ 1 ∷ []) ∷ (1 ∷ 1 ∷ 1 ∷ []) ∷ [])
    ∷ row (((made (mixed (table_of 8 8 0 0)) (replicate 4 0) (replicate 4 0) (replicate 4 0) (replicate 4 0)).code ∷ (started (lent_of jobs 4) (NewAt 0 (2 ^ 56))).code ∷ []) ∷ [])
    ((1 ∷ 5 ∷ []) ∷ [])
    -- M-108: "at top minus zero a push of plus zero is code 6", and a pushed -1.0 does not come first
    ∷ row (calls_at 6 4 (minus 0) (float (plus 0) 1 ∷ float (minus one) 2 ∷ float (minus 0) 3 ∷ pops 2))
    (no 6 ∷ ok ∷ ok ∷ gives 0 (minus 0) 3 ∷ gives 1 (minus one) 2 ∷ [])
    -- "ordered as numbers, with minus zero just below plus zero"
    ∷ row (calls 6 8 (float (minus one) 1 ∷ float (plus infinity) 2 ∷ float (plus 0) 3 ∷ float (minus infinity) 4 ∷ float (minus 0) 5 ∷ float (plus one) 6 ∷ pops 6))
    (replicate 6 ok ++ gives 6 (plus infinity) 2 ∷ gives 2 (plus one) 6 ∷ gives 1 (plus 0) 3 ∷ gives 3 (minus 0) 5 ∷ gives 1 (minus one) 1 ∷ gives 1 (minus infinity) 4 ∷ [])
    -- "A NaN key is new code 9, tested after 5 and before 6": with a second word, of clear_to, above the top, with no slot free
    ∷ row (calls 6 1 (float nan 0 ∷ AskPush nan 1 0 ∷ AskClearTo nan 0 ∷ AskClearTo nan 1 ∷ AskClearTo (plus one) 0 ∷ float nan 0 ∷ float (plus infinity) 0 ∷ float (plus one) 7 ∷ float nan 0 ∷ AskPush (plus one) 1 0 ∷ float (plus one) 0 ∷ AskPop ∷ []))
    (no 9 ∷ no 5 ∷ no 9 ∷ no 5 ∷ ok ∷ no 9 ∷ no 6 ∷ ok ∷ no 9 ∷ no 5 ∷ no 7 ∷ gives 0 (plus one) 7 ∷ [])
    -- of new_at; and in kind 1 the pattern is a key like any other
    ∷ row ((news (bare 6 ∷ bare 7 ∷ []) ++ map (λ (a : ℕ). (started (lent 6 4) (NewAt a 0)).code) (nan ∷ minus 0 ∷ plus infinity ∷ [])) ∷ calls 1 4 (float nan 0 ∷ []))
    ((0 ∷ 1 ∷ 9 ∷ 0 ∷ 0 ∷ []) ∷ ok ∷ [])
    -- "a NaN in a pool or top is code 2": in a bucket, on the waiting chain and as the top, where an infinity may stand; and a second word of the top
    ∷ row
    (map (λ (w : World). examined w ∷ [])
    (let held = (pushed (begun (lent 6 4) (NewAt (plus 0) 0)) (minus one) 0 0).world in
    let waiting = (pushed (begun (lent 6 4) New) (plus one) 0 0).world in
    let at = begun (lent 6 4) (NewAt (plus one) 0) in
    written held (minus infinity) 0 ∷ written held (minus infinity + 1) 0 ∷ written held (2 ^ 64 - 1) 0
    ∷ written waiting (plus infinity) 0 ∷ written waiting nan 0 ∷ topped at (plus infinity) 0 ∷ topped at nan 0 ∷ topped at (plus one) 1 ∷ []))
    ((0 ∷ []) ∷ (2 ∷ []) ∷ (2 ∷ []) ∷ (0 ∷ []) ∷ (2 ∷ []) ∷ (0 ∷ []) ∷ (2 ∷ []) ∷ (2 ∷ []) ∷ [])
    ∷ []

-- ---- compared number by number

same : List ℕ → List ℕ → Bool
same [] [] = true
same [] (y ∷ ys) = false
same (x ∷ xs) [] = false
same (x ∷ xs) (y ∷ ys) = eqb x y && same xs ys

alike : List (List ℕ) → List (List ℕ) → Bool
unfolding same
alike [] [] = true
alike [] (y ∷ ys) = false
alike (x ∷ xs) [] = false
alike (x ∷ xs) (y ∷ ys) = same x y && alike xs ys

hold : List Row → Bool
unfolding alike
hold [] = true
hold (r ∷ rs) = alike r.shows r.says && hold rs

examples : hold table ≡ true
unfolding same alike hold table shown marks nine started start_top made made_at blank outcome moves_from pushed popped constrained cleared cleared_to top_read len_read checked unless examined fitting headed scanned same_words flag bits summary finish scan verify_busy apart verify stands_at empty_at ok_busy ok_free fits limit push push_into pop pop_out constrain head_after leading clear clear_to top len refused done given fresh heap heap_in top_in with_free lay first_in after before next_in back_in chains busy_chains width words ordered well_formed nan_key is_wide kind_fits table_zero proper key_code store_key key_word0 key_word1 place within distance zeros empty bucket_count held put busy stay take_tail greatest spread drain drain_some drain_bucket ruleConstrain rulePush rulePop served serve refusal taking noting moved bound opened everyone noted leaving entered record_call book_after unless_told call_of ahead calls_of
examples = refl
