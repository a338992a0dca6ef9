-- The numbers that calls give back: when each is due, and the order in which they are tested.
--
-- "They are tested in the order 1 to 8, and each is given only then", and "a NaN key is new code 9, tested after 5 and before 6".
-- Below, each code has its own test, which knows nothing of the others; `codes_in_order` (proofs/Promises) says that a call gives
-- the first in the order that is due.
use Rattle.std.specs.Prelude.{◌≡◌, Bool, true, false, cond, not, List, [], ◌∷◌, ℕ, ◌*◌, ◌%◌, eqb, ltb, length}
use Rattle.keys.specs.declared.kind.Kind.{Kind}
use Rattle.keys.specs.Ordered.{ordered, well_formed, nan_key}
use Rattle.pool.specs.World.{World, blank, free_chain, chain, top_key, within}
use Rattle.pool.specs.Sound.{Typed}
use Rattle.pool.specs.Examine.{fitting, examined}
use Rattle.engine.specs.Outcome.{room_for}
use Rattle.heap.specs.Calls.{listed}
use Rattle.batch.specs.Batch.{records, batch}
use Rattle.promises.specs.Runs.{Ask, AskPush, AskPop, AskConstrain, AskClear, AskClearTo, AskTop, AskLength, AskUnknown, outcome}
use Rattle.promises.specs.Fresh.{Lent, Start, New, NewAt, started}

-- the order
unfoldable pub code_order : List ℕ
code_order = 1 ∷ 2 ∷ 3 ∷ 4 ∷ 5 ∷ 9 ∷ 6 ∷ 7 ∷ 8 ∷ []

-- the first code that is due; 0, "done", if none is
unfoldable pub first_due : List ℕ → (ℕ → Bool) → ℕ
first_due [] due = 0
first_due (c ∷ cs) due = cond (due c) c (first_due cs due)

-- the code c is due if its test fails; for another code ask the rest
abbrev pub test : ℕ → Bool → (ℕ → Bool) → ℕ → Bool
test c fails rest d = cond (eqb d c) fails (rest d)

abbrev pub nothing : ℕ → Bool
nothing d = false

-- 1 kind not 1 to 6 or with a table that does not fit it, "slice lengths unfit, n above 4,096", 2 "pool not sound", of every call on a pool
abbrev pub on_pool : World → (ℕ → Bool) → ℕ → Bool
on_pool w rest = test 1 (not (fitting w)) (test 2 (not (eqb (examined w) 0)) rest)

-- 5 a key that is not well-formed, 9 a NaN
abbrev pub on_key : Kind → ℕ → ℕ → (ℕ → Bool) → ℕ → Bool
on_key kind a b rest = test 5 (not (well_formed kind a b)) (test 9 (nan_key kind a) rest)

-- 6 "push key above the top", 7 "push with no free slot"
abbrev pub on_push : World → ℕ → ℕ → ℕ → Bool
on_push w a b =
    test 6 (not (within w.head.topped (ordered w.head.kind a b) (top_key w)))
    (test 7 (eqb (length (chain w free_chain)) 0) nothing)

-- which codes are due of a call; 8 "pop of an empty heap", 5 "unknown operation or a field not zero that must be"
unfoldable pub due_of : World → Ask → ℕ → Bool
due_of w (AskPush a b v) = on_pool w (on_key w.head.kind a b (on_push w a b))
due_of w AskPop = on_pool w (test 8 (eqb w.head.len 0) nothing)
due_of w AskConstrain = on_pool w nothing
due_of w AskClear = on_pool w nothing
due_of w (AskClearTo a b) = on_pool w (on_key w.head.kind a b nothing)
due_of w AskTop = on_pool w nothing
due_of w AskLength = on_pool w nothing
due_of w AskUnknown = on_pool w (test 5 true nothing)

-- of the fresh calls, which examine nothing: "The pool may hold anything"
unfoldable pub due_of_fresh : Lent → Start → ℕ → Bool
due_of_fresh p New = test 1 (not (fitting (blank p.kind p.keys p.values p.next p.back))) nothing
due_of_fresh p (NewAt a b) = test 1 (not (fitting (blank p.kind p.keys p.values p.next p.back))) (on_key p.kind a b nothing)

-- of a listing: 4 "list room too short"
unfoldable pub due_of_list : World → List ℕ → List ℕ → ℕ → Bool
due_of_list w ks vs = on_pool w (test 4 (not (room_for w.head.kind w.head.len (length ks) (length vs))) nothing)

-- of a batch as a whole: 3 "batch length not a multiple of 32", 4 "answer slice .. too short"
unfoldable pub due_of_batch : World → List ℕ → List ℕ → ℕ → Bool
due_of_batch w bs as' = on_pool w (test 3 (not (eqb (length bs % 32) 0)) (test 4 (ltb (length as') (40 * records bs)) nothing))

-- every call gives the first code that is due, on any world with links of 32 bits, which the code's types see to; a bulk push gives
-- that of the first push that is refused (bulk, specs/Bulk)
pub record CodesInOrder : Type 0 where
  pub calls : (w : World) → Typed w.links → (ask : Ask) → (outcome w ask).code ≡ first_due code_order (due_of w ask)
  pub fresh : (p : Lent) (s : Start) → (started p s).code ≡ first_due code_order (due_of_fresh p s)
  pub list : (w : World) (ks vs : List ℕ) → (listed w ks vs).code ≡ first_due code_order (due_of_list w ks vs)
  pub batches : (w : World) (bs as' : List ℕ) → (batch w bs as').code ≡ first_due code_order (due_of_batch w bs as')
