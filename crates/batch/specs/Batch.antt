-- What a record gives, its answer of 40 bytes, and what a batch gives: document 01, "Batch records" and "Numbers given back".
use Rattle.std.specs.Prelude.{Bool, cond, List, [], ◌∷◌, ◌++◌, ℕ, zero, suc, ◌*◌, ◌/◌, ◌%◌, eqb, ltb, length, Result, Ok, Err}
use Rattle.pool.specs.declared.refusal.Refusal.{Refusal}
use Rattle.pool.specs.Codes.{refusal_code}
use Rattle.pool.specs.World.{World}
use Rattle.pool.specs.Examine.{examined}
use Rattle.engine.specs.Outcome.{Outcome, refused}
use Rattle.heap.specs.Calls.{push, pop, constrain, clear, clear_to, top, len, pushed, popped, constrained, cleared, cleared_to, top_read, len_read, over}
use Rattle.batch.specs.declared.records.Record.{Record}
use Rattle.batch.specs.Bytes.{bytes_of}
use Rattle.batch.specs.Records.{records_from, formed}

-- "1 push, 2 pop, 3 constrain, 4 clear, 5 clear_to, 6 top, 7 length": the call, on a sound world
unfoldable pub operated : World → Record → Outcome
operated w r =
    cond (eqb r.op 1) (push w r.key.first r.key.second r.value)
    (cond (eqb r.op 2) (pop w)
    (cond (eqb r.op 3) (constrain w)
    (cond (eqb r.op 4) (clear w)
    (cond (eqb r.op 5) (clear_to w r.key.first r.key.second)
    (cond (eqb r.op 6) (top w) (len w))))))

-- "A refused record changes neither state nor pool"
unfoldable pub served : World → Record → Outcome
served w r = cond (formed w.head.kind r) (operated w r) (refused w 5)

-- "byte 0 code, byte 1 is 1 if a key follows .., 2 and 3 zero, 4 to 7 moves, 8 to 11 length afterwards, 12 to 15 zero, 16 to 23
-- and 24 to 31 key words, 32 to 39 value. Absent fields are zero"
unfoldable pub answer : ℕ → Bool → ℕ → ℕ → ℕ → ℕ → ℕ → List ℕ
answer code present moves length key0 key1 value =
    code ∷ cond present 1 0 ∷ 0 ∷ 0 ∷ bytes_of 4 moves ++ bytes_of 4 length ++ bytes_of 4 0 ++ bytes_of 8 key0 ++ bytes_of 8 key1 ++ bytes_of 8 value

abbrev pub answer_of : Outcome → List ℕ
answer_of o = answer o.code o.present o.moves o.world.head.len o.key0 o.key1 o.value

-- the world after records, and their answers one after the other; after a refused record "the next record runs"
unfoldable pub world_after : World → List Record → World
world_after w [] = w
world_after w (r ∷ rs) = world_after (served w r).world rs

unfoldable pub answers_of : World → List Record → List ℕ
answers_of w [] = []
answers_of w (r ∷ rs) = answer_of (served w r) ++ answers_of (served w r).world rs

-- ---- the same by the public calls, each of which examines the pool again

-- the public call that a record asks for
unfoldable pub called : World → Record → Outcome
called w r =
    cond (formed w.head.kind r)
    (cond (eqb r.op 1) (pushed w r.key.first r.key.second r.value)
    (cond (eqb r.op 2) (popped w)
    (cond (eqb r.op 3) (constrained w)
    (cond (eqb r.op 4) (cleared w)
    (cond (eqb r.op 5) (cleared_to w r.key.first r.key.second)
    (cond (eqb r.op 6) (top_read w) (len_read w)))))))
    (refused w 5)

-- these calls one after the other, each on the world that the one before it left
unfoldable pub world_called : World → List Record → World
world_called w [] = w
world_called w (r ∷ rs) = world_called (called w r).world rs

unfoldable pub answers_called : World → List Record → List ℕ
answers_called w [] = []
answers_called w (r ∷ rs) = answer_of (called w r) ++ answers_called (called w r).world rs

-- ---- a batch

-- what a batch gives: its code, the world and the lent answers afterwards, and how many records were answered
pub record Batched : Type 0 where
  pub code : ℕ
  pub world : World
  pub answers : List ℕ
  pub count : ℕ

abbrev pub batched : ℕ → World → List ℕ → ℕ → Batched
batched code w as' n = record { code = code; world = w; answers = as'; count = n }

-- the same by what the caller is told: how many records were answered, or why none was
unfoldable pub batch_answered : Result ℕ Refusal → World → List ℕ → Batched
unfolding refusal_code
batch_answered (Ok n) w as' = batched 0 w as' n
batch_answered (Err r) w as' = batched (refusal_code r) w as' 0

-- how many whole records there are
abbrev pub records : List ℕ → ℕ
records bs = length bs / 32

-- 1 and 2 by the examination, 3 for a batch length not a multiple of 32, 4 for an answer slice too short
unfoldable pub batch_code : World → List ℕ → List ℕ → ℕ
batch_code w bs as' =
    cond (eqb (examined w) 0)
    (cond (eqb (length bs % 32) 0) (cond (ltb (length as') (40 * records bs)) 4 0) 3)
    (examined w)

-- "Each record's answer goes into its own 40 bytes of the lent answer slice"; "bytes past the last answer stay"
unfoldable pub ran : World → List ℕ → List ℕ → Batched
ran w bs as' =
    let rs = records_from (records bs) bs 0 in
    batched 0 (world_after w rs) (over (answers_of w rs) as') (records bs)

unfoldable pub batch_unless : ℕ → World → List ℕ → Batched → Batched
batch_unless zero w as' b = b
batch_unless (suc c) w as' b = batched (suc c) w as' 0

unfoldable pub batch : World → List ℕ → List ℕ → Batched
batch w bs as' = batch_unless (batch_code w bs as') w as' (ran w bs as')
