-- What the code of a batch does, record by record. Contracts of inner functions cite these; a reader of the promises need not.
use Rattle.std.specs.Prelude.{false, cond, List, ℕ, zero, suc, ◌+◌, ◌*◌, eqb, Option, Some, None, is_some, Result, Ok, Err}
use Rattle.keys.specs.declared.kind.Kind.{Kind}
use Rattle.keys.specs.declared.words.Words.{Words}
use Rattle.pool.specs.declared.refusal.Refusal.{Refusal}
use Rattle.pool.specs.declared.refusal.Refusal.TheVariants.{Malformed}
use Rattle.pool.specs.Codes.{refusal_code}
use Rattle.pool.specs.World.{World}
use Rattle.pool.specs.Core.{Moved, moved_to, constrain_core}
use Rattle.engine.specs.Outcome.{Outcome, answered, refused, done}
use Rattle.engine.specs.Core.{push_core, pop_core, clear_core, clear_to_core}
use Rattle.heap.specs.Calls.{top, len}
use Rattle.batch.specs.declared.records.Record.{Record}
use Rattle.batch.specs.declared.records.Operation.{Operation}
use Rattle.batch.specs.declared.records.Operation.TheVariants.{Push, Pop, Constrain, Clear, ClearTo, Top, Length}
use Rattle.batch.specs.declared.serving.Reply.{Reply}
use Rattle.batch.specs.Bytes.{written_at}
use Rattle.batch.specs.Records.{record_at, formed}
use Rattle.batch.specs.Batch.{served, answer, answer_of}

-- ---- what a record asks for

-- the operation of a record whose fields are in order
unfoldable pub named : Record → Operation
named r =
    cond (eqb r.op 1) (Push (record { key = r.key; value = r.value }))
    (cond (eqb r.op 2) Pop
    (cond (eqb r.op 3) Constrain
    (cond (eqb r.op 4) Clear
    (cond (eqb r.op 5) (ClearTo r.key)
    (cond (eqb r.op 6) Top Length)))))

unfoldable pub operation_of : Kind → Record → Result Operation Refusal
unfolding named
operation_of kind r = cond (formed kind r) (Ok (named r)) (Err Malformed)

-- ---- what it gives

-- the words of a key, 0 where there is none
unfoldable pub shown_first : Option Words → ℕ
shown_first None = 0
shown_first (Some k) = k.first

unfoldable pub shown_second : Option Words → ℕ
shown_second None = 0
shown_second (Some k) = k.second

-- a reply, or a refusal, over the world afterwards, as an outcome
unfoldable pub replied : Result Reply Refusal → World → Outcome
unfolding refusal_code shown_first shown_second
replied (Ok s) w = answered 0 w s.moves (is_some s.key) (shown_first s.key) (shown_second s.key) s.value s.count
replied (Err r) w = answered (refusal_code r) w 0 false 0 0 0 0

-- the bytes of an answer, by its code, its reply and the length afterwards
unfoldable pub shown : ℕ → Reply → ℕ → List ℕ
unfolding answer shown_first shown_second
shown code s len = answer code (is_some s.key) s.moves len (shown_first s.key) (shown_second s.key) s.value

unfoldable pub answer_told : Result Reply Refusal → ℕ → List ℕ
unfolding answer shown refusal_code
answer_told (Ok s) len = shown 0 s len
answer_told (Err r) len = answer (refusal_code r) false 0 len 0 0 0

-- the core's constrain as an outcome
unfoldable pub constrained_core : World → Outcome
unfolding done constrain_core
constrained_core w = let m : Moved = constrain_core w.head w.links w.keys in done (moved_to w m) m.moves

unfoldable pub operated_core : World → Operation → Outcome
unfolding push_core pop_core constrained_core clear_core clear_to_core
operated_core w (Push e) = push_core w e.key.first e.key.second e.value
operated_core w Pop = pop_core w
operated_core w Constrain = constrained_core w
operated_core w Clear = clear_core w
operated_core w (ClearTo k) = clear_to_core w k.first k.second
operated_core w Top = top w
operated_core w Length = len w

unfoldable pub asked_core : World → Result Operation Refusal → Outcome
unfolding operated_core refused refusal_code
asked_core w (Ok o) = operated_core w o
asked_core w (Err r) = refused w (refusal_code r)

unfoldable pub served_core : World → Record → Outcome
unfolding asked_core operation_of
served_core w r = asked_core w (operation_of w.head.kind r)

-- ---- one after the other

-- a world and the answers so far
pub record Ran : Type 0 where
  pub world : World
  pub answers : List ℕ

abbrev pub going : World → List ℕ → Ran
going w as' = record { world = w; answers = as' }

-- k records from record i on, each answer written to its own 40 bytes
unfoldable pub ran_from : ℕ → ℕ → List ℕ → World → List ℕ → Ran
ran_from zero i bs w as' = going w as'
ran_from (suc k) i bs w as' =
    ran_from k (i + 1) bs (served w (record_at bs (32 * i))).world (written_at (40 * i) (answer_of (served w (record_at bs (32 * i)))) as')
