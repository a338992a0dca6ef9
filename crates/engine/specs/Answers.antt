-- Document 01's numbers and values for each case of an answer that is an enum: "any key, value, count or place it would give is
-- absent or 0".
use Rattle.std.specs.Prelude.{true, false, ℕ, Option, Some, None, Result, Ok, Err}
use Rattle.keys.specs.declared.words.Words.{Words}
use Rattle.pool.specs.declared.refusal.Refusal.{Refusal}
use Rattle.pool.specs.Codes.{refusal_code}
use Rattle.pool.specs.World.{World}
use Rattle.engine.specs.declared.popping.Popped.{Popped}
use Rattle.engine.specs.Outcome.{Outcome, answered}

-- what a pop gives
unfoldable pub pop_answered : Result Popped Refusal → World → Outcome
unfolding refusal_code
pop_answered (Ok p) w = answered 0 w p.moves true p.entry.key.first p.entry.key.second p.entry.value 0
pop_answered (Err r) w = answered (refusal_code r) w 0 false 0 0 0 0

-- the moves that a call reports
unfoldable pub moves_answered : Result ℕ Refusal → World → Outcome
unfolding refusal_code
moves_answered (Ok n) w = answered 0 w n false 0 0 0 0
moves_answered (Err r) w = answered (refusal_code r) w 0 false 0 0 0 0

-- the top that was asked for
unfoldable pub top_answered : Result (Option Words) Refusal → World → Outcome
unfolding refusal_code
top_answered (Ok None) w = answered 0 w 0 false 0 0 0 0
top_answered (Ok (Some k)) w = answered 0 w 0 true k.first k.second 0 0
top_answered (Err r) w = answered (refusal_code r) w 0 false 0 0 0 0

-- the length that was asked for
unfoldable pub len_answered : Result ℕ Refusal → World → Outcome
unfolding refusal_code
len_answered (Ok n) w = answered 0 w 0 false 0 0 0 n
len_answered (Err r) w = answered (refusal_code r) w 0 false 0 0 0 0
