-- Document 01's numbers and values for each case of what `list` gives: "any key, value, count or place it would give is absent or 0".
-- Those of the other calls are in the crate `engine`, specs/Answers.
use Rattle.std.specs.Prelude.{List, ℕ, Result, Ok, Err}
use Rattle.pool.specs.declared.refusal.Refusal.{Refusal}
use Rattle.pool.specs.Codes.{refusal_code}
use Rattle.pool.specs.World.{World}
use Rattle.engine.specs.Outcome.{Listing, listing}

unfoldable pub list_answered : Result ℕ Refusal → World → List ℕ → List ℕ → Listing
unfolding refusal_code
list_answered (Ok n) w ks vs = listing 0 w ks vs n
list_answered (Err r) w ks vs = listing (refusal_code r) w ks vs 0
