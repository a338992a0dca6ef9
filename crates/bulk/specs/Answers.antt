-- Document 01's numbers for what a bulk push is told: "if one is refused it gives the code and place, from 0, of the first that single
-- pushes in that order would refuse; else the place is 0."
use Rattle.std.specs.Prelude.{Result, Ok, Err}
use Rattle.pool.specs.Codes.{refusal_code}
use Rattle.pool.specs.World.{World}
use Rattle.bulk.specs.declared.extending.Stop.{Stop}
use Rattle.bulk.specs.Bulk.{Bulk, bulk}

unfoldable pub bulk_answered : {T : Type 0} → Result T Stop → World → Bulk
unfolding refusal_code
bulk_answered (Ok x) w = bulk 0 w 0
bulk_answered (Err s) w = bulk (refusal_code s.refusal) w s.place
