-- `pool::examination::FitPool::walk_entries` meets its contract: either walk asks of each slot what the definition asks.
use Rattle.keys.proofs.Names.{not_mixed, not_float}
use Rattle.pool.specs.Examine.{ok_busy}
use Rattle.pool.proofs.CodeExam.{back_room}
use Rattle.pool.proofs.examination.FitPool.walk_entries.Goals as goal

pub invariant_of-entries-clause-room : goal.invariant_of-entries-clause-room
invariant_of-entries-clause-room c = back_room c.args.self.now.fit

pub invariant_of-entries-in_default : goal.invariant_of-entries-in_default
invariant_of-entries-in_default c = record {
  unmixed = not_mixed _ c.name.ensures c.in_default.not-Mixed;
  no_float = not_float _ c.name.ensures c.in_default.not-Float;
  room = back_room c.args.self.now.fit;
}

pub returns-in-Mixed : goal.returns-in-Mixed
unfolding ok_busy
returns-in-Mixed c = c.walk.ensures

pub returns-in_default : goal.returns-in_default
unfolding ok_busy
returns-in_default c = c.walk-in_default.ensures
