-- `batch::runs::serve_all` meets its contract. The loop's invariant: at record i the world is sound, what is left to do from here is
-- what there was to do, and the same slices are lent. Assumes nothing.
use Rattle.pool.specs.Lent.{world_in, SamePool}
use Rattle.batch.proofs.CodeRuns.{Turn}
use Rattle.batch.proofs.runs.serve_all.Given as goal

abbrev pub invariant-loop-i : goal.invariant-loop-i
invariant-loop-i l = Turn l.n l.records (world_in l.initial.engine.state l.initial.pool) l.initial.answers (world_in l.engine.state l.pool) l.answers l.i × SamePool l.pool l.initial.pool
