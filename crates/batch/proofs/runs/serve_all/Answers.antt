-- `batch::runs::serve_all` meets its contract, by the steps of its loop. Assumes nothing.
use mathlib.Core.Path.{◌∙◌}
use Rattle.batch.proofs.CodeRuns.{turn_next, turn_last}
use Rattle.batch.proofs.runs.serve_all.Goals as goal

pub loop-i-preserved : goal.loop-i-preserved
loop-i-preserved c =
    let turn = c.loop-i.invariant.0 in
    let old = c.loop-i.invariant.1 in
    let same = c.serve-told.ensures.same in (
      turn_next turn c.loop-i-test.true c.requires.n_in_bounds_2 c.read.ensures _ _ c.serve-told.ensures.gives c.write.ensures,
      (same.0 ∙ old.0, same.1 ∙ old.1, same.2 ∙ old.2, same.3 ∙ old.3),
    )

pub returns-clause-runs : goal.returns-clause-runs
returns-clause-runs c = turn_last c.loop-i.invariant.0 c.loop-i-test.false
