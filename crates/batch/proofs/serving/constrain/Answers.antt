-- `batch::serving::constrain` meets its contract: what the engine gives. Assumes nothing.
use Rattle.pool.specs.Lent.{world_in}
use Rattle.batch.proofs.CodeServing.{moved_replied, constrain_done}
use Rattle.batch.proofs.serving.constrain.Goals as goal

pub returns-clause-gives : goal.returns-clause-gives
returns-clause-gives c =
    let x = c.args in
    moved_replied c.moved.ensures (constrain_done (world_in x.engine.now.state x.pool.now) c.constrain.ensures)
