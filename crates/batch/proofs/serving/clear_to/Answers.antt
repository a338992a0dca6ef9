-- `batch::serving::clear_to` meets its contract: the key is refused, or the world is fresh at it. Assumes nothing.
use Rattle.std.proofs.lemmas.Result.{err_from_is_err_and}
use Rattle.pool.specs.Codes.{told}
use Rattle.pool.specs.Lent.{world_in}
use Rattle.batch.proofs.CodeServing.{moved_replied, err_replied, clear_to_refused, clear_to_fresh}
use Rattle.batch.proofs.serving.clear_to.Goals as goal

pub returns-in_err-test_key-clause-gives : goal.returns-in_err-test_key-clause-gives
unfolding told
returns-in_err-test_key-clause-gives c =
    let x = c.args in
    let p = err_from_is_err_and c.from_residual.result c.from_residual.ensures.1 in
    err_replied p.1 p.2 (clear_to_refused (world_in x.engine.now.state x.pool.now) x.key x.engine.now.kinds _ c.in_err-test_key.ensures)

pub returns-clause-gives : goal.returns-clause-gives
unfolding told
returns-clause-gives c =
    let x = c.args in
    moved_replied c.moved.ensures (clear_to_fresh (world_in x.engine.now.state x.pool.now) x.key x.engine.now.kinds c.in_ok-test_key.ensures c.reset.ensures.fresh)
