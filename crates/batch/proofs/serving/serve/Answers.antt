-- `batch::serving::serve` meets its contract: the record is formed and its operation acts, or it is refused. Assumes nothing.
use Rattle.std.proofs.lemmas.Result.{err_from_is_err_and}
use Rattle.pool.specs.Lent.{world_in}
use Rattle.batch.proofs.CodeServing.{err_replied, serve_done, serve_refused}
use Rattle.batch.proofs.serving.serve.Goals as goal

pub returns-in_err-asked-clause-gives : goal.returns-in_err-asked-clause-gives
returns-in_err-asked-clause-gives c =
    let x = c.args in
    let p = err_from_is_err_and c.from_residual.result c.from_residual.ensures.1 in
    err_replied p.1 p.2 (serve_refused (world_in x.engine.now.state x.pool.now) x.r x.engine.now.kinds c.in_err-asked.ensures)

pub returns-clause-gives : goal.returns-clause-gives
returns-clause-gives c =
    let x = c.args in
    serve_done (world_in x.engine.now.state x.pool.now) x.r x.engine.now.kinds c.in_ok-asked.ensures c.operate.ensures.gives
