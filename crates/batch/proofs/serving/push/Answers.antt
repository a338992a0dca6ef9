-- `batch::serving::push` meets its contract: what the engine gives. Assumes nothing.
use Rattle.std.proofs.lemmas.Result.{err_from_is_err_and}
use Rattle.pool.specs.Codes.{told}
use Rattle.batch.proofs.CodeServing.{moved_replied, err_replied}
use Rattle.batch.proofs.serving.push.Goals as goal

pub returns-in_err-push-clause-gives : goal.returns-in_err-push-clause-gives
unfolding told
returns-in_err-push-clause-gives c =
    let p = err_from_is_err_and c.from_residual.result c.from_residual.ensures.1 in
    err_replied p.1 p.2 c.in_err-push.ensures.gives

pub returns-clause-gives : goal.returns-clause-gives
unfolding told
returns-clause-gives c = moved_replied c.moved.ensures c.in_ok-push.ensures.gives
