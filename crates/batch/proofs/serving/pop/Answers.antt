-- `batch::serving::pop` meets its contract: what the engine gives. Assumes nothing.
use Rattle.std.proofs.lemmas.Result.{err_from_is_err_and}
use Rattle.engine.specs.Answers.{pop_answered}
use Rattle.batch.specs.Core.{replied, shown_first, shown_second}
use Rattle.batch.proofs.CodeServing.{err_replied}
use Rattle.batch.proofs.serving.pop.Goals as goal

pub returns-in_err-popped-clause-gives : goal.returns-in_err-popped-clause-gives
unfolding pop_answered
returns-in_err-popped-clause-gives c =
    let p = err_from_is_err_and c.from_residual.result c.from_residual.ensures.1 in
    err_replied p.1 p.2 c.in_err-popped.ensures.gives

pub returns-clause-gives : goal.returns-clause-gives
unfolding pop_answered replied shown_first shown_second
returns-clause-gives c = c.in_ok-popped.ensures.gives
