-- `batch::runs::test_batch` meets its contract: each way out gives the code of `batch_code` under the tests so far. Assumes nothing.
use Rattle.std.proofs.lemmas.Result.{err_from_is_err_and}
use Rattle.pool.specs.Codes.{told, refusal_code}
use Rattle.pool.proofs.Refusals.{refusal_some}
use Rattle.batch.proofs.CodeRuns.{code_stopped, code_ragged, code_short, code_done}
use Rattle.batch.proofs.runs.test_batch.Goals as goal

pub returns-in_err-examine-clause-code : goal.returns-in_err-examine-clause-code
unfolding told
returns-in_err-examine-clause-code c =
    let p = err_from_is_err_and c.from_residual.result c.from_residual.ensures.1 in
    rw (p.1, p.2) (code_stopped _ _ _ c.in_err-examine.ensures (refusal_some _))

pub returns-then-records-ne0-clause-code : goal.returns-then-records-ne0-clause-code
unfolding told refusal_code
returns-then-records-ne0-clause-code c = code_ragged _ _ _ c.in_ok-examine.ensures c.if-records-ne0.true

pub returns-then-answers-n-clause-code : goal.returns-then-answers-n-clause-code
unfolding told refusal_code
returns-then-answers-n-clause-code c = code_short _ _ _ c.in_ok-examine.ensures c.if-records-ne0.false c.if-answers-n.true

pub returns-clause-code : goal.returns-clause-code
unfolding told
returns-clause-code c = code_done _ _ _ c.in_ok-examine.ensures c.if-records-ne0.false c.if-answers-n.false
