-- `batch::answers::write` meets its contract: a reply is shown, or a refusal's number. Assumes nothing.
use Rattle.batch.proofs.CodeBytes.{told_ok, told_err}
use Rattle.batch.proofs.answers.write.Goals as goal

pub returns-in-Ok : goal.returns-in-Ok
returns-in-Ok c = told_ok _ _ c.in-Ok.is c.show.ensures

pub returns-in-Err : goal.returns-in-Err
returns-in-Err c = told_err _ _ c.in-Err.is c.from.ensures c.moved.ensures c.show-in-Err.ensures
