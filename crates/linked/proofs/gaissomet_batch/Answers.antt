-- `linked::gaissomet_batch` meets its contract: what the batch gives, in numbers and in parts. Assumes nothing.
use borrow.Author.Rules.{rules}
use Rattle.linked.proofs.Told.{told_batch}
use Rattle.linked.proofs.gaissomet_batch.Goals as goal

pub returns : goal.returns
returns c = told_batch c.run-ran.result.told c.code.ensures c.unwrap_or.ensures (search rules) (rw c.whole-state.ensures at c.run-ran.ensures.gives)
