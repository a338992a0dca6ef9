-- `batch::records::operation_of` meets its contract: by the test of the fields. Assumes nothing.
use mathlib.Core.Path.{sym, ◌∙◌}
use Rattle.batch.proofs.CodeBytes.{not_formed, is_formed}
use Rattle.batch.proofs.records.operation_of.Goals as goal

pub returns-then-not-is_formed : goal.returns-then-not-is_formed
returns-then-not-is_formed c = not_formed _ _ (sym c.is_formed.ensures ∙ c.if-not-is_formed.true)

pub returns : goal.returns
returns c = is_formed _ _ (sym c.is_formed.ensures ∙ c.if-not-is_formed.false) c.named.ensures
