-- `batch::records::is_formed` meets its contract: by the test of the rest. Assumes nothing.
use mathlib.Core.Path.{sym, ◌∙◌}
use Rattle.batch.proofs.CodeBytes.{formed_by}
use Rattle.batch.proofs.records.is_formed.Goals as goal

pub returns-then-r : goal.returns-then-r
returns-then-r c = c.fields_fit.ensures ∙ sym (formed_by _ _ c.if-r.true)

pub returns-else-r : goal.returns-else-r
returns-else-r c = c.if-r.false ∙ sym (formed_by _ _ c.if-r.false)
