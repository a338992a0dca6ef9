-- `batch::records::fields_fit` meets its contract: each arm by its operation. Assumes nothing.
use mathlib.Core.Path.{sym, ◌∙◌}
use native.Mathlib.Omega.{arith}
use Rattle.batch.proofs.CodeBytes.{fit_push, fit_clear, fit_bare, fit_unknown}
use Rattle.batch.proofs.records.fields_fit.Goals as goal

pub returns-in-1 : goal.returns-in-1
returns-in-1 c = c.well_formed-in-1.ensures ∙ sym (fit_push _ _ c.in-1.is)

pub returns-then-well_formed : goal.returns-then-well_formed
returns-then-well_formed c =
    let x = c.args in
    simp (fit_clear x.reader.kind x.r c.in-5.is, sym c.well_formed-in-5.ensures ∙ c.if-well_formed.true)

pub returns-else-well_formed : goal.returns-else-well_formed
returns-else-well_formed c =
    let x = c.args in
    simp (fit_clear x.reader.kind x.r c.in-5.is, sym c.well_formed-in-5.ensures ∙ c.if-well_formed.false, c.if-well_formed.false)

pub returns-in-2 : goal.returns-in-2
returns-in-2 c = c.is_bare.ensures ∙ sym (fit_bare _ _ (λ e. omega arith) (λ e. omega arith) (omega arith) (omega arith))

pub returns-in_default : goal.returns-in_default
returns-in_default c = sym (fit_unknown _ _ (λ k a b e. omega arith))

pub returns-in_default-2 : goal.returns-in_default-2
returns-in_default-2 c = sym (fit_unknown _ _ (λ k a b e. omega arith))
