-- `heap::changing::test_clear_to` meets its contract: the first test that fails tells. Assumes nothing.
use mathlib.Core.Path.{ap, ◌∙◌}
use Rattle.std.proofs.lemmas.Result.{err_from_is_err_and}
use Rattle.keys.specs.declared.kind.Kind.{Kind}
use Rattle.pool.specs.Codes.{told}
use Rattle.engine.specs.Outcome.{key_code}
use Rattle.pool.proofs.Refusals.{refusal_some}
use Rattle.heap.proofs.CodeFresh.{first_told, then_told}
use Rattle.heap.proofs.changing.test_clear_to.Goals as goal

pub returns-in_err-examine : goal.returns-in_err-examine
unfolding told
returns-in_err-examine c =
    let p = err_from_is_err_and c.from_residual.result c.from_residual.ensures.1 in
    rw (p.1, p.2) (first_told _ _ _ c.in_err-examine.ensures (refusal_some _))

pub returns : goal.returns
unfolding told
returns c = then_told _ _ c.in_ok-examine.ensures (c.test_key.ensures ∙ ap (λ (k : Kind). key_code k c.args.key.first c.args.key.second) c.of.ensures)
