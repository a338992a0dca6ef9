-- `pool::fresh_state` meets its contract: the free chain's first link is `fresh_first`, by the test of the number of slots.
use mathlib.Core.Path.{◌≡◌, ◌∙◌}
use Rattle.pool.specs.Core.{fresh_first, fresh_state}
use Rattle.pool.proofs.CodeFresh.{first_none, first_some}
use Rattle.pool.proofs.fresh.fresh_state.Goals.{then-n-eq0, else-n-eq0}
use Rattle.pool.proofs.fresh.fresh_state.Goals as goal

pub returns : goal.returns
unfolding fresh_state
returns c =
    let first : c.if-n-eq0.first ≡ fresh_first c.args.n = elim c.if-n-eq0.branch [ then-n-eq0 w ↦ w.first-is ∙ first_none _ w.if-n-eq0.true | else-n-eq0 w ↦ w.first-is ∙ first_some _ w.if-n-eq0.false ] in
    c.with_chain.ensures ∙ simp first
