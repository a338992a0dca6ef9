-- `batch::serving::reset` meets its contract: the slices are of one size, and the kind stays. Assumes nothing.
use mathlib.Core.Path.{sym, ap, ◌∙◌}
use Rattle.pool.specs.World.{World}
use Rattle.batch.proofs.CodeServing.{ready_pooled, fresh_kind}
use Rattle.batch.proofs.serving.reset.Goals as goal

pub invariant_of-engine : goal.invariant_of-engine
invariant_of-engine c = record { kinds = c.args.engine.now.kinds ∙ sym (ap (λ (w : World). w.head.kind) (c.lay_fresh-engine.ensures.fresh (ready_pooled c.requires)) ∙ fresh_kind _ _ _) }

pub returns-clause-fresh : goal.returns-clause-fresh
returns-clause-fresh c = c.lay_fresh-engine.ensures.fresh (ready_pooled c.requires)
