-- `engine::running::Engine::ready` meets its contract, by its test.
use mathlib.Core.Path.{◌∙◌}
use borrow.Author.Tests.{eq-eqb, ne_eqb}
use Rattle.pool.specs.Core.{readied}
use Rattle.engine.proofs.running.Engine.ready.Goals as goal

pub returns-then-self-eq0 : goal.returns-then-self-eq0
unfolding readied
returns-then-self-eq0 c = c.constrain.ensures ∙ simp (eq-eqb _ _ c.if-self-eq0.true)

pub returns : goal.returns
unfolding readied
returns c = simp (ne_eqb _ _ c.if-self-eq0.false)
