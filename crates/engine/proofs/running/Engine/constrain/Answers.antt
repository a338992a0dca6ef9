-- `engine::running::Engine::constrain` meets its contract: it drains the chain that there is to drain, or does nothing.
use Prim.Native.Nat.{ℕ, ◌<◌}
use mathlib.Core.Bool.{Bool}
use mathlib.Core.List.{List}
use mathlib.Core.Path.{◌≡◌, sym, ◌∙◌, refl, subst}
use native.Mathlib.Omega.{arith}
use borrow.Author.Tests.{ne_eqb}
use lib.ListN.{get_or}
use Rattle.pool.specs.World.{chain_count}
use Rattle.pool.specs.Core.{drain_unless}
use Rattle.engine.specs.Core.{to_drain}
use Rattle.engine.proofs.CodeConstrain.{drain_some_lem, drained_by}
use Rattle.engine.proofs.running.Engine.constrain.Goals as goal

-- the chain is one of them, and is not empty
drains : {b : ℕ} (t : Bool) (first : List ℕ) → b ≡ to_drain t first → 0 < b → (b < chain_count) × (0 < get_or first b 0)
drains t first e n =
    let some = drain_some_lem t first (λ z. omega (arith, n, e, z)) in
    (omega (arith, some.0, e), subst (λ (c : ℕ). 0 < get_or first c 0) (sym e) some.1)

pub drain-requires-clause-chain_bound : goal.drain-requires-clause-chain_bound
drain-requires-clause-chain_bound c = (drains _ _ c.in-Some.ensures.chain c.in-Some.ensures.never_bucket_0).0

pub drain-requires-clause-nonzero : goal.drain-requires-clause-nonzero
drain-requires-clause-nonzero c = (drains _ _ c.in-Some.ensures.chain c.in-Some.ensures.never_bucket_0).1

pub returns-in-Some : goal.returns-in-Some
returns-in-Some c =
    c.drain.ensures ∙ drained_by _ _ _ c.in-Some.ensures.chain (ne_eqb c.in-Some.chain 0 (λ z. omega (arith, c.in-Some.ensures.never_bucket_0, z)))

pub returns-in-None : goal.returns-in-None
unfolding drain_unless
returns-in-None c = drained_by _ _ _ c.in-None.ensures.chain refl
