-- `engine::constraining::to_drain` meets its contract, by its tests. The busy words lead to the first bucket that has a first link.
use mathlib.Core.Path.{refl, ◌∙◌}
use native.Mathlib.Omega.{arith}
use Rattle.pool.proofs.Lowest.{lowest_summary}
use Rattle.engine.proofs.CodeConstrain.{bucket_none, bucket_some, bucket_low, waiting_none, waiting_some}
use Rattle.engine.proofs.constraining.to_drain.Goals as goal

pub returns-in-Some-clause-chain : goal.returns-in-Some-clause-chain
returns-in-Some-clause-chain c =
    bucket_some _ c.if-state.true (c.in-Some.ensures.number ∙ lowest_summary _ c.requires) (λ e. omega (arith, c.if-bucket-lt-WAITING.true, e))

pub returns-in-Some-2-clause-chain : goal.returns-in-Some-2-clause-chain
returns-in-Some-2-clause-chain c =
    let e = c.in-Some.ensures.number ∙ lowest_summary _ c.requires in
    bucket_none _ c.if-state.true e (omega (arith, bucket_low _ e, c.if-bucket-lt-WAITING.false))

pub returns-in-Some-2-2-clause-chain : goal.returns-in-Some-2-2-clause-chain
returns-in-Some-2-2-clause-chain c =
    let p = bucket_some _ c.if-state.true (c.in-Some.ensures.number ∙ lowest_summary _ c.requires) (λ e. omega (arith, c.if-bucket-gt0.false, e)) in
    omega (arith, p, c.if-bucket-gt0.false)

pub returns-in-None-clause-chain : goal.returns-in-None-clause-chain
returns-in-None-clause-chain c = bucket_none _ c.if-state.true (c.in-None.ensures.number ∙ lowest_summary _ c.requires) refl

pub returns-then-state-eq0-clause-chain : goal.returns-then-state-eq0-clause-chain
returns-then-state-eq0-clause-chain c = waiting_none _ c.if-state.false c.if-state-eq0.true

pub returns-clause-chain : goal.returns-clause-chain
returns-clause-chain c = waiting_some _ c.if-state.false c.if-state-eq0.false
