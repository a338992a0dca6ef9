-- `engine::running::Engine::pop` meets its contract, by its tests. After `ready` the pool is as ready as it was, and has as many entries.
use native.Mathlib.Omega.{arith}
use Rattle.pool.specs.Codes.{refusal_code}
use Rattle.pool.proofs.Steps.{readied_ready}
use Rattle.engine.specs.Answers.{pop_answered}
use Rattle.engine.proofs.CodePop.{pop_none, pop_bare, pop_gives}
use Rattle.engine.proofs.running.Engine.pop.Goals as goal

pub returns-then-self-eq0-clause-gives : goal.returns-then-self-eq0-clause-gives
unfolding pop_answered refusal_code
returns-then-self-eq0-clause-gives c = pop_none _ _ _ _ c.if-self-eq0.true

pub returns-then-self-eq0-2-clause-gives : goal.returns-then-self-eq0-2-clause-gives
unfolding pop_answered refusal_code
returns-then-self-eq0-2-clause-gives c = pop_bare _ _ _ _ c.if-self-eq0.false _ _ _ c.ready-moves.ensures c.if-self-eq0-2.true

pub take_tail-entry-requires-clause-ready : goal.take_tail-entry-requires-clause-ready
take_tail-entry-requires-clause-ready c = (readied_ready _ _ c.requires c.ready-moves.ensures).0

pub take_tail-entry-requires-clause-held : goal.take_tail-entry-requires-clause-held
take_tail-entry-requires-clause-held c =
    let r = readied_ready _ _ c.requires c.ready-moves.ensures in
    omega (arith, r.1, c.if-self-eq0.false)

pub returns-clause-gives : goal.returns-clause-gives
unfolding pop_answered
returns-clause-gives c =
    pop_gives _ _ _ _ c.if-self-eq0.false _ _ _ c.ready-moves.ensures _ _ _ _ c.if-self-eq0-2.false c.take_tail-entry.ensures.gives
