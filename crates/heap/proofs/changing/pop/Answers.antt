-- `heap::changing::pop` meets its contract: it is stopped by the examination, or what the engine does is the pop. Assumes nothing.
use borrow.Author.Rules.{rules}
use Rattle.pool.proofs.Fine.{whole_ready}
use Rattle.pool.proofs.CodeState.{state_typed}
use Rattle.engine.specs.Answers.{pop_answered}
use Rattle.heap.specs.Calls.{popped}
use Rattle.heap.proofs.CodeChecked.{viewed, stops, sound_pool}
use Rattle.heap.proofs.CodeCalls.{popped_is}
use Rattle.heap.proofs.changing.pop.Goals as goal

pub returns-in-Err-clause-gives : goal.returns-in-Err-clause-gives
unfolding popped pop_answered
returns-in-Err-clause-gives c =
    let v = c.view.ensures in
    rw (c.refused.ensures.told, c.refused.ensures.state) (stops _ _ (viewed c.args.state c.args.pool.now c.view.result v.keys v.values v.next v.back c.in-Err.ensures) _)

pub pop-told-requires : goal.pop-told-requires
pop-told-requires c =
    let v = c.view.ensures in
    let w = sound_pool _ _ (viewed c.args.state c.args.pool.now c.view.result v.keys v.values v.next v.back c.in_default.ensures) (state_typed _ (search rules) (search rules) (search rules) (λ j. search rules)) in
    rw c.of-engine.ensures (whole_ready w)

pub returns-clause-gives : goal.returns-clause-gives
returns-clause-gives c =
    let v = c.view.ensures in
    let w = sound_pool _ _ (viewed c.args.state c.args.pool.now c.view.result v.keys v.values v.next v.back c.in_default.ensures) (state_typed _ (search rules) (search rules) (search rules) (λ j. let g = c.well_formed in search rules)) in
    popped_is w (rw c.of-engine.ensures at c.pop-told.ensures.gives)
