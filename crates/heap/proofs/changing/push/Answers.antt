-- `heap::changing::push` meets its contract: it is stopped by the examination, or what the engine does is the push. Assumes nothing.
use borrow.Author.Rules.{rules}
use Rattle.pool.specs.Codes.{told}
use Rattle.pool.proofs.Fine.{whole_ready}
use Rattle.pool.proofs.CodeState.{state_typed}
use Rattle.heap.specs.Calls.{pushed}
use Rattle.heap.proofs.CodeChecked.{viewed, stops, sound_pool}
use Rattle.heap.proofs.CodeCalls.{pushed_is}
use Rattle.heap.proofs.changing.push.Goals as goal

pub returns-in-Err-clause-gives : goal.returns-in-Err-clause-gives
unfolding pushed told
returns-in-Err-clause-gives c =
    let v = c.view.ensures in
    rw (c.refused.ensures.told, c.refused.ensures.state) (stops _ _ (viewed c.args.state c.args.pool.now c.view.result v.keys v.values v.next v.back c.in-Err.ensures) _)

pub push-told-requires : goal.push-told-requires
push-told-requires c =
    let v = c.view.ensures in
    let w = sound_pool _ _ (viewed c.args.state c.args.pool.now c.view.result v.keys v.values v.next v.back c.in_default.ensures) (state_typed _ (search rules) (search rules) (search rules) (λ j. search rules)) in
    rw c.of-engine.ensures (whole_ready w)

pub returns-clause-gives : goal.returns-clause-gives
returns-clause-gives c =
    let v = c.view.ensures in
    let w = sound_pool _ _ (viewed c.args.state c.args.pool.now c.view.result v.keys v.values v.next v.back c.in_default.ensures) (state_typed _ (search rules) (search rules) (search rules) (λ j. search rules)) in
    pushed_is w _ _ _ (rw c.of-engine.ensures at c.push-told.ensures.gives)
