-- `heap::changing::constrain` meets its contract: it is stopped by the examination, or what the engine does is the constrain. Assumes nothing.
use borrow.Author.Rules.{rules}
use Rattle.pool.proofs.Fine.{whole_fine, whole_room}
use Rattle.pool.proofs.CodeState.{state_typed}
use Rattle.engine.specs.Answers.{moves_answered}
use Rattle.heap.specs.Calls.{constrained}
use Rattle.heap.proofs.CodeChecked.{stops, sound_pool}
use Rattle.heap.proofs.CodeCalls.{constrained_is}
use Rattle.heap.proofs.changing.constrain.Goals as goal

pub returns-in-Err : goal.returns-in-Err
unfolding constrained moves_answered
returns-in-Err c = rw (c.refused.ensures.told, c.refused.ensures.state) (stops _ _ c.in-Err.ensures _)

pub constrain-moves-requires : goal.constrain-moves-requires
constrain-moves-requires c =
    let w = sound_pool _ _ c.in_default.ensures (state_typed _ (search rules) (search rules) (search rules) (λ j. search rules)) in
    rw c.of-engine.ensures (record { fine = whole_fine w; room = whole_room w })

pub returns : goal.returns
unfolding moves_answered
returns c =
    let w = sound_pool _ _ c.in_default.ensures (state_typed _ (search rules) (search rules) (search rules) (λ j. search rules)) in
    constrained_is w (rw c.of-engine.ensures at c.constrain-moves.ensures)
