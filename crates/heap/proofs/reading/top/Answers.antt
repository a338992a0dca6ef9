-- `heap::reading::top` meets its contract: it is stopped by the examination, or it reads the top. Assumes nothing.
use borrow.Author.Rules.{rules}
use Rattle.std.proofs.lemmas.Result.{err_from_is_err_and}
use Rattle.pool.proofs.CodeState.{state_typed}
use Rattle.engine.specs.Answers.{top_answered}
use Rattle.heap.specs.Calls.{top_read}
use Rattle.heap.proofs.CodeChecked.{stops, sound_pool}
use Rattle.heap.proofs.CodeCalls.{top_is}
use Rattle.heap.proofs.reading.top.Goals as goal

pub returns-in_err-examine : goal.returns-in_err-examine
unfolding top_read top_answered
returns-in_err-examine c =
    let p = err_from_is_err_and c.from_residual.result c.from_residual.ensures.1 in
    rw (p.1, p.2) (stops _ _ c.in_err-examine.ensures _)

pub returns : goal.returns
returns c =
    let w = sound_pool _ _ c.in_ok-examine.ensures (state_typed _ (search rules) (search rules) (search rules) (λ j. search rules)) in
    top_is w c.top.ensures
