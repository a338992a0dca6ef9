-- `batch::runs::run` meets its contract: the batch as a whole is refused, or every record is answered. Assumes nothing.
use borrow.Author.Rules.{rules}
use Rattle.pool.specs.Codes.{told}
use Rattle.pool.specs.Lent.{world_in}
use Rattle.pool.proofs.CodeState.{state_typed}
use Rattle.batch.proofs.CodeRuns.{told_stopped, told_done, accepted_sound, accepted_room, viewed}
use Rattle.batch.proofs.runs.run.Goals as goal

pub returns-in_default-clause-gives : goal.returns-in_default-clause-gives
unfolding told
returns-in_default-clause-gives c =
    let x = c.args in
    let v = c.view.ensures in
    told_stopped (world_in x.state x.pool.now) _ _ c.in_default.is (viewed x.state x.pool.now c.view.result _ _ v.keys v.values v.next v.back c.in_default.ensures.code)

pub serve_all-requires-clause-whole : goal.serve_all-requires-clause-whole
unfolding told
serve_all-requires-clause-whole c =
    let x = c.args in
    let v = c.view.ensures in
    rw c.of-engine.ensures (accepted_sound (world_in x.state x.pool.now) _ _ (state_typed _ (search rules) (search rules) (search rules) (λ j. search rules))
    (viewed x.state x.pool.now c.view.result _ _ v.keys v.values v.next v.back c.in-Ok.ensures.code))

pub serve_all-requires-clause-n_in_bounds_2 : goal.serve_all-requires-clause-n_in_bounds_2
unfolding told
serve_all-requires-clause-n_in_bounds_2 c =
    let x = c.args in
    let v = c.view.ensures in
    accepted_room (world_in x.state x.pool.now) _ _ (viewed x.state x.pool.now c.view.result _ _ v.keys v.values v.next v.back c.in-Ok.ensures.code) c.in-Ok.ensures.count

pub returns-clause-gives : goal.returns-clause-gives
unfolding told
returns-clause-gives c =
    let x = c.args in
    let v = c.view.ensures in
    told_done (world_in x.state x.pool.now) _ _ c.in-Ok.ensures.count (viewed x.state x.pool.now c.view.result _ _ v.keys v.values v.next v.back c.in-Ok.ensures.code)
    (rw c.of-engine.ensures at c.serve_all.ensures.runs)
