-- `heap::changing::clear` meets its contract: what it gives where the examination stops it, and else. Assumes nothing.
use borrow.Author.Rules.{rules}
use Rattle.pool.specs.Codes.{told}
use Rattle.pool.proofs.CodeState.{state_typed}
use Rattle.engine.specs.Answers.{moves_answered}
use Rattle.heap.specs.Calls.{cleared}
use Rattle.heap.proofs.CodeChecked.{viewed, stops}
use Rattle.heap.proofs.CodeFresh.{passed_small, passed_pooled, cleared_fresh}
use Rattle.heap.proofs.changing.clear.Goals as goal

pub returns-in-Err-clause-gives : goal.returns-in-Err-clause-gives
unfolding cleared moves_answered
returns-in-Err-clause-gives c =
    let v = c.view.ensures in
    rw (c.refused.ensures.told, c.refused.ensures.state) (stops _ _ (viewed c.args.state c.args.pool.now c.view.result v.keys v.values v.next v.back c.in-Err.ensures) _)

pub lay_fresh-requires : goal.lay_fresh-requires
unfolding told
lay_fresh-requires c =
    let v = c.view.ensures in
    passed_small _ (state_typed _ (search rules) (search rules) (search rules) (λ j. search rules)) (viewed c.args.state c.args.pool.now c.view.result v.keys v.values v.next v.back c.in_default.ensures)

pub returns-clause-gives : goal.returns-clause-gives
unfolding told moves_answered
returns-clause-gives c =
    let v = c.view.ensures in
    cleared_fresh _ (state_typed _ (search rules) (search rules) (search rules) (λ j. search rules)) (viewed c.args.state c.args.pool.now c.view.result v.keys v.values v.next v.back c.in_default.ensures) _ (c.lay_fresh.ensures.fresh (passed_pooled _ (state_typed _ (search rules) (search rules) (search rules) (λ j. search rules)) (viewed c.args.state c.args.pool.now c.view.result v.keys v.values v.next v.back c.in_default.ensures)))
