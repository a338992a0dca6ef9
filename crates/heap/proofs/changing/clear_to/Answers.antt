-- `heap::changing::clear_to` meets its contract: what it gives where a test stops it, and else. Assumes nothing.
use borrow.Author.Rules.{rules}
use Rattle.pool.specs.Codes.{told}
use Rattle.pool.specs.Lent.{world_in}
use Rattle.pool.proofs.CodeState.{state_typed}
use Rattle.engine.specs.Answers.{moves_answered}
use Rattle.heap.proofs.CodeChecked.{seen}
use Rattle.heap.proofs.CodeFresh.{none_told, seen_to, passed_small, passed_pooled, cleared_to_refused, cleared_to_fresh}
use Rattle.heap.proofs.changing.clear_to.Goals as goal

pub returns-in-Err-clause-gives : goal.returns-in-Err-clause-gives
unfolding told moves_answered
returns-in-Err-clause-gives c =
    let v = c.view.ensures in
    rw (c.refused.ensures.told, c.refused.ensures.state) (cleared_to_refused (world_in c.args.state c.args.pool.now) _ _ _ (seen_to _ _ (seen c.args.state c.args.pool.now c.view.result v.keys v.values v.next v.back) c.in-Err.ensures))

pub lay_fresh-requires : goal.lay_fresh-requires
unfolding told
lay_fresh-requires c =
    let v = c.view.ensures in
    let t = none_told _ _ (seen_to _ _ (seen c.args.state c.args.pool.now c.view.result v.keys v.values v.next v.back) c.in_default.ensures) in
    passed_small (world_in c.args.state c.args.pool.now) (state_typed _ (search rules) (search rules) (search rules) (λ j. search rules)) t.0

pub returns-clause-gives : goal.returns-clause-gives
unfolding told moves_answered
returns-clause-gives c =
    let v = c.view.ensures in
    let t = none_told _ _ (seen_to _ _ (seen c.args.state c.args.pool.now c.view.result v.keys v.values v.next v.back) c.in_default.ensures) in
    cleared_to_fresh (world_in c.args.state c.args.pool.now) (state_typed _ (search rules) (search rules) (search rules) (λ j. search rules)) t.0 c.args.key _ t.1 (c.lay_fresh.ensures.fresh (passed_pooled (world_in c.args.state c.args.pool.now) (state_typed _ (search rules) (search rules) (search rules) (λ j. search rules)) t.0))
