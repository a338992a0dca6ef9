-- `pool::examination::FitPool::stands` meets its contract: each way out, by the tests that led there.
use Rattle.std.proofs.Common.{Bool, cond, arith, sym, ap, ◌∙◌}
use borrow.Author.Tests.{ne_eqb}
use Rattle.pool.specs.Sound.{limit}
use Rattle.pool.specs.Lent.{world_seen}
use Rattle.pool.specs.Walk.{left_over}
use Rattle.pool.specs.Examine.{finish}
use Rattle.pool.proofs.CodeExam.{scan_few, finish_refused, finish_miscounted, finish_counted}
use Rattle.pool.proofs.examination.FitPool.stands.Goals as goal

pub overflow_add-left : goal.overflow_add-left
unfolding left_over limit
overflow_add-left c = let few = scan_few (world_seen c.args.self.now.state.now c.args.self.now.view) c.in-Some.ensures in omega (arith, few, c.args.self.now.fit.small)

pub returns-then-left-self : goal.returns-then-left-self
unfolding left_over
returns-then-left-self c =
    let w = world_seen c.args.self.now.state.now c.args.self.now.view in
    sym (finish_counted w _ c.if-left-self.true c.free_chain_stands.ensures) ∙ ap (finish w) c.in-Some.ensures

pub returns-else-left-self : goal.returns-else-left-self
unfolding left_over
returns-else-left-self c =
    let w = world_seen c.args.self.now.state.now c.args.self.now.view in
    ap (λ (b : Bool). cond b 0 2) (ne_eqb _ _ c.if-left-self.false) ∙ sym (finish_miscounted w _ c.if-left-self.false) ∙ ap (finish w) c.in-Some.ensures

pub returns-in-None : goal.returns-in-None
unfolding left_over
returns-in-None c = let w = world_seen c.args.self.now.state.now c.args.self.now.view in sym (finish_refused w) ∙ ap (finish w) c.in-None.ensures
